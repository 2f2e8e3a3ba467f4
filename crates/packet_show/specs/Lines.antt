-- The line of a record, and what is skipped (own).
use Rattle.std.specs.Prelude.{◌≡◌, ℕ, Bool, true, false, if◌then◌else◌, List, [], ◌++◌, length, codes, decimal, Option, Some, None, Result, Ok, Err}
use Rattle.dccp_packets.specs.declared.header.Header.{Header}
use Rattle.dccp_packets.specs.declared.reading.Malformed.{Malformed}
use Rattle.dccp_packets.specs.declared.reading.Packet.{Packet}
use Rattle.dccp_packets.specs.Grammar.{Parts, decoded, packet_type}
use Rattle.dccp_packets.specs.Kinds.{is_data}
use Rattle.dccp_options.specs.Grammar.{options_of}
use Rattle.dccp_sum.specs.Checksum.{checked}
use Rattle.tool_text.specs.Names.{malformed_name}
use Rattle.capture_reader.specs.Records.{RecordParts}
use Rattle.packet_show.specs.declared.flows.Shown.{Shown}
use Rattle.packet_show.specs.declared.flows.Shown.TheVariants.{Line, Skipped}
use Rattle.packet_show.specs.Network.{DatagramParts, carried}
use Rattle.packet_show.specs.Flows.{Flow, flow_number, flow_of, with_flow}
use Rattle.packet_show.specs.Names.{type_name, sum_name}
use Rattle.packet_show.specs.Text.{fraction_text, from_text, to_text, number_text, kind_text, options_text}

-- a packet, without the places of its parts
abbrev pub parts_by : Packet → Parts
parts_by p = record { header = p.header; options = p.options.now; payload = p.payload.now }

-- the result of a record: the text that is written, whether there is a line, and the flows that were seen
pub record ShowStep : Type 0 where
  pub text : List ℕ
  pub shown : Shown
  pub flows : List Flow

-- the text was added to what was there, and the flows and the answer are these
pub record Shows (showing : ShowStep) (old new : List ℕ) (seen : List Flow) (answer : Shown) : Type 0 where
  pub written : new ≡ old ++ showing.text
  pub noted : seen ≡ showing.flows
  pub answered : answer ≡ showing.shown

-- a record's number and its time
abbrev pub stamp_text : RecordParts → List ℕ
stamp_text entry =
    decimal entry.number ++ codes " " ++ decimal entry.seconds ++ codes "." ++ fraction_text entry.nanos entry.fraction

-- the flow's number, and the end that sends the packet
abbrev pub sender_text : DatagramParts → ℕ → ℕ → List ℕ
sender_text there port flow = codes " flow " ++ decimal flow ++ codes " " ++ from_text there.pseudo ++ codes " " ++ decimal port

-- the end that receives it
abbrev pub receiver_text : DatagramParts → ℕ → List ℕ
receiver_text there port = codes " > " ++ to_text there.pseudo ++ codes " " ++ decimal port

-- the type, the sequence number, and the fields that only this type carries
abbrev pub header_text : Header → List ℕ
header_text header =
    codes " " ++ type_name (packet_type header.kind) ++ codes " seq " ++ number_text header.number ++ kind_text header.kind

-- the verdict on the checksum; it is unknown if bytes are missing
abbrev pub sum_text : DatagramParts → List ℕ
sum_text there = codes " sum " ++ (if there.whole then sum_name (checked there.pseudo there.bytes) else codes "unknown")

-- the options, without those that Data packets ignore, and how many bytes of data are there
abbrev pub body_text : Parts → List ℕ
body_text packet =
    options_text (options_of packet.options (is_data (packet_type packet.header.kind))) ++ codes " data " ++ decimal (length packet.payload)

-- what follows a packet's header: its options and data, and the checksum
abbrev pub rest_text : DatagramParts → Parts → List ℕ
rest_text there packet = body_text packet ++ sum_text there ++ codes "\n"

-- the line of a packet: its record, its flow and ends, its header, and then options, data and checksum
abbrev pub packet_line : RecordParts → DatagramParts → Parts → ℕ → List ℕ
packet_line entry there packet flow =
    stamp_text entry ++ sender_text there packet.header.from flow ++ receiver_text there packet.header.to ++ header_text packet.header ++ rest_text there packet

-- what a packet says: its header, its options and data
abbrev pub words_text : Parts → List ℕ
words_text packet = header_text packet.header ++ body_text packet

-- the line of bytes that are no packet: their record, and what is wrong with them
abbrev pub malformed_line : RecordParts → Malformed → List ℕ
malformed_line entry why = stamp_text entry ++ codes " malform" ++ codes "ed " ++ malformed_name why ++ codes "\n"

-- no line
abbrev pub skips : List Flow → ShowStep
skips seen = record { text = []; shown = Skipped; flows = seen }

-- a packet's line, which numbers its flow
abbrev pub shows_packet : List Flow → RecordParts → DatagramParts → Parts → Flow → ShowStep
shows_packet seen entry there packet flow =
    record { text = packet_line entry there packet (flow_number flow seen); shown = Line; flows = with_flow flow seen }

-- bytes that are complete but no packet have a line too, and no flow; if bytes are missing, the record is skipped
abbrev pub shows_malformed : List Flow → RecordParts → Bool → Malformed → ShowStep
shows_malformed seen entry true why = record { text = malformed_line entry why; shown = Line; flows = seen }
shows_malformed seen entry false why = skips seen

-- the result of DCCP bytes, which may be a packet or not
abbrev pub shows_decoded : List Flow → RecordParts → DatagramParts → Result Parts Malformed → ShowStep
shows_decoded seen entry there (Ok packet) =
    shows_packet seen entry there packet (flow_of there.pseudo packet.header.from packet.header.to)
shows_decoded seen entry there (Err why) = shows_malformed seen entry there.whole why

-- a record that carries no DCCP is skipped
abbrev pub shows_carried : List Flow → RecordParts → Option DatagramParts → ShowStep
shows_carried seen entry None = skips seen
shows_carried seen entry (Some there) = shows_decoded seen entry there (decoded there.bytes)

-- the result of a record, after these flows were seen
abbrev pub shows : List Flow → RecordParts → ShowStep
shows seen entry = shows_carried seen entry (carried entry.link entry.bytes)
