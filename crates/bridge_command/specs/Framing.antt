-- What `frames` makes of a capture, classic or pcapng: lines of a replay for the packets of one flow that go to one of
-- its sides (own).
use Rattle.std.specs.Prelude.{◌≡◌, ℕ, ◌==◌, ◌++◌, Bool, false, true, is_some, if◌then◌else◌, List, [], codes, Option, Some, None, Result, Ok, Err}
use Rattle.capture_reader.specs.Records.{RecordParts}
use Rattle.dccp_packets.specs.Grammar.{Parts, decoded, packet_type}
use Rattle.dccp_packets.specs.declared.header.PacketType.{PacketType}
use Rattle.dccp_packets.specs.declared.header.Number.{Number}
use Rattle.dccp_packets.specs.declared.header.Number.TheVariants.{Long, Short}
use Rattle.dccp_packets.specs.declared.reading.Malformed.{Malformed}
use Rattle.packet_show.specs.Flows.{AddressAndPort, Flow, flow_number, flow_of, from_end, with_flow}
use Rattle.bridge_pictures.specs.Walk.{ends_by, record_after_link, side_from}
use Rattle.packet_show.specs.Lines.{packet_line}
use Rattle.packet_show.specs.Network.{DatagramParts, carried}
use Rattle.bridge_records.specs.Pieces.{PiecesResult, text_of_pieces}
use Rattle.bridge_records.specs.Recording.{RecordStep, RecordWork, RecordsState, records_of, records_work}
use Rattle.schedule_text.specs.Frames.{frame_line, read_frame}
use Rattle.schedule_text.specs.declared.line.FrameLine.{FrameLine}
use Rattle.world_events.specs.declared.event.Side.{Side}
use Rattle.world_events.specs.declared.event.Side.TheVariants.{Client, Server}
use Rattle.bridge_command.specs.Mapping.{frame_for, usual_end}
use Rattle.bridge_command.specs.FrameLines.{comment_line, packet_frame_line, packet_frame_words}
use Rattle.bridge_command.specs.declared.frames.framing.FlowSearch.{FlowSearch}
use Rattle.bridge_command.specs.declared.frames.framing.KnownFlow.{KnownFlow}
use Rattle.bridge_command.specs.declared.frames.mapping.NoFrame.{NoFrame}

-- A packet of the flow that goes to the side: its line of `show`, and its frame, or why it has none.
pub record FlowPacket : Type 0 where
  pub line : List ℕ
  pub frame : Result (List ℕ) NoFrame

-- its two lines: a comment, and the frame
abbrev pub flow_packet_text : FlowPacket → List ℕ
flow_packet_text p = comment_line p.line ++ packet_frame_line p.frame

-- the frame that its second line says, whose checksum is to be set, if it has one
abbrev pub frame_said : Result (List ℕ) NoFrame → Option FrameLine
frame_said (Ok bytes) = Some (frame_line true bytes)
frame_said (Err why) = None

-- `replay` reads its two lines: the first means nothing, and the second is its frame, or means nothing if it has none.
pub record IsReadBack (p : FlowPacket) : Type 0 where
  pub comment : List ℕ
  pub is_line : comment_line p.line ≡ comment ++ codes "\n"
  pub nothing : read_frame comment ≡ Ok None
  pub frame : read_frame (packet_frame_words p.frame) ≡ Ok (frame_said p.frame)

-- before the first record, if this flow is asked for
abbrev pub first_framing : ℕ → Side → FlowSearch
first_framing flow side =
    record { flow = flow; side = side; end = usual_end side; flows = []; known = None }

-- what is known of the flow at a packet of this type that this end sent: the sender of the first packet is the client, unless it answers as a
-- server does
abbrev pub known_by : Option KnownFlow → AddressAndPort → PacketType → KnownFlow
known_by (Some known) from kind = known
known_by None from kind = record { ends = ends_by None from kind; initial = None }

-- the captured end's initial number: the first of 48 bits that it sent
abbrev pub initial_by : Option ℕ → Number → Option ℕ
initial_by (Some initial) number = Some initial
initial_by None (Long number) = Some number
initial_by None (Short number) = None

-- what is known of the flow, after the captured end sent this number
abbrev pub known_number : KnownFlow → Number → KnownFlow
known_number known number = record { ends = known.ends; initial = initial_by known.initial number }

-- a packet goes to this side if the other side sent it
abbrev pub goes_to : Side → Side → Bool
goes_to Client Client = false
goes_to Client Server = true
goes_to Server Client = true
goes_to Server Server = false

-- the same state, when this is known of the flow
abbrev pub with_known : FlowSearch → KnownFlow → FlowSearch
with_known s known = record s { known = Some known }

-- the two lines of a packet that goes to the side
abbrev pub flow_packet : FlowSearch → KnownFlow → RecordParts → DatagramParts → Parts → FlowPacket
flow_packet s known entry there packet =
    record { line = packet_line entry there packet s.flow; frame = frame_for s.end known.initial packet }

-- a record writes nothing
abbrev pub passed_over : FlowSearch → RecordStep FlowPacket FlowSearch
passed_over s = record { deed = None; next = s }

-- a packet that goes to the side has its lines; the number of a packet that the captured end sent is noted
abbrev pub by_direction : FlowSearch → KnownFlow → RecordParts → DatagramParts → Parts → Bool → RecordStep FlowPacket FlowSearch
by_direction s known entry there packet goes =
    if goes then record { deed = Some (flow_packet s known entry there packet); next = with_known s known }
    else passed_over (with_known s (known_number known packet.header.number))

-- a packet of the flow, from the side that sent it
unfoldable pub by_sender : FlowSearch → RecordParts → DatagramParts → Parts → AddressAndPort → RecordStep FlowPacket FlowSearch
by_sender s entry there packet from =
    let known = known_by s.known from (packet_type packet.header.kind) in
    by_direction s known entry there packet (goes_to s.side (side_from known.ends from))

-- a packet of the flow that is asked for is looked at, and one of another flow is not
abbrev pub by_number : FlowSearch → ℕ → RecordParts → DatagramParts → Parts → RecordStep FlowPacket FlowSearch
by_number s number entry there packet =
    if number == s.flow then by_sender s entry there packet (from_end there.pseudo packet.header.from) else passed_over s

-- a packet's flow is numbered as `show` numbers it
abbrev pub by_flow : FlowSearch → RecordParts → DatagramParts → Parts → Flow → RecordStep FlowPacket FlowSearch
by_flow s entry there packet flow =
    by_number (record s { flows = with_flow flow s.flows }) (flow_number flow s.flows) entry there packet

-- DCCP bytes that are no packet are skipped
abbrev pub by_decoded : FlowSearch → RecordParts → DatagramParts → Result Parts Malformed → RecordStep FlowPacket FlowSearch
by_decoded s entry there (Ok packet) = by_flow s entry there packet (flow_of there.pseudo packet.header.from packet.header.to)
by_decoded s entry there (Err why) = passed_over s

-- a record that carries no DCCP is skipped, too
abbrev pub by_carried : FlowSearch → RecordParts → Option DatagramParts → RecordStep FlowPacket FlowSearch
by_carried s entry None = passed_over s
by_carried s entry (Some there) = by_decoded s entry there (decoded there.bytes)

-- the result of a record
unfoldable pub framed_record : FlowSearch → RecordParts → RecordStep FlowPacket FlowSearch
framed_record s entry = by_carried s entry (carried entry.link entry.bytes)

-- What `frames` makes of the records of a capture. Nothing follows the last.
abbrev pub frames_work : RecordWork FlowPacket FlowSearch
frames_work = record {
  begun = λ s nanos. passed_over s;
  passed = λ s e. framed_record s (record_after_link e);
  told = flow_packet_text;
  closing = λ job untold records end. [];
}

-- the result of the pieces of an input, for this flow and side
abbrev pub frames_pieces : ℕ → Side → List ℕ → PiecesResult FlowPacket (RecordsState FlowSearch)
frames_pieces flow side input = records_of frames_work (first_framing flow side) input

-- What `frames` writes for an input.
abbrev pub frames_text : ℕ → Side → List ℕ → List ℕ
frames_text flow side input = text_of_pieces (records_work frames_work) (frames_pieces flow side input)

-- The capture has a fault.
abbrev pub is_frames_faulty : ℕ → Side → List ℕ → Bool
is_frames_faulty flow side input = is_some (frames_pieces flow side input).refusal
