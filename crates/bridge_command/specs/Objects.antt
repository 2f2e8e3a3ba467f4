-- A record of a capture as an object (RFC 4340, section 5, for the fields of a packet; the names of members are own).
use Rattle.std.specs.Prelude.{ℕ, ◌*◌, ◌/◌, ◌%◌, Bool, not, if◌then◌else◌, List, length, slice_index, codes}
use Rattle.std.specs.Net.Addr.{segments_of}
use Rattle.std.specs.Net.Text.{ipv4_text, ipv6_text}
use Rattle.hex.specs.Hex.{encode_lower}
use Rattle.serde_json.specs.Data.{Members, no_members}
use Rattle.dccp_options.specs.Grammar.{options_of}
use Rattle.dccp_packets.specs.Grammar.{Parts, is_long, packet_type}
use Rattle.dccp_packets.specs.Kinds.{is_data, value_of}
use Rattle.dccp_packets.specs.declared.header.Header.{Header}
use Rattle.dccp_packets.specs.declared.header.Kind.{Kind}
use Rattle.dccp_packets.specs.declared.header.Kind.TheVariants.{Request, Response, Data, Ack, DataAck, CloseReq, Close, Reset, Sync, SyncAck}
use Rattle.dccp_packets.specs.declared.header.Number.{Number}
use Rattle.dccp_packets.specs.declared.header.Number.TheVariants.{Long}
use Rattle.dccp_packets.specs.declared.reading.Malformed.{Malformed}
use Rattle.dccp_sum.specs.Checksum.{checked}
use Rattle.dccp_sum.specs.declared.pseudo_header.Pseudo.{Pseudo}
use Rattle.dccp_sum.specs.declared.pseudo_header.Pseudo.TheVariants.{V4, V6}
use Rattle.capture_reader.specs.Records.{RecordParts}
use Rattle.packet_show.specs.Names.{sum_name, type_name}
use Rattle.packet_show.specs.Network.{DatagramParts}
use Rattle.tool_text.specs.Names.{malformed_name}
use Rattle.bridge_links.specs.Links.{ip_bytes}
use Rattle.bridge_command.specs.Judging.{HoldsMalformed, HoldsNone, HoldsPacket, RecordReading, judged_ip}
use Rattle.bridge_command.specs.Members.{with_list_named, with_number_named, with_text_named, with_truth_named}
use Rattle.bridge_command.specs.OptionObjects.{option_values}
use Rattle.bridge_command.specs.Skips.{skip_name}

-- the fraction of a time in nanoseconds
abbrev pub nanoseconds_of : Bool → ℕ → ℕ
nanoseconds_of nanos fraction = if nanos then fraction else fraction * 1000

-- a record's number, its time, its link type, how many bytes it had on the link, and how many were captured
abbrev pub with_stamp : RecordParts → Members → Members
with_stamp e members =
    with_number_named (codes "captured") (length e.bytes) (with_number_named (codes "length") e.original (with_number_named (codes "link") e.link
    (with_number_named (codes "nanoseconds") (nanoseconds_of e.nanos e.fraction) (with_number_named (codes "seconds") e.seconds
    (with_number_named (codes "record") e.number members)))))

-- an address of IPv4, or one of IPv6 as RFC 5952 writes it
abbrev pub source_text : Pseudo → List ℕ
source_text (V4 from to) = ipv4_text from
source_text (V6 from to) = ipv6_text (segments_of from)

-- the address that a packet goes to
abbrev pub destination_text : Pseudo → List ℕ
destination_text (V4 from to) = ipv4_text to
destination_text (V6 from to) = ipv6_text (segments_of to)

-- the addresses that a packet goes from and to
abbrev pub with_addresses : DatagramParts → Members → Members
with_addresses there members =
    with_text_named (codes "destination") (destination_text there.pseudo) (with_text_named (codes "source") (source_text there.pseudo) members)

-- how many hops an IP packet may still go (RFC 791, section 3.1; RFC 8200, section 3)
abbrev pub hops_of : Pseudo → List ℕ → ℕ
hops_of (V4 from to) ip = slice_index ip 8
hops_of (V6 from to) ip = slice_index ip 7

-- its ECN field: the last two bits of the byte for it, which in IPv6 comes after the four bits of the version (RFC 3168, section 5)
abbrev pub ecn_of : Pseudo → List ℕ → ℕ
ecn_of (V4 from to) ip = slice_index ip 1 % 4
ecn_of (V6 from to) ip = slice_index ip 1 / 16 % 4

-- the hops, the ECN field and the addresses
abbrev pub with_ip : DatagramParts → List ℕ → Members → Members
with_ip there ip members =
    with_addresses there (with_number_named (codes "ecn") (ecn_of there.pseudo ip) (with_number_named (codes "ttl") (hops_of there.pseudo ip) members))

-- the ports
abbrev pub with_ports : Header → Members → Members
with_ports header members = with_number_named (codes "destination_port") header.to (with_number_named (codes "source_port") header.from members)

-- the fields of the generic header (RFC 4340, section 5.1)
abbrev pub with_header_fields : Header → Members → Members
with_header_fields header members =
    with_number_named (codes "checksum") header.checksum (with_number_named (codes "cscov") header.cscov (with_number_named (codes "ccval") header.ccval
    (with_truth_named (codes "short") (not (is_long header.number)) (with_number_named (codes "sequence") (value_of header.number)
    (with_text_named (codes "type") (type_name (packet_type header.kind)) members)))))

-- the acknowledgement number
abbrev pub with_ack : Number → Members → Members
with_ack ack members = with_number_named (codes "acknowledgement") (value_of ack) members

-- the Service Code
abbrev pub with_service : ℕ → Members → Members
with_service service members = with_number_named (codes "service_code") service members

-- the Reset Code, and Data 1 to 3
abbrev pub with_code : ℕ → List ℕ → Members → Members
with_code code detail members =
    with_number_named (codes "data_3") (slice_index detail 2) (with_number_named (codes "data_2") (slice_index detail 1)
    (with_number_named (codes "data_1") (slice_index detail 0) (with_number_named (codes "reset_code") code members)))

-- what only packets of one type carry (RFC 4340, sections 5.2 to 5.7)
abbrev pub with_kind : Kind → Members → Members
with_kind (Request service) members = with_service service members
with_kind (Response ack service) members = with_service service (with_ack (Long ack) members)
with_kind Data members = members
with_kind (Ack ack) members = with_ack ack members
with_kind (DataAck ack) members = with_ack ack members
with_kind (CloseReq ack) members = with_ack (Long ack) members
with_kind (Close ack) members = with_ack (Long ack) members
with_kind (Reset ack code detail) members = with_code code detail (with_ack (Long ack) members)
with_kind (Sync ack) members = with_ack (Long ack) members
with_kind (SyncAck ack) members = with_ack (Long ack) members

-- the options, of which some are ignored on Data packets
abbrev pub with_options : Parts → Members → Members
with_options packet members =
    with_list_named (codes "options") (option_values (options_of packet.options (is_data (packet_type packet.header.kind)))) members

-- the verdict on the checksum; it is unknown if bytes are missing
abbrev pub verdict_name : DatagramParts → List ℕ
verdict_name there = if there.whole then sum_name (checked there.pseudo there.bytes) else codes "unknown"

-- the bytes of data in hexadecimal, if they are asked for
abbrev pub with_payload : Bool → List ℕ → Members → Members
with_payload payload bytes members = if payload then with_text_named (codes "payload") (encode_lower bytes) members else members

-- how many bytes of data are there, and the verdict on the checksum
abbrev pub with_rest : DatagramParts → Parts → Members → Members
with_rest there packet members = with_text_named (codes "verdict") (verdict_name there) (with_number_named (codes "data") (length packet.payload) members)

-- a packet: its ports, its header, what only its type carries, its options, and the rest
abbrev pub with_packet_fields : Bool → DatagramParts → Parts → Members → Members
with_packet_fields payload there packet members =
    with_payload payload packet.payload (with_rest there packet (with_options packet (with_kind packet.header.kind
    (with_header_fields packet.header (with_ports packet.header members)))))

-- why bytes are no packet
abbrev pub with_malformed : DatagramParts → List ℕ → Malformed → Members → Members
with_malformed there ip why members = with_text_named (codes "malformed") (malformed_name why) (with_ip there ip members)

-- what a record holds: a packet of this flow, or why its bytes are no packet, or why it is skipped
abbrev pub with_judged : Bool → ℕ → List ℕ → RecordReading → Members → Members
with_judged payload flow ip (HoldsPacket there packet) members =
    with_packet_fields payload there packet (with_number_named (codes "flow") flow (with_ip there ip members))
with_judged payload flow ip (HoldsMalformed there why) members = with_malformed there ip why members
with_judged payload flow ip (HoldsNone why) members = with_text_named (codes "skipped") (skip_name why) members

-- The object of a record, whose packet is of this flow.
unfoldable pub record_members : Bool → ℕ → RecordParts → Members
record_members payload flow e =
    with_judged payload flow (ip_bytes e.link e.bytes) (judged_ip (ip_bytes e.link e.bytes)) (with_stamp e no_members)
