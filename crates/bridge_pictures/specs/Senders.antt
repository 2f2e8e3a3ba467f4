-- CCID 2, given what is seen of a sender: its packets of data, and the Ack Vectors that come to it (RFC 4341, section 5, for the windows; the
-- rest is own).
use Rattle.std.specs.Prelude.{ℕ, if◌then◌else◌, Option, Some, None}
use Rattle.ccid_two.specs.Window.{State, ccid_control}
use Rattle.congestion_trait.specs.Control.{may_send}
use Rattle.congestion_trait.specs.Flight.{pipe_of}
use Rattle.dccp_options.specs.Grammar.{options_of}
use Rattle.dccp_options.specs.Vectors.{VectorReport, report_of, state_at}
use Rattle.dccp_packets.specs.Grammar.{Parts, packet_type}
use Rattle.dccp_packets.specs.Kinds.{ack_of, is_data}
use Rattle.dccp_packets.specs.declared.header.Header.{Header}
use Rattle.dccp_packets.specs.declared.header.Number.{Number}
use Rattle.dccp_packets.specs.declared.header.Number.TheVariants.{Long, Short}
use Rattle.dccp_packets.specs.declared.header.PacketType.{PacketType}
use Rattle.dccp_packets.specs.declared.header.PacketType.TheVariants as types
use Rattle.bridge_pictures.specs.declared.windows.chart.Counts.{Counts}

-- a number of 48 bits
abbrev pub long_number : Number → Option ℕ
long_number (Long n) = Some n
long_number (Short n) = None

-- the number of a packet of data that is counted, from its type
abbrev pub data_number_of : PacketType → Number → Option ℕ
data_number_of types.Data number = long_number number
data_number_of types.DataAck number = long_number number
data_number_of _ number = None

-- the number of a packet of data that is counted: one of 48 bits
abbrev pub data_number : Header → Option ℕ
data_number header = data_number_of (packet_type header.kind) header.number

-- an acknowledgement number beside a number of 48 bits
abbrev pub ack_beside : Number → Option ℕ → Option ℕ
ack_beside (Long n) ack = ack
ack_beside (Short n) ack = None

-- the number from which the Ack Vectors of a packet report; the number that a Sync acknowledges may be any
abbrev pub vectors_of_type : PacketType → Number → Option ℕ → Option ℕ
vectors_of_type types.Sync number ack = None
vectors_of_type _ number ack = ack_beside number ack

-- the number from which the Ack Vectors of a packet with this header report
abbrev pub vectors_from : Header → Option ℕ
vectors_from header = vectors_of_type (packet_type header.kind) header.number (ack_of header.kind)

-- a packet of data was sent, if the window allows one
abbrev pub send_of : State → Option ℕ → State
send_of s None = s
send_of s (Some number) = if may_send ccid_control s then ccid_control.with_sent s number else s

-- The sender sent a packet.
unfoldable pub send_seen : State → Header → State
send_seen s header = send_of s (data_number header)

-- a report came, of a peer that acknowledges every second packet
abbrev pub report_given : State → Option VectorReport → State
report_given s None = s
report_given s (Some report) = ccid_control.with_report s (state_at report.ack report.bytes) 2

-- what a packet reports up to this number
abbrev pub report_up_to : State → Option ℕ → Parts → State
report_up_to s None packet = s
report_up_to s (Some ack) packet = report_given s (report_of ack (options_of packet.options (is_data (packet_type packet.header.kind))))

-- A packet came to the sender.
unfoldable pub report_seen : State → Parts → State
report_seen s packet = report_up_to s (vectors_from packet.header) packet

-- what the sender counts
abbrev pub counts_seen : State → Counts
counts_seen s = record { window = ccid_control.window s; flight = pipe_of (ccid_control.flight s) }
