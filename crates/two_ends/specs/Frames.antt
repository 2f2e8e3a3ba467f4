-- What a frame is, read from its bytes (RFC 4340, sections 5 and 5.8), and the numbers that it spells (section 7.6).
use Rattle.std.specs.Prelude.{ℕ, Bool, true, false, not, List, [], Option, Some, None, Result}
use Rattle.std.specs.Result.{result_ok}
use Rattle.dccp_packets.specs.Grammar.{Parts, decoded, is_long, packet_type}
use Rattle.dccp_packets.specs.declared.header.Kind.{Kind}
use Rattle.dccp_packets.specs.declared.header.Kind.TheVariants as kind
use Rattle.dccp_options.specs.Grammar.{Entry, options_of}
use Rattle.dccp_options.specs.declared.option.OptFault.{OptFault}
use Rattle.dccp_packets.specs.Kinds.{is_data}
use Rattle.dccp_endpoint.specs.Spelled.{IsSpelled}
use Rattle.two_ends.specs.declared.frames.SentFrame.{SentFrame}

-- the packet that these bytes are, if they can be read as one
abbrev pub packet_of : List ℕ → Option Parts
packet_of bytes = result_ok (decoded bytes)

-- the packet has short numbers
abbrev pub is_short_packet : Option Parts → Bool
is_short_packet None = false
is_short_packet (Some p) = not (is_long p.header.number)

-- A frame's bytes are a packet that spells the frame's numbers, in the width of its form.
abbrev pub SpellsItsNumbers : SentFrame → Type 0
SpellsItsNumbers frame = IsSpelled (record { bytes = frame.bytes; number = frame.number; ack = frame.ack })

-- of the ten packet types only Reset
abbrev pub is_reset : Kind → Bool
is_reset (kind.Reset ack code detail) = true
is_reset (kind.Request service) = false
is_reset (kind.Response ack service) = false
is_reset kind.Data = false
is_reset (kind.Ack ack) = false
is_reset (kind.DataAck ack) = false
is_reset (kind.CloseReq ack) = false
is_reset (kind.Close ack) = false
is_reset (kind.Sync ack) = false
is_reset (kind.SyncAck ack) = false

-- the options of a packet, and of bytes that are one
abbrev pub packet_options : Option Parts → List (Result Entry OptFault)
packet_options None = []
packet_options (Some p) = options_of p.options (is_data (packet_type p.header.kind))

-- bytes that are no packet have no options
abbrev pub options_in : List ℕ → List (Result Entry OptFault)
options_in bytes = packet_options (packet_of bytes)
