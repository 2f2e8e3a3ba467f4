-- The numbers that are returned with a frame are those that its bytes spell (RFC 4340, sections 5.1 and 7.6).
use Rattle.std.specs.Prelude.{◌≡◌, ℕ, ◌%◌, ◌^◌, Bool, Option, Some, None, Ok, if◌then◌else◌}
use Rattle.dccp_packets.specs.Grammar.{Parts, decoded, is_long}
use Rattle.dccp_packets.specs.Kinds.{ack_of, value_of}
use Rattle.dccp_packets.specs.Outgoing.{Outgoing}
use Rattle.dccp_endpoint.specs.End.{EndState, IsProper}
use Rattle.dccp_endpoint.specs.Inputs.{Input, end_stepped}

-- a number as its bits are in a packet: all of them, or the low 24 (RFC 4340, section 5.1)
abbrev pub in_width : Bool → ℕ → ℕ
in_width long n = if long then n else n % 2 ^ 24

-- the same for the acknowledgement number of a packet that may have none
abbrev pub ack_in_width : Bool → Option ℕ → Option ℕ
ack_in_width long None = None
ack_in_width long (Some ack) = Some (in_width long ack)

-- The bytes are a packet that spells these numbers, in the width of its form.
pub record IsSpelled (sent : Outgoing) : Type 0 where
  pub packet : Parts
  pub is_packet : decoded sent.bytes ≡ Ok packet
  pub number : value_of packet.header.number ≡ in_width (is_long packet.header.number) sent.number
  pub ack : ack_of packet.header.kind ≡ ack_in_width (is_long packet.header.number) sent.ack

-- Whatever happens to an end, what goes out spells the numbers that are returned with it.
abbrev pub FramesSpellWhatIsTold : Type 0
FramesSpellWhatIsTold = (e : EndState) (given : Input) (sent : Outgoing) → IsProper e → (end_stepped e given).frame ≡ Some sent → IsSpelled sent
