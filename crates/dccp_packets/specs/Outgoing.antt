-- What goes out: a frame with its numbers, whole (RFC 4340, section 7.6).
use Rattle.std.specs.Prelude.{ℕ, List, Option, Some, None}
use Rattle.dccp_packets.specs.declared.frame.Numbers.{Numbers}

-- the bytes of a packet that goes out, its sequence number, and its acknowledgement number if it has one
pub record Outgoing : Type 0 where
  pub bytes : List ℕ
  pub number : ℕ
  pub ack : Option ℕ

-- bytes with numbers
abbrev pub outgoing : Numbers → List ℕ → Outgoing
outgoing numbers bytes = record { bytes = bytes; number = numbers.number; ack = numbers.ack }

-- bytes go out if they have numbers
abbrev pub outgoing_if : Option Numbers → List ℕ → Option Outgoing
outgoing_if None bytes = None
outgoing_if (Some numbers) bytes = Some (outgoing numbers bytes)

-- the bytes alone of what goes out, if anything does
abbrev pub bytes_sent : Option Outgoing → Option (List ℕ)
bytes_sent None = None
bytes_sent (Some sent) = Some sent.bytes
