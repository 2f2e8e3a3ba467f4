-- Processed numbers by plain counts, and frames by their numbers (own).
use Rattle.std.specs.Prelude.{◌≡◌, ℕ, ◌≤◌, List, Some, Contains, slice_get}
use Rattle.dccp_packets.specs.Grammar.{Parts, packet_type}
use Rattle.dccp_packets.specs.declared.header.PacketType.TheVariants as types
use Rattle.seq_circle.specs.Counts.{number_of}
use Rattle.two_ends.specs.declared.frames.SentFrame.{SentFrame}
use Rattle.two_ends.specs.Frames.{packet_of}

-- The number is that of one of the first `most` packets of an end whose first number is ISS.
pub record IsAmongFirst (iss most number : ℕ) : Type 0 where
  pub count : ℕ
  pub some : 1 ≤ count
  pub early : count ≤ most
  pub same : number ≡ number_of iss count

-- all of these numbers are among those of the first packets
abbrev pub AreAmongFirst : ℕ → ℕ → List ℕ → Type 0
AreAmongFirst iss most numbers = (number : ℕ) → Contains numbers number → IsAmongFirst iss most number

-- the frames with this number, if there are any, are Resets
abbrev pub AreResets : List SentFrame → ℕ → Type 0
AreResets frames number = (index : ℕ) (frame : SentFrame) (packet : Parts) → slice_get frames index ≡ Some frame → packet_of frame.bytes ≡ Some packet
    → frame.number ≡ number → packet_type packet.header.kind ≡ types.Reset
