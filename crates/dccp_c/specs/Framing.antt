-- A frame as C gets it: its bytes and its number (own).
use Rattle.std.specs.Prelude.{ℕ, List, [], take, Option, Some, None}
use Rattle.dccp_packets.specs.Outgoing.{Outgoing}
use Rattle.dccp_c.specs.declared.frame.Frame.{Frame}

-- what C gets in the frame that it gave: the bytes and the number; no bytes and 0 if nothing goes out
pub record FrameFields : Type 0 where
  pub bytes : List ℕ
  pub number : ℕ

-- nothing goes out
abbrev pub nothing_handed : FrameFields
nothing_handed = record { bytes = []; number = 0 }

-- what goes out, as it is handed to C
abbrev pub handed_of : Option Outgoing → FrameFields
handed_of None = nothing_handed
handed_of (Some sent) = record { bytes = sent.bytes; number = sent.number }

-- what C gets in its frame
abbrev pub handed_in : Frame → FrameFields
handed_in frame = record { bytes = take frame.length frame.bytes; number = frame.number }
