-- A captured connection as the lines of replays (own).
use Rattle.std.proofs.Common.{◌≡◌, refl, ℕ, Bool, false, true, List, ◌++◌, replicate, take, codes}
use Rattle.std.specs.Fmt.{digits}
use Rattle.bridge_command.specs.Complaints.{capture_complaint, capture_line, complaint_text}
use Rattle.bridge_command.specs.Framing.{by_sender, framed_record, frames_pieces, frames_text, is_frames_faulty}
use Rattle.bridge_records.specs.Recording.{capture_refusal}
use Rattle.world_events.specs.declared.event.Side.{Side}
use Rattle.world_events.specs.declared.event.Side.TheVariants.{Server}
use Rattle.tests_tool.proofs.rows.RowsSeen.{bytes}

-- what `frames` writes of an input for a flow and a side, what it also reports, and whether it refuses the input
abbrev pub framed : ℕ → Side → List ℕ → List ℕ × Bool
framed flow side input =
    (frames_text flow side input ++ complaint_text (capture_complaint (capture_refusal (frames_pieces flow side input))), is_frames_faulty flow side input)

-- Raw IP, the most significant byte first, with the begin of a Request.
abbrev pub connection : List ℕ
connection =
    bytes
    (codes "a1b2c3d400020004000000000000000000040000000000650000000100000000000000280000002845000028000040004021b6b1c0000201c00002021b580021")

-- Nothing comes before the line.
captures_that_are_cut :
    (framed 1 Server (take 0 connection) ≡ (codes "capture CutShort after record 0\n", true))
    × (framed 1 Server (take 39 connection) ≡ (codes "capture CutShort after record 0\n", true))
unfolding framed_record capture_line digits
captures_that_are_cut = (refl, refl)

-- The file header, and a Data packet of the size that its IP header says, all but the zeros of its data.
abbrev pub long : List ℕ
long =
    bytes
    (codes "a1b2c3d4000200040000000000000000000400000000006500000001000000000000081100000811450008110000400040210000c0000201c00002021b580021"
    ++ codes "040000000500000000000007")

-- Of 2,045 bytes, 16 are no data.
a_packet_too_long_for_a_frame :
    framed 1 Server (long ++ replicate 2029 0)
    ≡ (codes "# 1 1.000000 flow 1 192.0.2.1 7000 > 192.0.2.2 33 Data seq 7 data 2029 sum wrong\n# no frame: FrameTooLong\n", false)
unfolding by_sender framed_record capture_line digits
a_packet_too_long_for_a_frame = refl
