-- The windows that valid sequence and acknowledgement numbers lie in (RFC 4340, section 7.5.1).
--
-- In each choice of the later of two numbers, the window's end comes first, and the first number of the connection second. The order matters
-- only if they are exactly half the circle apart.
use Rattle.std.specs.Prelude.{ℕ, ◌+◌, ◌*◌, ◌/◌, ◌^◌, ◌<◌, ◌≤◌}
use Rattle.seq_circle.specs.Circle.{residue, later_of, down}
use Rattle.validity_windows.specs.declared.marks.Marks.{Marks}
use Rattle.validity_windows.specs.declared.marks.Windows.{Windows}

-- the widths of both windows: the range of the feature Sequence Window (section 7.5.2)
pub record InRange (m : Marks) : Type 0 where
  pub own_least : 32 ≤ m.own_w
  pub own_most : m.own_w < 2 ^ 46
  pub peer_least : 32 ≤ m.peer_w
  pub peer_most : m.peer_w < 2 ^ 46

-- SWL = max(GSR + 1 - floor(W/4), ISR)
abbrev pub sequence_low : Marks → ℕ
sequence_low m = later_of (down (residue (m.gsr + 1)) (m.peer_w / 4)) m.isr

-- SWH = GSR + ceil(3W/4)
abbrev pub sequence_high : Marks → ℕ
sequence_high m = residue (m.gsr + (3 * m.peer_w + 3) / 4)

-- AWL = max(GSS + 1 - W', ISS)
abbrev pub ack_low : Marks → ℕ
ack_low m = later_of (down (residue (m.gss + 1)) m.own_w) m.iss

-- AWH = GSS
abbrev pub ack_high : Marks → ℕ
ack_high m = m.gss

-- the four ends
abbrev pub windows : Marks → Windows
windows m = record { swl = sequence_low m; swh = sequence_high m; awl = ack_low m; awh = ack_high m }
