-- Which numbers are near if the windows are not too wide for short numbers (own; RFC 4340, sections 7.5.1 and 7.6).
use Rattle.std.specs.Prelude.{◌≡◌, ℕ, ◌+◌, ◌^◌, ◌<◌, ◌≤◌, true, false, Option}
use Rattle.dccp_packets.specs.Forms.{may_be_short}
use Rattle.dccp_packets.specs.declared.header.PacketType.{PacketType}
use Rattle.dccp_endpoint.specs.ShortForm.{widest_short}
use Rattle.seq_circle.specs.Circle.{is_ack_far, is_far, residue}
use Rattle.validity_windows.specs.declared.marks.Marks.{Marks}
use Rattle.validity_windows.specs.declared.verdict.Verdict.TheVariants.{Valid}
use Rattle.validity_windows.specs.Verdict.{verdict}
use Rattle.validity_windows.specs.Whole.{IsAckOfTurn, IsWhole, residue_of, residues}
use Rattle.validity_windows.specs.Windows.{InRange}

-- Neither window of these marks is wider than the widest under which short numbers go out.
pub record AreNarrow (w : Marks) : Type 0 where
  pub own : w.own_w ≤ widest_short
  pub peer : w.peer_w ≤ widest_short

-- What is valid on a packet that may have short numbers lies near what its receiver has: the number near GSR, and the
-- one that it acknowledges near GSS. Numbers are whole, counted on from the first of each end.
abbrev pub ValidNumbersAreNear : Type 0
ValidNumbersAreNear =
    (w : Marks) (kind : PacketType) (n : ℕ) (ack : Option ℕ) → IsWhole w → InRange w → AreNarrow w → may_be_short kind ≡ true
    → w.isr ≤ n → n < w.isr + 2 ^ 48 → IsAckOfTurn w.iss ack → verdict (residues w) kind (residue n) (residue_of ack) ≡ Valid
    → (is_far (residue n) (residue w.gsr) ≡ false) × (is_ack_far (residue_of ack) (residue w.gss) ≡ false)
