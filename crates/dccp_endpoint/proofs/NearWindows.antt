-- Under narrow windows what is valid is near: a number lies less than a quarter of its window below GSR, or three quarters above it at most,
-- and what is acknowledged less than a window below GSS.
use Rattle.std.proofs.Common.{◌≡◌, ◌↔◌, refl, ℕ, ◌+◌, ◌^◌, ◌<◌, ◌≤◌, Option, Some, None, true, false, inl, inr, arith}
use Rattle.std.proofs.lemmas.Bool.{cases_lt}
use Rattle.dccp_endpoint.specs.NearWindows.{AreNarrow, ValidNumbersAreNear}
use Rattle.dccp_packets.specs.Forms.{may_be_short}
use Rattle.dccp_packets.specs.declared.header.PacketType.{PacketType}
use Rattle.dccp_packets.specs.declared.header.PacketType.TheVariants as types
use Rattle.seq_circle.proofs.NotFar.{few-above, few-below}
use Rattle.seq_circle.specs.Circle.{is_ack_far, is_far, residue}
use Rattle.validity_windows.specs.declared.marks.Marks.{Marks}
use Rattle.validity_windows.specs.declared.verdict.Verdict.TheVariants.{Valid}
use Rattle.validity_windows.specs.Verdict.{verdict}
use Rattle.validity_windows.specs.Whole.{AckLies, HasValidNumbers, IsAckOfTurn, IsWhole, LiesInWindow, residue_of, residues, whole_ack_low, whole_sequence_high, whole_sequence_low}
use Rattle.validity_windows.specs.Windows.{InRange}

below : (n reference : ℕ) → n ≤ reference → reference < n + 2 ^ 23 → is_far (residue n) (residue reference) ≡ false
below n reference under few = few-below (residue n) (residue reference) (omega arith)

above : (n reference : ℕ) → reference ≤ n → n < reference + 2 ^ 23 → is_far (residue n) (residue reference) ≡ false
above n reference over few = few-above (residue n) (residue reference) (omega arith)

number-near : (w : Marks) (n : ℕ) → w.peer_w ≤ 4194304 → whole_sequence_low w ≤ n → n ≤ whole_sequence_high w
    → is_far (residue n) (residue w.gsr) ≡ false
number-near w n narrow low high =
    elim (cases_lt n w.gsr) [
      | inl under ↦ below n w.gsr (omega arith) (omega arith)
      | inr over ↦ above n w.gsr (omega arith) (omega arith)
    ]

ack-near : (w : Marks) (ack : Option ℕ) → w.own_w ≤ 4194304 → AckLies (whole_ack_low w) w.gss ack
    → is_ack_far (residue_of ack) (residue w.gss) ≡ false
ack-near w None narrow lies = refl
ack-near w (Some ack) narrow lies =
    let low = lies.0 in
    below ack w.gss lies.1 (omega arith)

in-window : (w : Marks) (n : ℕ) (ack : Option ℕ) → AreNarrow w → LiesInWindow w n ack
    → (is_far (residue n) (residue w.gsr) ≡ false) × (is_ack_far (residue_of ack) (residue w.gss) ≡ false)
in-window w n ack narrow lies = (number-near w n narrow.peer lies.0 lies.1, ack-near w ack narrow.own lies.2)

-- of the types that may have short numbers each has both windows
by-type : (w : Marks) (kind : PacketType) (n : ℕ) (ack : Option ℕ) → may_be_short kind ≡ true → HasValidNumbers w kind n ack → LiesInWindow w n ack
by-type w types.Data n ack may lies = lies
by-type w types.Ack n ack may lies = lies
by-type w types.DataAck n ack may lies = lies
by-type w _ n ack may lies = cc may

-- the law of validity_windows
abbrev ValidByTheTable : Type 0
ValidByTheTable =
    (w : Marks) (kind : PacketType) (n : ℕ) (ack : Option ℕ) → IsWhole w → InRange w → w.isr ≤ n → n < w.isr + 2 ^ 48 → IsAckOfTurn w.iss ack
    → (verdict (residues w) kind (residue n) (residue_of ack) ≡ Valid) ↔ HasValidNumbers w kind n ack

-- by the table of windows
pub valid-near : ValidByTheTable → ValidNumbersAreNear
valid-near table w kind n ack whole range narrow may from within turn valid =
    in-window w n ack narrow (by-type w kind n ack may ((table w kind n ack whole range from within turn).0 valid))
