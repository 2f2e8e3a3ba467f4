-- The verdict in whole numbers.
use Rattle.std.proofs.Common.{◌≡◌, ◌≢◌, ℕ, ◌+◌, ◌^◌, ◌<◌, ◌≤◌, ◌↔◌, ◌&&◌, Bool, true, false, IsTrue, if◌then◌else◌, Option, Some, None, refl, subst, arith}
use Rattle.std.proofs.lemmas.Bool.{false≢true, leb-true, le-leb}
use Rattle.seq_circle.specs.Circle.{residue, distance, open_end, IsWithin, is_within}
use Rattle.dccp_packets.specs.declared.header.PacketType.{PacketType}
use Rattle.dccp_packets.specs.declared.header.PacketType.TheVariants as types
use Rattle.validity_windows.specs.declared.marks.Marks.{Marks}
use Rattle.validity_windows.specs.declared.verdict.Verdict.{Verdict}
use Rattle.validity_windows.specs.declared.verdict.Verdict.TheVariants.{Valid, SyncFor, Drop}
use Rattle.validity_windows.specs.Windows.{InRange, sequence_low, sequence_high, ack_low, ack_high}
use Rattle.validity_windows.specs.Verdict.{is_ack_within, is_in_window, is_after_greatest, is_not_old, by_window, by_greatest, by_low_end, verdict}
use Rattle.validity_windows.specs.Whole.{residues, IsWhole, residue_of, whole_ack_low, AckLies, LiesInWindow, LiesAfterGreatest, LiesFromLowEnd, HasValidNumbers, refusal, IsAckOfTurn}
use Rattle.validity_windows.proofs.Counts.{sequence-count, ack-count, greatest-count, acked-count, no_end-count}

abbrev IsValid : Verdict → Type 0
IsValid Valid = Unit {0}
IsValid (SyncFor number) = ⊥
IsValid Drop = ⊥

sync_is_other : (number : ℕ) → SyncFor number ≢ Valid
sync_is_other number is = subst (λ (v : Verdict). IsValid v → ⊥) is (λ (none : ⊥). none) tt

drop_is_other : Drop ≢ Valid
drop_is_other is = subst (λ (v : Verdict). IsValid v → ⊥) is (λ (none : ⊥). none) tt

-- a rule says Valid exactly if both of its tests hold
both_tests : (number ack : Bool) (other : Verdict) → other ≢ Valid → ((if number && ack then Valid else other) ≡ Valid) ↔ (IsTrue number × IsTrue ack)
both_tests true true other never = (λ is. (refl, refl), λ both. refl)
both_tests true false other never = (λ is. absurd (never is), λ both. absurd (false≢true both.1))
both_tests false ack other never = (λ is. absurd (never is), λ both. absurd (false≢true both.0))

-- and what is not valid is the other answer
other_answer : (test : Bool) (other : Verdict) → (if test then Valid else other) ≢ Valid → (if test then Valid else other) ≡ other
other_answer true other never = absurd (never refl)
other_answer false other never = refl

within-test : (n l h : ℕ) → IsTrue (is_within n l h) ↔ IsWithin n l h
within-test n l h = (λ is. leb-true (distance l n) (distance l h) is, λ is. le-leb (distance l n) (distance l h) is)

same-range : (w : Marks) → InRange w → InRange (residues w)
same-range w range = record { own_least = range.own_least; own_most = range.own_most; peer_least = range.peer_least; peer_most = range.peer_most }

-- acknowledgement numbers in the window, where there are any
window_acks : (w : Marks) (ack : Option ℕ) → IsWhole w → InRange w → IsAckOfTurn w.iss ack
    → IsTrue (is_ack_within (ack_low (residues w)) (ack_high (residues w)) (residue_of ack)) ↔ AckLies (whole_ack_low w) w.gss ack
window_acks w None whole range turn = (λ is. tt, λ is. refl)
window_acks w (Some ack) whole range turn =
    let counts = ack-count (residues w) w.iss w.gss ack (same-range w range) refl refl
    (omega (arith, whole.acknowledged, whole.sent)) whole.few_sent turn.0 turn.1 in
    let test = within-test (residue ack) (ack_low (residues w)) (ack_high (residues w)) in
    (λ is. counts.0 (test.0 is), λ lies. test.1 (counts.1 lies))

-- and from GAR on
later_acks : (w : Marks) (ack : Option ℕ) → IsWhole w → IsAckOfTurn w.iss ack
    → IsTrue (is_ack_within (residue w.gar) (ack_high (residues w)) (residue_of ack)) ↔ AckLies w.gar w.gss ack
later_acks w None whole turn = (λ is. tt, λ is. refl)
later_acks w (Some ack) whole turn =
    let counts = acked-count (residues w) w.iss w.gar w.gss ack refl refl whole.acknowledged whole.sent whole.few_sent turn.0 turn.1 in
    let test = within-test (residue ack) (residue w.gar) (ack_high (residues w)) in
    (λ is. counts.0 (test.0 is), λ lies. test.1 (counts.1 lies))

valid_in_window : (w : Marks) (n : ℕ) (ack : Option ℕ) → IsWhole w → InRange w → w.isr ≤ n → n < w.isr + 2 ^ 48 → IsAckOfTurn w.iss ack
    → (by_window (residues w) (residue n) (residue_of ack) ≡ Valid) ↔ LiesInWindow w n ack
valid_in_window w n ack whole range after near turn =
    let both = both_tests (is_in_window (residues w) (residue n)) (is_ack_within (ack_low (residues w)) (ack_high (residues w)) (residue_of ack))
    (SyncFor (residue n)) (sync_is_other (residue n)) in
    let counts = sequence-count (residues w) w.isr w.gsr n (same-range w range) refl refl whole.received whole.few_received after near in
    let test = within-test (residue n) (sequence_low (residues w)) (sequence_high (residues w)) in
    let acks = window_acks w ack whole range turn in (
      λ is. let tests = both.0 is in let lies = counts.0 (test.0 tests.0) in (lies.0, lies.1, acks.0 tests.1),
      λ lies. both.1 (test.1 (counts.1 (lies.0, lies.1)), acks.1 lies.2),
    )

valid_after_greatest : (w : Marks) (n : ℕ) (ack : Option ℕ) (answer : ℕ) → IsWhole w → InRange w → w.isr ≤ n → n < w.isr + 2 ^ 48 → IsAckOfTurn w.iss ack
    → (by_greatest (residues w) (residue n) (residue_of ack) answer ≡ Valid) ↔ LiesAfterGreatest w n ack
valid_after_greatest w n ack answer whole range after near turn =
    let both = both_tests (is_after_greatest (residues w) (residue n)) (is_ack_within (residue w.gar) (ack_high (residues w)) (residue_of ack)) (SyncFor answer)
    (sync_is_other answer) in
    let counts = greatest-count (residues w) w.isr w.gsr n (same-range w range) refl whole.received whole.few_received after near in
    let test = within-test (residue n) (residue (residue w.gsr + 1)) (sequence_high (residues w)) in
    let acks = later_acks w ack whole turn in (
      λ is. let tests = both.0 is in let lies = counts.0 (test.0 tests.0) in (lies.0, lies.1, acks.0 tests.1),
      λ lies. both.1 (test.1 (counts.1 (lies.0, lies.1)), acks.1 lies.2),
    )

valid_from_low_end : (w : Marks) (n : ℕ) (ack : Option ℕ) → IsWhole w → InRange w → w.isr ≤ n → n < w.isr + 2 ^ 48 → IsAckOfTurn w.iss ack
    → (by_low_end (residues w) (residue n) (residue_of ack) ≡ Valid) ↔ LiesFromLowEnd w n ack
valid_from_low_end w n ack whole range after near turn =
    let both = both_tests (is_not_old (residues w) (residue n))
    (is_ack_within (ack_low (residues w)) (ack_high (residues w)) (residue_of ack)) Drop drop_is_other in
    let counts = no_end-count (residues w) w.isr w.gsr n (same-range w range) refl refl whole.received whole.few_received after near in
    let test = within-test (residue n) (sequence_low (residues w)) (open_end (sequence_low (residues w))) in
    let acks = window_acks w ack whole range turn in (
      λ is. let tests = both.0 is in let lies = counts.0 (test.0 tests.0) in (lies.0, lies.1, acks.0 tests.1),
      λ lies. both.1 (test.1 (counts.1 (lies.0, lies.1)), acks.1 lies.2),
    )

pub valid_by_whole : (w : Marks) (kind : PacketType) (n : ℕ) (ack : Option ℕ) → IsWhole w → InRange w → w.isr ≤ n → n < w.isr + 2 ^ 48
    → IsAckOfTurn w.iss ack → (verdict (residues w) kind (residue n) (residue_of ack) ≡ Valid) ↔ HasValidNumbers w kind n ack
valid_by_whole w types.CloseReq n ack whole range after near turn = valid_after_greatest w n ack (residue n) whole range after near turn
valid_by_whole w types.Close n ack whole range after near turn = valid_after_greatest w n ack (residue n) whole range after near turn
valid_by_whole w types.Reset n ack whole range after near turn = valid_after_greatest w n ack (residue w.gsr) whole range after near turn
valid_by_whole w types.Sync n ack whole range after near turn = valid_from_low_end w n ack whole range after near turn
valid_by_whole w types.SyncAck n ack whole range after near turn = valid_from_low_end w n ack whole range after near turn
valid_by_whole w _ n ack whole range after near turn = valid_in_window w n ack whole range after near turn

pub otherwise_refused : (m : Marks) (kind : PacketType) (number : ℕ) (ack : Option ℕ) → verdict m kind number ack ≢ Valid
    → verdict m kind number ack ≡ refusal m kind number
otherwise_refused m types.CloseReq number ack never = other_answer (is_after_greatest m number && is_ack_within m.gar (ack_high m) ack) (SyncFor number) never
otherwise_refused m types.Close number ack never = other_answer (is_after_greatest m number && is_ack_within m.gar (ack_high m) ack) (SyncFor number) never
otherwise_refused m types.Reset number ack never = other_answer (is_after_greatest m number && is_ack_within m.gar (ack_high m) ack) (SyncFor m.gsr) never
otherwise_refused m types.Sync number ack never = other_answer (is_not_old m number && is_ack_within (ack_low m) (ack_high m) ack) Drop never
otherwise_refused m types.SyncAck number ack never = other_answer (is_not_old m number && is_ack_within (ack_low m) (ack_high m) ack) Drop never
otherwise_refused m _ number ack never = other_answer (is_in_window m number && is_ack_within (ack_low m) (ack_high m) ack) (SyncFor number) never
