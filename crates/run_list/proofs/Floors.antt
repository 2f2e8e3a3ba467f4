-- What a mark and a raise make of a floor, and which numbers it passes.
use Rattle.std.proofs.Common.{◌≡◌, ℕ, ◌-◌, ◌^◌, ◌<◌, ◌≤◌, true, false, max, refl, ap, arith, ◌∙◌, inl, inr, ◌⊎◌, ⊎_elim, ◌↔◌}
use Rattle.std.proofs.Common.{nat_lt as ltb}
use Rattle.std.proofs.lemmas.Bool.{cases_Bool, cases_lt, and_parts, ltb-true}
use Rattle.std.specs.Prelude.{IsTrue}
use Rattle.seq_circle.specs.Circle.{distance, IsBefore, is_before, later_of}
use Rattle.seq_circle.specs.Counts.{number_of}
use Rattle.run_list.specs.declared.answers.Marked.TheVariants.{New}
use Rattle.run_list.specs.MarkedSet.{MarkedSet, IsSound, has, is_from, IsFrom, raised, floor_under, answer_to, marked}
use Rattle.run_list.proofs.Steps.{distance_raised}
use Rattle.run_list.proofs.Sets.{still, pushed, reach, new_parts, marked-new, marked_iff, raised_iff}

pub floor-raised : (set : MarkedSet) (to : ℕ) → (raised set to).floor ≡ later_of set.floor to
floor-raised set to =
    elim (cases_Bool (is_before set.floor to)) [
      | inl holds ↦ rw holds refl
      | inr fails ↦ rw fails refl
    ]

pub floor-marked : (set : MarkedSet) (n : ℕ) → answer_to set n ≡ New → (marked set n).floor ≡ later_of set.floor (floor_under n)
floor-marked set n e = ap (λ (s : MarkedSet). s.floor) (marked-new set n e) ∙ floor-raised set (floor_under n)

-- it stays where the number is near
pub floor-near : (set : MarkedSet) (n : ℕ) → IsSound set → n < 2 ^ 48 → answer_to set n ≡ New → distance set.floor n ≤ 2047
    → (marked set n).floor ≡ set.floor
floor-near set n s q e h =
    let stays : is_before set.floor (floor_under n) ≡ false = still set.floor n s.floor_fits q (omega arith) in
    floor-marked set n e ∙ rw stays refl

-- and otherwise comes to lie just so far below it
pub floor-far : (set : MarkedSet) (n : ℕ) → IsSound set → n < 2 ^ 48 → answer_to set n ≡ New → 2047 < distance set.floor n
    → distance (marked set n).floor n ≡ 2047
floor-far set n s q e h =
    let parts = new_parts set n e in
    let ahead : distance set.floor n < 2 ^ 47 = ltb-true (distance set.floor n) (2 ^ 47) parts.0 in
    let up : is_before set.floor (floor_under n) ≡ true = pushed set.floor n s.floor_fits q (omega arith) ahead in
    let at : (marked set n).floor ≡ floor_under n = floor-marked set n e ∙ rw up refl in
    ap (λ f. distance f n) at ∙ reach n q

pub floor-above : (set : MarkedSet) (n : ℕ) → IsSound set → n < 2 ^ 48 → answer_to set n ≡ New → distance (marked set n).floor n ≤ 2047
floor-above set n s q e =
    elim (cases_lt 2047 (distance set.floor n)) [
      | inl far ↦ let at = floor-far set n s q e far in omega arith
      | inr near ↦ let at = floor-near set n s q e near in rw at near
    ]

pub marked-joins : (set : MarkedSet) (n : ℕ) → IsSound set → n < 2 ^ 48 → answer_to set n ≡ New → IsTrue (has (marked set n).numbers n)
marked-joins set n s q e = (marked_iff set n n s q e).1 (inl refl)

-- what lay from the old floor on and does not from the new one lies before that
pub before-passed : (f to m : ℕ) → f < 2 ^ 48 → to < 2 ^ 48 → m < 2 ^ 48 → IsBefore f to → IsFrom f m → ¬ IsFrom to m → IsBefore m to
before-passed f to m p q r b h k =
    let below : distance f m < distance f to = elim (cases_lt (distance f m) (distance f to)) [
      | inl lt ↦ lt
      | inr ge ↦ let near = distance_raised f to m p q r ge in absurd (k (omega arith))
    ] in
    let ahead : distance f to < 2 ^ 47 = b.1 in
    (omega arith, omega arith)

pub later-passed : (f to m : ℕ) → f < 2 ^ 48 → to < 2 ^ 48 → m < 2 ^ 48 → IsFrom f m → ¬ IsFrom (later_of f to) m → IsBefore m to
later-passed f to m p q r h k =
    elim (cases_Bool (is_before f to)) [
      | inl holds ↦
          let parts = and_parts (ltb 0 (distance f to)) (ltb (distance f to) (2 ^ 47)) holds in
          let other : ¬ IsFrom to m = rw holds at k in
          before-passed f to m p q r (ltb-true 0 (distance f to) parts.0, ltb-true (distance f to) (2 ^ 47) parts.1) h other
      | inr fails ↦
          let same : ¬ IsFrom f m = rw fails at k in
          absurd (same h)
    ]

pub passed-marked : (set : MarkedSet) (n m : ℕ) → IsSound set → n < 2 ^ 48 → m < 2 ^ 48 → answer_to set n ≡ New
    → IsFrom set.floor m → ¬ IsFrom (marked set n).floor m → IsBefore m (floor_under n)
passed-marked set n m s q r e h k =
    let other : ¬ IsFrom (later_of set.floor (floor_under n)) m = rw (floor-marked set n e) at k in
    later-passed set.floor (floor_under n) m s.floor_fits (omega arith) r h other

pub passed-raised : (set : MarkedSet) (to m : ℕ) → IsSound set → to < 2 ^ 48 → m < 2 ^ 48
    → IsFrom set.floor m → ¬ IsFrom (raised set to).floor m → IsBefore m to
passed-raised set to m s q r h k =
    let other : ¬ IsFrom (later_of set.floor to) m = rw (floor-raised set to) at k in
    later-passed set.floor to m s.floor_fits q r h other

-- no floor falls
pub later-from : (f to : ℕ) → IsFrom f (later_of f to)
later-from f to =
    elim (cases_Bool (is_before f to)) [
      | inl holds ↦
          let parts = and_parts (ltb 0 (distance f to)) (ltb (distance f to) (2 ^ 47)) holds in
          rw holds (ltb-true (distance f to) (2 ^ 47) parts.1)
      | inr fails ↦ rw fails (omega arith)
    ]

pub from-raised : (set : MarkedSet) (to : ℕ) → IsFrom set.floor (raised set to).floor
from-raised set to = rw (floor-raised set to) (later-from set.floor to)

pub from-marked : (set : MarkedSet) (n : ℕ) → IsFrom set.floor (marked set n).floor
from-marked set n =
    elim (cases_Bool (is_from set.floor n)) [
      | inl holds ↦ elim (cases_Bool (has set.numbers n)) [
        | inl there ↦ rw (holds, there) (omega arith)
        | inr absent ↦ rw (holds, absent) (from-raised set (floor_under n))
      ]
      | inr fails ↦ rw fails (omega arith)
    ]

-- floors by counts of packets
pub later-count : (iss one other : ℕ) → iss < 2 ^ 48 → 1 ≤ one → 1 ≤ other → one ≤ 2 ^ 47 → other ≤ 2 ^ 47
    → later_of (number_of iss one) (number_of iss other) ≡ number_of iss (max one other)
later-count iss one other p a b c d = grind arith

pub under-count : (iss floor n : ℕ) → iss < 2 ^ 48 → 1 ≤ floor → floor ≤ n → n ≤ 2 ^ 47
    → later_of (number_of iss floor) (floor_under (number_of iss n)) ≡ number_of iss (max floor (n - 2047))
under-count iss floor n p a b c = grind arith

-- a new number lies from the floor on
pub new-count : (iss floor n : ℕ) → iss < 2 ^ 48 → 1 ≤ floor → floor ≤ 2 ^ 47 → 1 ≤ n → n ≤ 2 ^ 47
    → IsFrom (number_of iss floor) (number_of iss n) → floor ≤ n
new-count iss floor n p a b c d h = omega (arith, h)

pub marked-count : (set : MarkedSet) (iss floor n : ℕ) → iss < 2 ^ 48 → 1 ≤ floor → floor ≤ 2 ^ 47 → 1 ≤ n → n ≤ 2 ^ 47
    → set.floor ≡ number_of iss floor → answer_to set (number_of iss n) ≡ New
    → (marked set (number_of iss n)).floor ≡ number_of iss (max floor (n - 2047))
marked-count set iss floor n p a b c d e new =
    let parts = new_parts set (number_of iss n) new in
    let ahead : IsFrom set.floor (number_of iss n) = ltb-true (distance set.floor (number_of iss n)) (2 ^ 47) parts.0 in
    floor-marked set (number_of iss n) new
    ∙ ap (λ f. later_of f (floor_under (number_of iss n))) e
    ∙ under-count iss floor n p a (new-count iss floor n p a b c d (rw e at ahead)) d

pub raised-count : (set : MarkedSet) (iss floor to : ℕ) → iss < 2 ^ 48 → 1 ≤ floor → floor ≤ 2 ^ 47 → 1 ≤ to → to ≤ 2 ^ 47
    → set.floor ≡ number_of iss floor → (raised set (number_of iss to)).floor ≡ number_of iss (max floor to)
raised-count set iss floor to p a b c d e =
    floor-raised set (number_of iss to) ∙ ap (λ f. later_of f (number_of iss to)) e ∙ later-count iss floor to p a c b d

-- members by counts of packets
pub same-count : (iss one other : ℕ) → iss < 2 ^ 48 → 1 ≤ one → one ≤ 2 ^ 47 → 1 ≤ other → other ≤ 2 ^ 47
    → number_of iss one ≡ number_of iss other → one ≡ other
same-count iss one other p a b c d h = omega (arith, h)

pub from-count : (iss low n : ℕ) → iss < 2 ^ 48 → 1 ≤ low → low ≤ 2 ^ 47 → 1 ≤ n → n ≤ 2 ^ 47
    → IsFrom (number_of iss low) (number_of iss n) ↔ (low ≤ n)
from-count iss low n p a b c d = (λ h. omega (arith, h), λ h. omega (arith, h))

pub marked-member : (set : MarkedSet) (iss floor n m : ℕ) → IsSound set → iss < 2 ^ 48 → 1 ≤ floor → floor ≤ 2 ^ 47
    → 1 ≤ n → n ≤ 2 ^ 47 → 1 ≤ m → m ≤ 2 ^ 47 → set.floor ≡ number_of iss floor → answer_to set (number_of iss n) ≡ New
    → IsTrue (has (marked set (number_of iss n)).numbers (number_of iss m))
    ↔ ((m ≡ n) ⊎ (IsTrue (has set.numbers (number_of iss m)) × (max floor (n - 2047) ≤ m)))
marked-member set iss floor n m s p a b c d e f is new =
    let both = marked_iff set (number_of iss n) (number_of iss m) s (omega arith) new in
    let at = marked-count set iss floor n p a b c d is new in
    let order = from-count iss (max floor (n - 2047)) m p (grind arith) (grind arith) e f in (
      λ h. ⊎_elim (λ same. inl (same-count iss m n p e f c d same))
          (λ old. let low : IsFrom (number_of iss (max floor (n - 2047))) (number_of iss m) = rw at at old.1 in inr (old.0, order.0 low))
          (both.0 h),
      λ k. both.1 (⊎_elim (λ same. inl (ap (number_of iss) same)) (λ old. inr (old.0, rw at (order.1 old.1))) k),
    )

pub raised-member : (set : MarkedSet) (iss floor to m : ℕ) → IsSound set → iss < 2 ^ 48 → 1 ≤ floor → floor ≤ 2 ^ 47
    → 1 ≤ to → to ≤ 2 ^ 47 → 1 ≤ m → m ≤ 2 ^ 47 → set.floor ≡ number_of iss floor
    → IsTrue (has (raised set (number_of iss to)).numbers (number_of iss m))
    ↔ (IsTrue (has set.numbers (number_of iss m)) × (max floor to ≤ m))
raised-member set iss floor to m s p a b c d e f is =
    let both = raised_iff set (number_of iss to) (number_of iss m) s in
    let at = raised-count set iss floor to p a b c d is in
    let order = from-count iss (max floor to) m p (grind arith) (grind arith) e f in (
      λ h. let old = both.0 h in
          let low : IsFrom (number_of iss (max floor to)) (number_of iss m) = rw at at old.1 in (old.0, order.0 low),
      λ k. both.1 (k.0, rw at (order.1 k.1)),
    )
