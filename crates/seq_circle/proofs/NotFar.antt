-- Numbers near enough to a reference are found from their low 24 bits (RFC 4340, section 7.6).
use Rattle.std.proofs.Common.{◌≡◌, ℕ, ◌+◌, ◌-◌, ◌*◌, ◌/◌, ◌%◌, ◌^◌, ◌<◌, ◌≤◌, Bool, true, false, ◌&&◌, nat_lt, nat_le, if◌then◌else◌, refl, ap, ◌∙◌, arith, ◌⊎◌, inl, inr}
use Rattle.std.proofs.lemmas.Bool.{and_parts, and_cases, and_left, and_right, ltb-true, ltb-false, leb-false, lt-leb}
use Rattle.seq_circle.specs.Circle.{distance, short_distance, is_short_before, extended, is_far}

-- the one lies ahead of the other on the short circle, and is less: the turn's end is between them
abbrev has_turned : ℕ → ℕ → Bool
has_turned from to = is_short_before from to && nat_lt to from

record Turned (from to : ℕ) : Type 0 where
  pub some : 0 < short_distance from to
  pub few : short_distance from to < 2 ^ 23
  pub less : to < from

turned : (from to : ℕ) → has_turned from to ≡ true → Turned from to
turned from to is =
    let both = and_parts (is_short_before from to) (nat_lt to from) is in
    let ahead = and_parts (nat_lt 0 (short_distance from to)) (nat_lt (short_distance from to) (2 ^ 23)) both.0 in
    record {
      some = ltb-true 0 (short_distance from to) ahead.0;
      few = ltb-true (short_distance from to) (2 ^ 23) ahead.1;
      less = ltb-true to from both.1;
    }

-- none has the turn's end between, or they lie apart, or are the same
data Unturned (from to : ℕ) : Type 0 where
  Same : short_distance from to ≤ 0 → Unturned from to
  Apart : 2 ^ 23 ≤ short_distance from to → Unturned from to
  NotLess : from ≤ to → Unturned from to

unturned : (from to : ℕ) → has_turned from to ≡ false → Unturned from to
unturned from to is =
    elim (and_cases (is_short_before from to) (nat_lt to from) is) [
      | inl not_ahead ↦ elim (and_cases (nat_lt 0 (short_distance from to)) (nat_lt (short_distance from to) (2 ^ 23)) not_ahead) [
        | inl none ↦ Same (ltb-false 0 (short_distance from to) none)
        | inr far ↦ Apart (ltb-false (short_distance from to) (2 ^ 23) far)
      ]
      | inr not_less ↦ NotLess (ltb-false to from not_less)
    ]

abbrev IsNear : ℕ → ℕ → Type 0
IsNear n reference = (distance n reference < 2 ^ 23) ⊎ (distance reference n < 2 ^ 23)

next_turn : (n r : ℕ) → n < 2 ^ 48 → r < 2 ^ 48 → IsNear n r → Turned (r % 2 ^ 24) (n % 2 ^ 24)
    → (r / 2 ^ 24 + 1) % 2 ^ 24 * 2 ^ 24 + n % 2 ^ 24 ≡ n
next_turn n r fits within (inl below) turned = omega (arith, turned.some, turned.few, turned.less)
next_turn n r fits within (inr above) turned = omega (arith, turned.some, turned.few, turned.less)

turn_before : (n r : ℕ) → n < 2 ^ 48 → r < 2 ^ 48 → IsNear n r → Turned (n % 2 ^ 24) (r % 2 ^ 24)
    → (r / 2 ^ 24 + (2 ^ 24 - 1)) % 2 ^ 24 * 2 ^ 24 + n % 2 ^ 24 ≡ n
turn_before n r fits within (inl below) turned = omega (arith, turned.some, turned.few, turned.less)
turn_before n r fits within (inr above) turned = omega (arith, turned.some, turned.few, turned.less)

-- below the reference the second test decides, above it the first
same_turn : (n r : ℕ) → n < 2 ^ 48 → r < 2 ^ 48 → IsNear n r → Unturned (r % 2 ^ 24) (n % 2 ^ 24) → Unturned (n % 2 ^ 24) (r % 2 ^ 24)
    → r / 2 ^ 24 * 2 ^ 24 + n % 2 ^ 24 ≡ n
same_turn n r fits within (inl below) first (Same same) = omega arith
same_turn n r fits within (inl below) first (Apart apart) = omega arith
same_turn n r fits within (inl below) first (NotLess up) = omega arith
same_turn n r fits within (inr above) (Same same) second = omega arith
same_turn n r fits within (inr above) (Apart apart) second = omega arith
same_turn n r fits within (inr above) (NotLess up) second = omega arith

by_tests : (n r : ℕ) → n < 2 ^ 48 → r < 2 ^ 48 → IsNear n r → (first second : Bool) → has_turned (r % 2 ^ 24) (n % 2 ^ 24) ≡ first
    → has_turned (n % 2 ^ 24) (r % 2 ^ 24) ≡ second
    → (if first then (r / 2 ^ 24 + 1) % 2 ^ 24 * 2 ^ 24 + n % 2 ^ 24
    else if second then (r / 2 ^ 24 + (2 ^ 24 - 1)) % 2 ^ 24 * 2 ^ 24 + n % 2 ^ 24
    else r / 2 ^ 24 * 2 ^ 24 + n % 2 ^ 24) ≡ n
by_tests n r fits within near true second up down = next_turn n r fits within near (turned (r % 2 ^ 24) (n % 2 ^ 24) up)
by_tests n r fits within near false true up down = turn_before n r fits within near (turned (n % 2 ^ 24) (r % 2 ^ 24) down)
by_tests n r fits within near false false up down =
    same_turn n r fits within near (unturned (r % 2 ^ 24) (n % 2 ^ 24) up) (unturned (n % 2 ^ 24) (r % 2 ^ 24) down)

-- a number fewer than 2^23 from the reference, up or down the circle, is found
pub finds : (n reference : ℕ) → n < 2 ^ 48 → reference < 2 ^ 48 → (distance n reference < 2 ^ 23) ⊎ (distance reference n < 2 ^ 23)
    → extended (n % 2 ^ 24) reference ≡ n
finds n reference fits within near =
    by_tests n reference fits within near (has_turned (reference % 2 ^ 24) (n % 2 ^ 24)) (has_turned (n % 2 ^ 24) (reference % 2 ^ 24)) refl refl

-- what is not far is near on one side
pub near-either : (n reference : ℕ) → is_far n reference ≡ false → (distance n reference < 2 ^ 23) ⊎ (distance reference n < 2 ^ 23)
near-either n reference not_far =
    elim (and_cases (nat_le (2 ^ 23) (distance n reference)) (nat_le (2 ^ 23) (distance reference n)) not_far) [
      | inl below ↦ inl (leb-false (2 ^ 23) (distance n reference) below)
      | inr above ↦ inr (leb-false (2 ^ 23) (distance reference n) above)
    ]

-- and the other way round
pub few-below : (n reference : ℕ) → distance n reference < 2 ^ 23 → is_far n reference ≡ false
few-below n reference few =
    and_left (nat_le (2 ^ 23) (distance n reference)) (nat_le (2 ^ 23) (distance reference n)) (lt-leb (2 ^ 23) (distance n reference) few)

pub few-above : (n reference : ℕ) → distance reference n < 2 ^ 23 → is_far n reference ≡ false
few-above n reference few =
    and_right (nat_le (2 ^ 23) (distance n reference)) (nat_le (2 ^ 23) (distance reference n)) (lt-leb (2 ^ 23) (distance reference n) few)

pub finds-near : (n reference : ℕ) → n < 2 ^ 48 → reference < 2 ^ 48 → is_far n reference ≡ false → extended (n % 2 ^ 24) reference ≡ n
finds-near n reference fits within not_far = finds n reference fits within (near-either n reference not_far)

-- the low bits of a whole number, cut to their width once more, give its residue
pub finds-cut : (n reference : ℕ) → reference < 2 ^ 48 → is_far (n % 2 ^ 48) reference ≡ false
    → extended (n % 2 ^ 24 % 2 ^ 24) reference ≡ n % 2 ^ 48
finds-cut n reference within not_far =
    let cut : n % 2 ^ 24 % 2 ^ 24 ≡ n % 2 ^ 48 % 2 ^ 24 = omega arith in
    ap (λ (s : ℕ). extended s reference) cut ∙ finds-near (n % 2 ^ 48) reference (omega arith) within not_far
