-- What a vector reports of each number, and how long it is.
use Rattle.std.proofs.Common.{◌≡◌, ℕ, ◌+◌, ◌/◌, ◌%◌, ◌^◌, ◌<◌, ◌≤◌, ◌==◌, Bool, true, false, List, [], ◌∷◌, zero, suc, refl, ap, arith, sym, ◌∙◌, length, inl, inr, Option, Some, None}
use Rattle.std.specs.Prelude.{replicate}
use Rattle.std.specs.List.{All}
use Rattle.std.proofs.lemmas.Bool.{cases_lt, cases_eq, cases_Bool, lt-ltb, le-ltb, ltb-true, eq-eqb, ne_eqb}
use Rattle.std.proofs.lemmas.List.{length-take}
use Rattle.std.proofs.lemmas.List.Elements.{All-nil, All-cons, All-append, All-replicate, All-take}
use Rattle.seq_circle.specs.Circle.{distance, down, is_from, IsFrom, IsWithin}
use Rattle.dccp_options.specs.Vectors.{state_at, is_received}
use Rattle.ack_vectors.specs.Vector.{state_told, set_states, states_down, numbers_between, states_between, Group, grouped_with, groups, piece, last_piece, pieces, bytes_of_groups, all_bytes, vector_within, is_whole_within, numbers_told_within}
use Rattle.ack_vectors.proofs.ReadBack.{AllPlain, plain-set, read_back, reach_at_most, whole_reaches}

-- a number that a vector gives a state lies between floor and acknowledgement
told_within : (floor ack n : ℕ) → floor < 2 ^ 48 → ack < 2 ^ 48 → n < 2 ^ 48 → distance n ack < numbers_between floor ack
    → IsWithin n floor ack × IsFrom floor ack
told_within floor ack n a b d h =
    elim (cases_Bool (is_from floor ack)) [
      | inl ahead ↦
          let near : distance floor ack < 2 ^ 47 = ltb-true (distance floor ack) (2 ^ 47) ahead in
          let short : distance n ack < distance floor ack + 1 = rw ahead at h in
          (omega arith, near)
      | inr below ↦ let none : distance n ack < 0 = rw below at h in absurd (omega arith)
    ]

pub told-there : (room : ℕ) (p : ℕ → ℕ) (floor ack n s : ℕ) → AllPlain p → floor < 2 ^ 48 → ack < 2 ^ 48 → n < 2 ^ 48
    → state_at ack (vector_within room p floor ack) n ≡ Some s → IsWithin n floor ack × IsFrom floor ack × (s ≡ p n)
told-there room p floor ack n s h a b d e =
    let read = read_back room p floor ack n h b d in
    elim (cases_lt (distance n ack) (numbers_told_within room p floor ack)) [
      | inl within ↦
          let some : ◌≡◌ {A = Option ℕ} (Some (p n)) (Some s) = sym (rw (lt-ltb (distance n ack) (numbers_told_within room p floor ack) within) at read) ∙ e in
          let reach = reach_at_most room p floor ack h in
          let between = told_within floor ack n a b d (omega arith) in
          let same : s ≡ p n = cc in
          (between.0, between.1, same)
      | inr past ↦
          let none : ◌≡◌ {A = Option ℕ} None (Some s) = sym (rw (le-ltb (distance n ack) (numbers_told_within room p floor ack) past) at read) ∙ e in
          absurd cc
    ]

-- a whole one gives every number between its state
pub whole-tells : (room : ℕ) (p : ℕ → ℕ) (floor ack n : ℕ) → AllPlain p → floor < 2 ^ 48 → ack < 2 ^ 48 → n < 2 ^ 48
    → is_whole_within room p floor ack ≡ true → IsFrom floor ack → IsWithin n floor ack
    → state_at ack (vector_within room p floor ack) n ≡ Some (p n)
whole-tells room p floor ack n h a b d whole ahead within =
    let all : numbers_told_within room p floor ack ≡ numbers_between floor ack = (whole_reaches room p floor ack h).0 whole in
    let near : is_from floor ack ≡ true = lt-ltb (distance floor ack) (2 ^ 47) ahead in
    let count : numbers_between floor ack ≡ distance floor ack + 1 = rw near refl in
    let short : distance n ack < numbers_told_within room p floor ack = omega arith in
    read_back room p floor ack n h b d ∙ rw (lt-ltb (distance n ack) (numbers_told_within room p floor ack) short) refl

-- state 0 is told of members alone
member_told : (b : Bool) → is_received (Some (state_told b)) ≡ true → b ≡ true
member_told true h = refl
member_told false h = absurd cc

pub heard-member : (room : ℕ) (has : ℕ → Bool) (floor ack n : ℕ) → ack < 2 ^ 48 → n < 2 ^ 48
    → is_received (state_at ack (vector_within room (set_states has) floor ack) n) ≡ true → has n ≡ true
heard-member room has floor ack n b d e =
    let read = read_back room (set_states has) floor ack n (plain-set has) b d in
    elim (cases_lt (distance n ack) (numbers_told_within room (set_states has) floor ack)) [
      | inl within ↦
          let some : state_at ack (vector_within room (set_states has) floor ack) n ≡ Some (state_told (has n)) =
          rw (lt-ltb (distance n ack) (numbers_told_within room (set_states has) floor ack) within) at read in
          member_told (has n) (sym (ap is_received some) ∙ e)
      | inr past ↦
          let none : state_at ack (vector_within room (set_states has) floor ack) n ≡ None =
          rw (le-ltb (distance n ack) (numbers_told_within room (set_states has) floor ack) past) at read in
          let bad : false ≡ true = sym (ap is_received none) ∙ e in
          absurd cc
    ]

-- states of two bits make bytes
abbrev pub AllBits : (ℕ → ℕ) → Type 0
AllBits state = (n : ℕ) → state n < 4

pub bits-set : (has : ℕ → Bool) → AllBits (set_states has)
bits-set has n = bits-told (has n)
  where
    bits-told : (b : Bool) → state_told b < 4
    bits-told true = omega arith
    bits-told false = omega arith

bytes-last : (s c : ℕ) → s < 4 → c < 64 → All (λ byte. byte < 256) (last_piece s c)
bytes-last s zero p q = All-nil (λ byte. byte < 256)
bytes-last s (suc c) p q =
    let some : (suc c == 0) ≡ false = grind arith in
    rw some (All-cons (λ byte. byte < 256) (piece s (suc c)) [] (omega arith) (All-nil (λ byte. byte < 256)))

bytes-pieces : (s c : ℕ) → s < 4 → All (λ byte. byte < 256) (pieces s c)
bytes-pieces s c p =
    All-append (λ byte. byte < 256) (replicate (c / 64) (piece s 64)) (last_piece s (c % 64))
    (All-replicate (λ byte. byte < 256) (c / 64) (piece s 64) (omega arith))
    (bytes-last s (c % 64) p (omega arith))

abbrev AreSmall : List (Group ℕ) → Type 0
AreSmall [] = Unit {0}
AreSmall (g ∷ gs) = (g.state < 4) × AreSmall gs

small-grouped_with : (s : ℕ) (gs : List (Group ℕ)) → s < 4 → AreSmall gs → AreSmall (grouped_with s gs)
small-grouped_with s [] p h = (p, tt)
small-grouped_with s (g ∷ gs) p h =
    elim (cases_eq g.state s) [
      | inl same ↦ rw (eq-eqb g.state s same) (p, h.1)
      | inr other ↦ rw (ne_eqb g.state s other) (p, h)
    ]

small-groups : (state : ℕ → ℕ) (count n : ℕ) → AllBits state → AreSmall (groups (states_down state count n))
small-groups state zero n h = tt
small-groups state (suc count) n h =
    small-grouped_with (state n) (groups (states_down state count (down n 1))) (h n) (small-groups state count (down n 1) h)

bytes-spelled : (gs : List (Group ℕ)) → AreSmall gs → All (λ byte. byte < 256) (bytes_of_groups gs)
bytes-spelled [] h = All-nil (λ byte. byte < 256)
bytes-spelled (g ∷ gs) h =
    All-append (λ byte. byte < 256) (pieces g.state g.count) (bytes_of_groups gs) (bytes-pieces g.state g.count h.0) (bytes-spelled gs h.1)

pub bytes-vector : (room : ℕ) (state : ℕ → ℕ) (floor ack : ℕ) → AllBits state
    → All (λ byte. byte < 256) (vector_within room state floor ack)
bytes-vector room state floor ack h =
    All-take (λ byte. byte < 256) room (all_bytes state floor ack)
    (bytes-spelled (groups (states_between state floor ack)) (small-groups state (numbers_between floor ack) ack h))

pub room-vector : (room : ℕ) (state : ℕ → ℕ) (floor ack : ℕ) → length (vector_within room state floor ack) ≤ room
room-vector room state floor ack = omega (arith, length-take room (all_bytes state floor ack))
