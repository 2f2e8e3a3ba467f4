-- Marks and floors, number by number.
use Rattle.std.proofs.Common.{◌≡◌, ℕ, ◌+◌, ◌-◌, ◌^◌, ◌<◌, ◌≤◌, ◌==◌, ◌&&◌, ◌||◌, Bool, false, true, List, [], ◌∷◌, refl, ap, arith, sym, ◌∙◌, filter, if◌then◌else◌, inl, inr}
use Rattle.std.proofs.Common.{nat_lt as ltb}
use Rattle.std.proofs.lemmas.Bool.{cases_Bool, cases_lt, cases_order, and_parts, and_right, and_from, or_parts, or_left, both_ways, lt-ltb, le-ltb, ltb-true, eqb-false, eqb-true, eq-eqb, cond_both, cases_eq, ne_eqb, or_cases, or_right}
use Rattle.std.specs.Prelude.{IsTrue, ◌↔◌, ◌⊎◌}
use Rattle.seq_circle.specs.Circle.{distance, is_before}
use Rattle.run_list.specs.declared.answers.Marked.TheVariants.{New, Again, BelowFloor}
use Rattle.run_list.specs.MarkedSet.{MarkedSet, IsSound, AreFalling, has, is_from, IsFrom, raised, floor_under, with_number, joined_by, answer_to, marked}
use Rattle.run_list.proofs.Downs.{below-absent, falling_weaker}
use Rattle.run_list.proofs.Steps.{same_place, distance_raised, far_below}

pub has-with_number : (f n m : ℕ) (ns : List ℕ) → has (with_number f n ns) m ≡ (n == m) || has ns m
has-with_number f n m [] = refl
has-with_number f n m (x ∷ xs) = let ih = has-with_number f n m xs in grind (arith, ih)

pub has-filter : (p : ℕ → Bool) (m : ℕ) (ns : List ℕ) → has (filter p ns) m ≡ p m && has ns m
has-filter p m [] = grind arith
has-filter p m (x ∷ xs) = let ih = has-filter p m xs in grind (arith, ih)

-- the floor under a near number is not ahead
pub still : (f n : ℕ) → f < 2 ^ 48 → n < 2 ^ 48 → distance f n < 2048 → is_before f (floor_under n) ≡ false
still f n p q h =
    let far : (1 ≤ distance f (floor_under n)) → (distance f (floor_under n) < 2 ^ 47) → ⊥ = λ a b. absurd (omega arith) in
    elim (cases_Bool (is_before f (floor_under n))) [
      | inl holds ↦ let parts = and_parts (ltb 0 (distance f (floor_under n))) (ltb (distance f (floor_under n)) (2 ^ 47)) holds in
          absurd (far (ltb-true 0 (distance f (floor_under n)) parts.0) (ltb-true (distance f (floor_under n)) (2 ^ 47) parts.1))
      | inr fails ↦ fails
    ]

-- the floor stays where the number is near
pub raised-near : (set : MarkedSet) (n : ℕ) → set.floor < 2 ^ 48 → n < 2 ^ 48 → distance set.floor n < 2048 → raised set (floor_under n) ≡ set
raised-near set n p q h =
    let not_before : is_before set.floor (floor_under n) ≡ false = still set.floor n p q h in
    rw not_before refl

pub marked-near : (set : MarkedSet) (n : ℕ) → set.floor < 2 ^ 48 → n < 2 ^ 48 → distance set.floor n < 2048
    → marked set n ≡ (if has set.numbers n then set else joined_by set n)
marked-near set n p q h =
    let near : is_from set.floor n ≡ true = lt-ltb (distance set.floor n) (2 ^ 47) (omega arith) in
    rw (near, raised-near set n p q h) refl

pub answer_to-near : (set : MarkedSet) (n : ℕ) → distance set.floor n < 2048 → answer_to set n ≡ (if has set.numbers n then Again else New)
answer_to-near set n h =
    let near : is_from set.floor n ≡ true = lt-ltb (distance set.floor n) (2 ^ 47) (omega arith) in
    rw near refl

-- a number far above all is new
pub far_absent : (set : MarkedSet) (n : ℕ) → IsSound set → 2048 ≤ distance set.floor n → has set.numbers n ≡ false
far_absent set n s h = below-absent set.floor 2048 n set.numbers h s.falling

pub marked-far : (set : MarkedSet) (n : ℕ) → IsSound set → n < 2 ^ 48 → 2048 ≤ distance set.floor n → distance set.floor n < 2 ^ 47
    → marked set n ≡ joined_by (raised set (floor_under n)) n
marked-far set n s q h k =
    let near : is_from set.floor n ≡ true = lt-ltb (distance set.floor n) (2 ^ 47) (omega arith) in
    rw (near, far_absent set n s h) refl

pub answer_to-far : (set : MarkedSet) (n : ℕ) → IsSound set → 2048 ≤ distance set.floor n → distance set.floor n < 2 ^ 47 → answer_to set n ≡ New
answer_to-far set n s h k =
    let near : is_from set.floor n ≡ true = lt-ltb (distance set.floor n) (2 ^ 47) (omega arith) in
    rw (near, far_absent set n s h) refl

-- and not there after the floor has risen
pub raised_absent : (set : MarkedSet) (to n : ℕ) → has set.numbers n ≡ false → has (raised set to).numbers n ≡ false
raised_absent set to n h =
    elim (cases_Bool (is_before set.floor to)) [
      | inl holds ↦ rw (holds, has-filter (is_from to) n set.numbers, h) (and_right (is_from to n) false refl)
      | inr fails ↦ rw fails h
    ]

-- a number of the set lies below the bound
pub present_below : (f b m : ℕ) (ns : List ℕ) → AreFalling f b ns → has ns m ≡ true → distance f m < b
present_below f b m ns s h =
    elim (cases_lt (distance f m) b) [
      | inl lt ↦ lt
      | inr ge ↦ absurd (both_ways (has ns m) (below-absent f b m ns ge s) h)
    ]

-- a raised floor keeps what is not below it
pub has-raised : (set : MarkedSet) (to m : ℕ) → IsSound set → has (raised set to).numbers m ≡ (is_from (raised set to).floor m && has set.numbers m)
has-raised set to m s =
    elim (cases_Bool (is_before set.floor to)) [
      | inl holds ↦ rw holds (has-filter (is_from to) m set.numbers)
      | inr fails ↦ rw fails (all_from set m s)
    ]
  where
    all_from : (set : MarkedSet) (m : ℕ) → IsSound set → has set.numbers m ≡ (is_from set.floor m && has set.numbers m)
    all_from set m s = elim (cases_Bool (has set.numbers m)) [
      | inl holds ↦ let near : is_from set.floor m ≡ true =
          lt-ltb (distance set.floor m) (2 ^ 47)
          (let d : distance set.floor m < 2048 = present_below set.floor 2048 m set.numbers s.falling holds in omega arith) in
          rw (holds, near) refl
      | inr fails ↦ rw fails (sym (and_right (is_from set.floor m) false refl))
    ]

-- the numbers stay in order, each at the floor or above it
pub falling-with_number : (f b n : ℕ) (ns : List ℕ) → f < 2 ^ 48 → n < 2 ^ 48 → distance f n < b → has ns n ≡ false → AreFalling f b ns
    → AreFalling f b (with_number f n ns)
falling-with_number f b n [] p q d h s = (q, d, tt)
falling-with_number f b n (m ∷ ms) p q d h s =
    let parts = or_parts (m == n) (has ms n) h in
    elim (cases_lt (distance f n) (distance f m)) [
      | inl lt ↦ let test : ltb (distance f n) (distance f m) ≡ true = lt-ltb (distance f n) (distance f m) lt in
          rw test (s.0, s.1, falling-with_number f (distance f m) n ms p q lt parts.1 s.2)
      | inr ge ↦ let test : ltb (distance f n) (distance f m) ≡ false = le-ltb (distance f n) (distance f m) ge in
          let other : (distance f m ≡ distance f n) → ⊥ = λ e. eqb-false m n parts.0 (same_place f m n p s.0 q e) in
          rw test (q, d, (s.0, omega arith, s.2))
    ]

pub falling-filter : (f to b : ℕ) (ns : List ℕ) → f < 2 ^ 48 → to < 2 ^ 48 → distance f to < 2 ^ 47 → b ≤ 2 ^ 47 → AreFalling f b ns
    → AreFalling to (b - distance f to) (filter (is_from to) ns)
falling-filter f to b [] p q r l s = tt
falling-filter f to b (n ∷ ns) p q r l s =
    let ih = falling-filter f to (distance f n) ns p q r (omega arith) s.2 in
    elim (cases_lt (distance f n) (distance f to)) [
      | inl lt ↦ let test : is_from to n ≡ false = le-ltb (distance to n) (2 ^ 47) (far_below f to n p q s.0 lt r) in
          rw test (falling_weaker to (distance f n - distance f to) (b - distance f to) (filter (is_from to) ns) (omega arith) ih)
      | inr ge ↦ kept ge ih
    ]
  where
    kept : distance f to ≤ distance f n → AreFalling to (distance f n - distance f to) (filter (is_from to) ns)
        → AreFalling to (b - distance f to) (filter (is_from to) (n ∷ ns))
    kept ge ih =
        let near : distance to n + distance f to ≡ distance f n = distance_raised f to n p q s.0 ge in
        let bound : distance f n - distance f to ≡ distance to n = omega arith in
        let below : distance f n < b = s.1 in
        let test : is_from to n ≡ true = lt-ltb (distance to n) (2 ^ 47) (omega arith) in
        rw test (s.0, omega arith, rw bound at ih)

pub sound-raised : (set : MarkedSet) (to : ℕ) → IsSound set → to < 2 ^ 48 → IsSound (raised set to)
sound-raised set to s q =
    elim (cases_Bool (is_before set.floor to)) [
      | inl holds ↦
          let parts = and_parts (ltb 0 (distance set.floor to)) (ltb (distance set.floor to) (2 ^ 47)) holds in
          let near : distance set.floor to < 2 ^ 47 = ltb-true (distance set.floor to) (2 ^ 47) parts.1 in
          rw holds record {
            floor_fits = q;
            falling = falling_weaker to (2048 - distance set.floor to) 2048 (filter (is_from to) set.numbers) (omega arith)
                (falling-filter set.floor to 2048 set.numbers s.floor_fits q near (omega arith) s.falling);
          }
      | inr fails ↦ rw fails s
    ]

-- the floor that a far number pushes up lies 2,047 below it
pub pushed : (f n : ℕ) → f < 2 ^ 48 → n < 2 ^ 48 → 2048 ≤ distance f n → distance f n < 2 ^ 47 → is_before f (floor_under n) ≡ true
pushed f n p q h k =
    and_from (ltb 0 (distance f (floor_under n))) (ltb (distance f (floor_under n)) (2 ^ 47))
    (lt-ltb 0 (distance f (floor_under n)) (omega arith)) (lt-ltb (distance f (floor_under n)) (2 ^ 47) (omega arith))

pub reach : (n : ℕ) → n < 2 ^ 48 → distance (floor_under n) n ≡ 2047
reach n q = omega arith

pub sound-joined_by : (set : MarkedSet) (n : ℕ) → IsSound set → n < 2 ^ 48 → distance set.floor n < 2048 → has set.numbers n ≡ false → IsSound (joined_by set n)
sound-joined_by set n s q d h =
    record { floor_fits = s.floor_fits; falling = falling-with_number set.floor 2048 n set.numbers s.floor_fits q d h s.falling }

pub sound-marked : (set : MarkedSet) (n : ℕ) → IsSound set → n < 2 ^ 48 → IsSound (marked set n)
sound-marked set n s q =
    elim (cases_lt (distance set.floor n) 2048) [
      | inl near ↦ rw (marked-near set n s.floor_fits q near)
          (cond_both (has set.numbers n) set (joined_by set n) IsSound (λ _. s) (λ h. sound-joined_by set n s q near h))
      | inr far ↦ elim (cases_lt (distance set.floor n) (2 ^ 47)) [
        | inl ahead ↦ rw (marked-far set n s q far ahead) (sound-far far ahead)
        | inr below ↦ let test : is_from set.floor n ≡ false = le-ltb (distance set.floor n) (2 ^ 47) below in rw test s
      ]
    ]
  where
    sound-far : 2048 ≤ distance set.floor n → distance set.floor n < 2 ^ 47 → IsSound (joined_by (raised set (floor_under n)) n)
    sound-far far ahead =
        let up : is_before set.floor (floor_under n) ≡ true = pushed set.floor n s.floor_fits q far ahead in
        let reached : distance (floor_under n) n < 2048 = omega (arith, reach n q) in
        let near : distance (raised set (floor_under n)).floor n < 2048 = rw up reached in
        sound-joined_by (raised set (floor_under n)) n (sound-raised set (floor_under n) s (omega arith)) q near
        (raised_absent set (floor_under n) n (far_absent set n s far))

-- the same numbers, the same newest one
pub same_head : (f b m n : ℕ) (ms ns : List ℕ) → f < 2 ^ 48 → AreFalling f b (m ∷ ms) → AreFalling f b (n ∷ ns) → ((k : ℕ) → has (m ∷ ms) k ≡ has (n ∷ ns) k)
    → m ≡ n
same_head f b m n ms ns p s t h =
    elim (cases_order (distance f m) (distance f n)) [
      | inl level ↦ same_place f m n p s.0 t.0 level
      | inr apart ↦ elim apart [
        | inl less ↦ absurd (both_ways (has (m ∷ ms) n)
            (below-absent f (distance f m + 1) n (m ∷ ms) (omega arith) (s.0, omega arith, s.2))
            (h n ∙ or_left (n == n) (has ns n) (eq-eqb n n refl)))
        | inr more ↦ absurd (both_ways (has (n ∷ ns) m)
            (below-absent f (distance f n + 1) m (n ∷ ns) (omega arith) (t.0, omega arith, t.2))
            (sym (h m) ∙ or_left (m == m) (has ms m) (eq-eqb m m refl)))
      ]
    ]

-- and the same others
pub same_rest : (f m n : ℕ) (ms ns : List ℕ) → m ≡ n → AreFalling f (distance f m) ms → AreFalling f (distance f m) ns
    → ((k : ℕ) → has (m ∷ ms) k ≡ has (n ∷ ns) k) → (k : ℕ) → has ms k ≡ has ns k
same_rest f m n ms ns e s t h k =
    elim (cases_eq m k) [
      | inl here ↦ rw (← here) (below-absent f (distance f m) m ms (omega arith) s ∙ sym (below-absent f (distance f m) m ns (omega arith) t))
      | inr other ↦
          let one : (m == k) ≡ false = ne_eqb m k other in
          let two : (n == k) ≡ false = rw (← e) one in
          let both : (m == k) || has ms k ≡ ((n == k) || has ns k) = h k in
          rw (one, two) at both
    ]

-- two falling lists with the same numbers are one
pub falling_same : (f b : ℕ) (ms ns : List ℕ) → f < 2 ^ 48 → AreFalling f b ms → AreFalling f b ns → ((k : ℕ) → has ms k ≡ has ns k) → ms ≡ ns
falling_same f b [] [] p s t h = refl
falling_same f b [] (n ∷ ns) p s t h = absurd (both_ways (has (n ∷ ns) n) (sym (h n)) (or_left (n == n) (has ns n) (eq-eqb n n refl)))
falling_same f b (m ∷ ms) [] p s t h = absurd (both_ways (has (m ∷ ms) m) (h m) (or_left (m == m) (has ms m) (eq-eqb m m refl)))
falling_same f b (m ∷ ms) (n ∷ ns) p s t h =
    let head : m ≡ n = same_head f b m n ms ns p s t h in
    let lower : AreFalling f (distance f m) ns = rw head t.2 in
    let tails : ms ≡ ns = falling_same f (distance f m) ms ns p s.2 lower (same_rest f m n ms ns head s.2 lower h) in
    cc

-- what New tells
pub new_parts : (set : MarkedSet) (n : ℕ) → answer_to set n ≡ New → (is_from set.floor n ≡ true) × (has set.numbers n ≡ false)
new_parts set n e =
    elim (cases_Bool (is_from set.floor n)) [
      | inl holds ↦ elim (cases_Bool (has set.numbers n)) [
        | inl there ↦ let bad : Again ≡ New = rw (holds, there) at e in cc
        | inr absent ↦ (holds, absent)
      ]
      | inr fails ↦ let bad : BelowFloor ≡ New = rw fails at e in cc
    ]

pub marked-new : (set : MarkedSet) (n : ℕ) → answer_to set n ≡ New → marked set n ≡ joined_by (raised set (floor_under n)) n
marked-new set n e = let parts = new_parts set n e in rw (parts.0, parts.1) refl

-- marking, number by number
pub has-marked : (set : MarkedSet) (n m : ℕ) → IsSound set → n < 2 ^ 48 → answer_to set n ≡ New
    → has (marked set n).numbers m ≡ ((n == m) || (is_from (marked set n).floor m && has set.numbers m))
has-marked set n m s q e =
    rw (marked-new set n e)
    (has-with_number (raised set (floor_under n)).floor n m (raised set (floor_under n)).numbers
    ∙ ap (λ b. (n == m) || b) (has-raised set (floor_under n) m s))

pub marked_iff : (set : MarkedSet) (n m : ℕ) → IsSound set → n < 2 ^ 48 → answer_to set n ≡ New
    → IsTrue (has (marked set n).numbers m) ↔ ((m ≡ n) ⊎ (IsTrue (has set.numbers m) × IsFrom (marked set n).floor m))
marked_iff set n m s q e =
    let parts = has-marked set n m s q e in
    let floor : ℕ = (marked set n).floor in (
      λ h. elim (or_cases (n == m) (is_from floor m && has set.numbers m) (sym parts ∙ h)) [
        | inl same ↦ inl (sym (eqb-true n m same))
        | inr old ↦ let both = and_parts (is_from floor m) (has set.numbers m) old in inr (both.1, ltb-true (distance floor m) (2 ^ 47) both.0)
      ],
      λ k. parts ∙ elim k [
        | inl same ↦ or_left (n == m) (is_from floor m && has set.numbers m) (eq-eqb n m (sym same))
        | inr old ↦ or_right (n == m) (is_from floor m && has set.numbers m)
            (and_from (is_from floor m) (has set.numbers m) (lt-ltb (distance floor m) (2 ^ 47) old.1) old.0)
      ],
    )

pub raised_iff : (set : MarkedSet) (to m : ℕ) → IsSound set
    → IsTrue (has (raised set to).numbers m) ↔ (IsTrue (has set.numbers m) × IsFrom (raised set to).floor m)
raised_iff set to m s =
    let parts = has-raised set to m s in
    let floor : ℕ = (raised set to).floor in (
      λ h. let both = and_parts (is_from floor m) (has set.numbers m) (sym parts ∙ h) in (both.1, ltb-true (distance floor m) (2 ^ 47) both.0),
      λ k. parts ∙ and_from (is_from floor m) (has set.numbers m) (lt-ltb (distance floor m) (2 ^ 47) k.1) k.0,
    )

pub set_same : (one other : MarkedSet) → IsSound one → IsSound other → one.floor ≡ other.floor → ((n : ℕ) → has one.numbers n ≡ has other.numbers n)
    → one ≡ other
set_same one other s t e h =
    let numbers : one.numbers ≡ other.numbers = falling_same one.floor 2048 one.numbers other.numbers s.floor_fits s.falling (rw e t.falling) h in
    ap (λ (f : ℕ). record { floor = f; numbers = one.numbers }) e ∙ ap (λ (ns : List ℕ). record { floor = other.floor; numbers = ns }) numbers

pub again_iff : (set : MarkedSet) (n : ℕ) → (answer_to set n ≡ Again) ↔ (IsFrom set.floor n × IsTrue (has set.numbers n))
again_iff set n = (
  λ e. elim (cases_Bool (is_from set.floor n)) [
    | inl holds ↦ elim (cases_Bool (has set.numbers n)) [
      | inl there ↦ (ltb-true (distance set.floor n) (2 ^ 47) holds, there)
      | inr absent ↦ let bad : New ≡ Again = rw (holds, absent) at e in cc
    ]
    | inr fails ↦ let bad : BelowFloor ≡ Again = rw fails at e in cc
  ],
  λ k. let near : is_from set.floor n ≡ true = lt-ltb (distance set.floor n) (2 ^ 47) k.0 in
      let there : has set.numbers n ≡ true = k.1 in rw (near, there) refl,
)

-- only New changes the set
pub marked-other : (set : MarkedSet) (n : ℕ) → (answer_to set n ≡ New → ⊥) → marked set n ≡ set
marked-other set n h =
    elim (cases_Bool (is_from set.floor n)) [
      | inl holds ↦ elim (cases_Bool (has set.numbers n)) [
        | inl there ↦ rw (holds, there) refl
        | inr absent ↦ absurd (h (rw (holds, absent) refl))
      ]
      | inr fails ↦ rw fails refl
    ]
