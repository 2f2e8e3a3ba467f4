-- What one more packet makes of the set, and of the places that tell how its numbers came.
use Rattle.std.proofs.Common.{◌≡◌, ℕ, ◌%◌, ◌^◌, ◌<◌, ◌≤◌, ◌==◌, nat_lt, Bool, true, false, List, [], ◌∷◌, refl, ap, sym, subst, ◌∙◌, arith, inl, inr}
use Rattle.std.specs.Prelude.{Option, Some, None, is_some, if◌then◌else◌}
use Rattle.std.proofs.lemmas.Bool.{cases_Bool, cases_lt, both_ways, eq-eqb, ne_eqb, eqb-true, eqb-false, lt-ltb, le-ltb, or_cases, or_left, or_right}
use Rattle.seq_circle.specs.Circle.{distance}
use Rattle.run_list.specs.declared.answers.Marked.{Marked}
use Rattle.run_list.specs.declared.answers.Marked.TheVariants.{New}
use Rattle.run_list.specs.MarkedSet.{MarkedSet, IsSound, AreFalling, answer_to, has, is_from, marked}
use Rattle.run_list.proofs.Sets.{far_absent, has-marked, present_below, sound-marked}
use Rattle.run_list.proofs.Floors.{floor-above, from-marked}
use Rattle.dccp_ecn.specs.declared.arrived.Arrived.{Arrived}
use Rattle.dccp_ecn.specs.Arrivals.{arrival_of, arrivals, arrivals_by, how_in, known_or_marked, taken_in, taken_as}
use Rattle.dccp_ecn.specs.Ring.{at_place, how_at, IsEmptied, IsMirror, IsPut}

-- two tellings that agree on the numbers of a list
pub arrivals-same : (p q : ℕ → Arrived) (ns : List ℕ) → ((m : ℕ) → has ns m ≡ true → p m ≡ q m) → arrivals_by p ns ≡ arrivals_by q ns
arrivals-same p q [] h = refl
arrivals-same p q (n ∷ ns) h =
    let here : p n ≡ q n = h n (or_left (n == n) (has ns n) (eq-eqb n n refl)) in
    let rest : arrivals_by p ns ≡ arrivals_by q ns = arrivals-same p q ns (λ m k. h m (or_right (n == m) (has ns m) k)) in
    ap (λ how. arrival_of n how ∷ arrivals_by p ns) here ∙ ap (λ first. arrival_of n (q n) ∷ first) rest

-- how a number came, by a telling of a list
pub how_in-all : (p : ℕ → Arrived) (ns : List ℕ) (m : ℕ) → how_in (arrivals_by p ns) m ≡ (if has ns m then Some (p m) else None)
how_in-all p [] m = refl
how_in-all p (n ∷ ns) m =
    elim (cases_Bool (n == m)) [
      | inl same ↦ let is : n ≡ m = eqb-true n m same in rw same (ap (λ k. Some (p k)) is)
      | inr other ↦ rw other (how_in-all p ns m)
    ]

-- the numbers of a set are sequence numbers
pub present_fits : (f b m : ℕ) (ns : List ℕ) → AreFalling f b ns → has ns m ≡ true → m < 2 ^ 48
present_fits f b m [] s h = absurd (both_ways false refl h)
present_fits f b m (n ∷ ns) s h =
    elim (or_cases (n == m) (has ns m) h) [
      | inl same ↦ subst (λ k. k < 2 ^ 48) (eqb-true n m same) s.0
      | inr old ↦ present_fits f (distance f n) m ns s.2 old
    ]

-- numbers less than 2,048 above one floor have places of their own
pub places_apart : (f m n : ℕ) → f < 2 ^ 48 → m < 2 ^ 48 → n < 2 ^ 48 → distance f m < 2048 → distance f n < 2048 → m % 2048 ≡ n % 2048 → m ≡ n
places_apart f m n p q r a b e = omega arith

-- of the numbers less than 2,048 above the floor that is raised, just those keep their place that were so above the old one
pub near-kept : (f g m : ℕ) → f < 2 ^ 48 → g < 2 ^ 48 → m < 2 ^ 48 → distance f g < 2 ^ 47 → distance g m < 2048 → distance f m < 2048
    → distance f g ≤ distance f m % 2048
near-kept f g m p q r up above near = omega arith

pub far-emptied : (f g m : ℕ) → f < 2 ^ 48 → g < 2 ^ 48 → m < 2 ^ 48 → distance f g < 2 ^ 47 → distance g m < 2048 → 2048 ≤ distance f m
    → distance f m % 2048 < distance f g
far-emptied f g m p q r up above far = omega arith

-- what the ring tells of a number near the floor, and of another
pub how-near : (set : MarkedSet) (ring : List (Option Arrived)) (n : ℕ) → n < 2 ^ 48 → distance set.floor n < 2048 → IsMirror set ring
    → how_in (arrivals_by (how_at ring) set.numbers) n ≡ at_place ring n
how-near set ring n fits near mirror = how_in-all (how_at ring) set.numbers n ∙ by (at_place ring n) (has set.numbers n) (mirror n fits near)
  where
    by : (told : Option Arrived) (there : Bool) → is_some told ≡ there → (if there then Some (known_or_marked told) else None) ≡ told
    by None true e = absurd (both_ways false refl e)
    by None false e = refl
    by (Some how) true e = refl
    by (Some how) false e = absurd (both_ways false refl (sym e))

pub how-far : (set : MarkedSet) (ring : List (Option Arrived)) (n : ℕ) → IsSound set → 2048 ≤ distance set.floor n
    → how_in (arrivals_by (how_at ring) set.numbers) n ≡ None
how-far set ring n s far = how_in-all (how_at ring) set.numbers n ∙ rw (far_absent set n s far) refl

-- a new number's place is written, after the places of the numbers that the floor passed were emptied
pub record Rewritten (set : MarkedSet) (n : ℕ) (how : Arrived) (old new : List (Option Arrived)) : Type 0 where
  pub sound : IsSound set
  pub fits : n < 2 ^ 48
  pub is_new : answer_to set n ≡ New
  pub mirror : IsMirror set old
  pub between : List (Option Arrived)
  pub emptied : IsEmptied set.floor (distance set.floor (marked set n).floor) old between
  pub put : IsPut n how between new

module _ (set : MarkedSet) (n : ℕ) (how : Arrived) (old new : List (Option Arrived)) (r : Rewritten set n how old new) where
  -- the new number's place
  pub place-new : (m : ℕ) → n ≡ m → at_place new m ≡ Some how
  place-new m is =
      let same : m % 2048 ≡ n % 2048 = ap (λ k. k % 2048) (sym is) in
      r.put m ∙ rw (eq-eqb (m % 2048) (n % 2048) same) refl

  -- another number, from the new floor up
  pub place-other : (m : ℕ) → m < 2 ^ 48 → distance (marked set n).floor m < 2048 → (n == m) ≡ false
      → (is_some (at_place new m) ≡ has set.numbers m) × (has set.numbers m ≡ true → at_place new m ≡ at_place old m)
  place-other m fits above other =
      let f : ℕ = set.floor in
      let g : ℕ = (marked set n).floor in
      let f_fits : f < 2 ^ 48 = r.sound.floor_fits in
      let g_fits : g < 2 ^ 48 = (sound-marked set n r.sound r.fits).floor_fits in
      let up : distance f g < 2 ^ 47 = from-marked set n in
      let near : distance g n ≤ 2047 = floor-above set n r.sound r.fits r.is_new in
      let apart : (m % 2048 == n % 2048) ≡ false =
      ne_eqb (m % 2048) (n % 2048) (λ same. eqb-false n m other (sym (places_apart g m n g_fits fits r.fits above (omega arith) same))) in
      let here : at_place new m ≡ at_place r.between m = r.put m ∙ rw apart refl in
      elim (cases_lt (distance f m) 2048) [
        | inl close ↦
            let stays : nat_lt (distance f m % 2048) (distance f g) ≡ false =
            le-ltb (distance f m % 2048) (distance f g) (near-kept f g m f_fits g_fits fits up above close) in
            let all : at_place new m ≡ at_place old m = here ∙ r.emptied m fits ∙ rw stays refl in
            (ap is_some all ∙ r.mirror m fits close, λ there. all)
        | inr far ↦
            let goes : nat_lt (distance f m % 2048) (distance f g) ≡ true =
            lt-ltb (distance f m % 2048) (distance f g) (far-emptied f g m f_fits g_fits fits up above far) in
            let none : at_place new m ≡ None = here ∙ r.emptied m fits ∙ rw goes refl in
            let absent : has set.numbers m ≡ false = far_absent set m r.sound far in
            (ap is_some none ∙ sym absent, λ there. absurd (both_ways (has set.numbers m) absent there))
      ]

  -- from the new floor up the set has another number where it had it
  pub has-other : (m : ℕ) → distance (marked set n).floor m < 2048 → (n == m) ≡ false → has (marked set n).numbers m ≡ has set.numbers m
  has-other m above other =
      let from : is_from (marked set n).floor m ≡ true = lt-ltb (distance (marked set n).floor m) (2 ^ 47) (omega arith) in
      has-marked set n m r.sound r.fits r.is_new ∙ rw (other, from) refl

  pub mirror-taken : IsMirror (marked set n) new
  mirror-taken m fits above =
      elim (cases_Bool (n == m)) [
        | inl same ↦
            ap is_some (place-new m (eqb-true n m same)) ∙ sym (has-marked set n m r.sound r.fits r.is_new ∙ rw same refl)
        | inr other ↦ (place-other m fits above other).0 ∙ sym (has-other m above other)
      ]

  pub telling-taken : arrivals_by (how_at new) (marked set n).numbers
      ≡ arrivals_by (λ m. known_or_marked (how_in (arrival_of n how ∷ arrivals_by (how_at old) set.numbers) m)) (marked set n).numbers
  telling-taken =
      arrivals-same (how_at new) (λ m. known_or_marked (how_in (arrival_of n how ∷ arrivals_by (how_at old) set.numbers) m)) (marked set n).numbers told
    where
      told : (m : ℕ) → has (marked set n).numbers m ≡ true
          → how_at new m ≡ known_or_marked (how_in (arrival_of n how ∷ arrivals_by (how_at old) set.numbers) m)
      told m there =
          let falling : AreFalling (marked set n).floor 2048 (marked set n).numbers = (sound-marked set n r.sound r.fits).falling in
          let fits : m < 2 ^ 48 = present_fits (marked set n).floor 2048 m (marked set n).numbers falling there in
          let above : distance (marked set n).floor m < 2048 = present_below (marked set n).floor 2048 m (marked set n).numbers falling there in
          elim (cases_Bool (n == m)) [
            | inl same ↦ rw same (ap known_or_marked (place-new m (eqb-true n m same)))
            | inr other ↦
                let present : has set.numbers m ≡ true = sym (has-other m above other) ∙ there in
                let before : how_in (arrivals_by (how_at old) set.numbers) m ≡ Some (how_at old m) =
                how_in-all (how_at old) set.numbers m ∙ rw present refl in
                rw other (ap known_or_marked ((place-other m fits above other).1 present) ∙ sym (ap known_or_marked before))
          ]

  -- what is seen of all that was received
  pub arrivals-taken : arrivals (marked set n) (arrivals_by (how_at new) (marked set n).numbers)
      ≡ taken_in (arrivals set (arrivals_by (how_at old) set.numbers)) n how
  arrivals-taken =
      ap (λ first. arrivals (marked set n) first) telling-taken
      ∙ ap (λ (a : Marked). taken_as a (arrivals set (arrivals_by (how_at old) set.numbers)) n how) (sym r.is_new)
