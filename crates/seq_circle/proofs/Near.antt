-- Numbers with at most this many steps between them.
use Rattle.std.proofs.Common.{◌≡◌, ℕ, zero, suc, ◌+◌, ◌-◌, ◌^◌, ◌≤◌, ◌<◌, List, [], ◌∷◌, ◌++◌, map, option_map, Some, None, refl, length, drop, slice_get, sym, ap, ◌∙◌, subst, arith}
use Rattle.std.specs.List.{AllByRecursion}
use Rattle.std.proofs.lemmas.List.{length-map}
use Rattle.std.proofs.lemmas.Option.{slice_get-map}
use Rattle.seq_circle.specs.Circle.{distance}
use Rattle.seq_circle.specs.Near.{AreNear}

some_is : (x y : ℕ) → Some x ≡ Some y → x ≡ y
some_is x y is = cc

all_more : (P Q : ℕ → Type 0) (xs : List ℕ) → ((x : ℕ) → P x → Q x) → AllByRecursion P xs → AllByRecursion Q xs
all_more P Q [] each all = tt
all_more P Q (x ∷ xs) each all = (each x all.0, all_more P Q xs each all.1)

all_push : (P : ℕ → Type 0) (xs : List ℕ) (x : ℕ) → AllByRecursion P xs → P x → AllByRecursion P (xs ++ x ∷ [])
all_push P [] x all last = (last, tt)
all_push P (y ∷ ys) x all last = (all.0, all_push P ys x all.1 last)

-- of the numbers up to a place, that there too
pub all_to : (P : ℕ → Type 0) (k : ℕ) (xs : List ℕ) (x : ℕ) → slice_get xs k ≡ Some x → AllByRecursion P xs → P x
all_to P k [] x there all = cc
all_to P zero (y ∷ ys) x there all = subst P (some_is y x there) all.0
all_to P (suc k) (y ∷ ys) x there all = all_to P k ys x there all.1

pub near_drop : (span n : ℕ) (xs : List ℕ) → AreNear span xs → AreNear span (drop n xs)
near_drop span zero xs near = near
near_drop span (suc n) [] near = tt
near_drop span (suc n) (x ∷ xs) near = near_drop span n xs near.2

pub all_low : (span : ℕ) (xs : List ℕ) → AreNear span xs → AllByRecursion (λ x. x < 2 ^ 48) xs
all_low span [] near = tt
all_low span (x ∷ xs) near = (near.0, all_low span xs near.2)

-- two ways of one are no shorter
further : (x y z : ℕ) → x < 2 ^ 48 → y < 2 ^ 48 → z < 2 ^ 48 → distance x z ≤ distance x y + distance y z
further x y z first second third = omega arith

-- one number more, this many steps up from the last
near_push : (span last number : ℕ) (x : ℕ) (later : List ℕ) → number < 2 ^ 48 → slice_get (x ∷ later) (length later) ≡ Some last
    → AreNear span (x ∷ later) → AreNear (span + distance last number) (x ∷ later ++ number ∷ [])
near_push span last number x [] low is near =
    let here : distance x number ≤ span + distance last number =
    subst (λ n. distance x number ≤ span + distance n number) (some_is x last is) (omega arith) in
    (near.0, (here, tt), (low, tt, tt))
near_push span last number x (y ∷ later) low is near =
    let to_last : distance x last ≤ span = all_to (λ o. distance x o ≤ span) (length later) (y ∷ later) last is near.1 in
    let last_low : last < 2 ^ 48 = all_to (λ o. o < 2 ^ 48) (length later) (y ∷ later) last is (all_low span (y ∷ later) near.2) in
    let triangle = further x last number near.0 last_low low in
    let more = all_more (λ o. distance x o ≤ span) (λ o. distance x o ≤ span + distance last number) (y ∷ later) (λ o h. omega arith) near.1 in (
      near.0,
      all_push (λ o. distance x o ≤ span + distance last number) (y ∷ later) number more (omega arith),
      near_push span last number y later low is near.2,
    )

-- the numbers of items, and one more after the last
module _ {Item : Type 0} (number_of : Item → ℕ) where
  -- the number at a place is that of the item there
  pub number_at : (items : List Item) (k : ℕ) (item : Item) → slice_get items k ≡ Some item → slice_get (map number_of items) k ≡ Some (number_of item)
  number_at items k item there = slice_get-map number_of items k ∙ ap (option_map number_of) there

  pub near_after : (span number : ℕ) (items : List Item) (last : Item) → number < 2 ^ 48 → slice_get items (length items - 1) ≡ Some last
      → AreNear span (map number_of items) → AreNear (span + distance (number_of last) number) (map number_of items ++ number ∷ [])
  near_after span number [] last low is near = cc
  near_after span number (x ∷ later) last low is near =
      let one : suc (length later) - 1 ≡ length later = omega arith in
      let place : suc (length later) - 1 ≡ length (map number_of later) = one ∙ sym (length-map later number_of) in
      near_push span (number_of last) number (number_of x) (map number_of later) low
      (sym (ap (λ k. slice_get (map number_of (x ∷ later)) k) place) ∙ number_at (x ∷ later) (suc (length later) - 1) last is) near

  none_last : (items : List Item) → slice_get items (length items - 1) ≡ None → items ≡ []
  none_last [] is = refl
  none_last (x ∷ []) is = cc
  none_last (x ∷ y ∷ later) is =
      let place : suc (suc (length later)) - 1 ≡ suc (length later) = omega arith in
      absurd (never later y (sym (ap (λ k. slice_get (x ∷ y ∷ later) k) place) ∙ is))
    where
      never : (rest : List Item) (z : Item) → slice_get (z ∷ rest) (length rest) ≡ None → ⊥
      never [] z none = cc
      never (w ∷ rest) z none = never rest w none

  pub near_first : (span number : ℕ) (items : List Item) → number < 2 ^ 48 → slice_get items (length items - 1) ≡ None
      → AreNear (span + 0) (map number_of items ++ number ∷ [])
  near_first span number items low is = rw (none_last items is) (low, tt, tt)
