-- Sums over lists, of which one element changes.
use Rattle.std.proofs.Common.{◌≡◌, ℕ, zero, suc, ◌+◌, ◌≤◌, List, [], ◌∷◌, set, sum_by, refl, sym, ap, arith}
use mathlib.Core.Option.{some, some-injective, some-ne-none}
use lib.ListN.{get_elem?}
use Rattle.std.proofs.lemmas.List.Sums.{sum_by-cons}

module _ {A : Type 0} where
  -- one element for another
  pub sum_set : (f : A → ℕ) (xs : List A) (k : ℕ) (x y : A) → get_elem? xs k ≡ some x → sum_by f (set xs k y) + f x ≡ sum_by f xs + f y
  sum_set f [] k x y at = absurd (some-ne-none x (sym at))
  sum_set f (z ∷ zs) zero x y at = let same : f z ≡ f x = ap f (some-injective z x at) in omega (arith, sum_by-cons f y zs, sum_by-cons f z zs)
  sum_set f (z ∷ zs) (suc k) x y at = let rest = sum_set f zs k x y at in omega (arith, sum_by-cons f z (set zs k y), sum_by-cons f z zs)

  -- one element is part of the sum
  pub part_of_sum : (f : A → ℕ) (xs : List A) (k : ℕ) (x : A) → get_elem? xs k ≡ some x → f x ≤ sum_by f xs
  part_of_sum f [] k x at = absurd (some-ne-none x (sym at))
  part_of_sum f (z ∷ zs) zero x at = let same : f z ≡ f x = ap f (some-injective z x at) in omega (arith, sum_by-cons f z zs)
  part_of_sum f (z ∷ zs) (suc k) x at = let rest = part_of_sum f zs k x at in omega (arith, sum_by-cons f z zs)

  -- where each element counts for no more by f than by g, so do all
  pub sum_le : (f g : A → ℕ) (xs : List A) → ((k : ℕ) (x : A) → get_elem? xs k ≡ some x → f x ≤ g x) → sum_by f xs ≤ sum_by g xs
  sum_le f g [] each = omega arith
  sum_le f g (z ∷ zs) each = let first = each 0 z refl in let rest = sum_le f g zs (λ k. each (suc k)) in omega (arith, sum_by-cons f z zs, sum_by-cons g z zs)

  -- where nothing is there by g, and what is nothing by g is nothing by f, nothing is there by f
  pub nothing : (f g : A → ℕ) (xs : List A) → ((k : ℕ) (x : A) → get_elem? xs k ≡ some x → g x ≡ 0 → f x ≡ 0) → sum_by g xs ≡ 0 → sum_by f xs ≡ 0
  nothing f g [] each none = refl
  nothing f g (z ∷ zs) each none =
      let first = each 0 z refl (omega (arith, sum_by-cons g z zs)) in
      let rest = nothing f g zs (λ k. each (suc k)) (omega (arith, sum_by-cons g z zs)) in
      omega (arith, sum_by-cons f z zs)

  -- where one element has all there is by g, it has all there is by f
  pub alone : (f g : A → ℕ) (xs : List A) (k : ℕ) (x : A) → get_elem? xs k ≡ some x
      → ((j : ℕ) (y : A) → get_elem? xs j ≡ some y → g y ≡ 0 → f y ≡ 0) → sum_by g xs ≡ g x → sum_by f xs ≡ f x
  alone f g [] k x at each all = absurd (some-ne-none x (sym at))
  alone f g (z ∷ zs) zero x at each all =
      let same = some-injective z x at in
      let f_same : f z ≡ f x = ap f same in
      let g_same : g z ≡ g x = ap g same in
      let rest = nothing f g zs (λ j. each (suc j)) (omega (arith, sum_by-cons g z zs)) in
      omega (arith, sum_by-cons f z zs)
  alone f g (z ∷ zs) (suc k) x at each all =
      let part = part_of_sum g zs k x at in
      let here = each 0 z refl (omega (arith, sum_by-cons g z zs)) in
      let rest = alone f g zs k x at (λ j. each (suc j)) (omega (arith, sum_by-cons g z zs)) in
      omega (arith, sum_by-cons f z zs)
