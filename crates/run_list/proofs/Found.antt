-- The maximal runs of a falling list are the laid runs that have its numbers.
use Rattle.std.proofs.Common.{◌≡◌, ℕ, ◌+◌, ◌-◌, ◌^◌, ◌<◌, ◌≤◌, List, [], ◌∷◌, ◌++◌, zero, suc, refl, ap, arith, sym, ◌∙◌, add-one, inl, inr}
use Rattle.std.proofs.lemmas.Bool.{cases_eq, eq-eqb, ne_eqb}
use Rattle.seq_circle.specs.Circle.{residue, distance}
use Rattle.run_list.specs.declared.walking.Stretch.{Stretch}
use Rattle.run_list.specs.MarkedSet.{AreFalling}
use Rattle.run_list.specs.Stretches.{stretch, stretches, extended_by}
use Rattle.run_list.specs.Runs.{downwards, numbers_of, bound_below, AreLaid}
use Rattle.run_list.proofs.Steps.{down, down_fits, distance-down, up-down, up_distance, right_below, distance-up}
use Rattle.run_list.proofs.Laid.{laid_below}

-- a number that the runs below do not touch begins a run
pub begins-extended_by : (f n : ℕ) (ss : List Stretch) → f < 2 ^ 48 → n < 2 ^ 48 → distance f n < 2 ^ 47 → AreLaid f (distance f n - 1) ss
    → extended_by n ss ≡ stretch n 1 ∷ ss
begins-extended_by f n [] p q r h = refl
begins-extended_by f n (s ∷ ss) p q r h =
    let below : distance f s.hi < distance f n - 1 = h.0.below in
    let ne : (residue (s.hi + 1) ≡ n) → ⊥ = λ e. let d : distance f n ≡ distance f s.hi + 1 = up_distance f s.hi n p h.0.fits e (omega arith) in
    absurd (omega arith) in
    grind arith

-- one that they touch extends the first
pub extends-extended_by : (n hi count : ℕ) (ss : List Stretch) → residue (hi + 1) ≡ n → extended_by n (stretch hi count ∷ ss) ≡ stretch n (count + 1) ∷ ss
extends-extended_by n hi count ss e = grind arith

pub stretches-run : (f count hi : ℕ) (ss : List Stretch) → f < 2 ^ 48 → hi < 2 ^ 48 → distance f hi < 2 ^ 47 → suc count ≤ distance f hi + 1
    → AreLaid f (distance f hi - suc count) ss → stretches (numbers_of ss) ≡ ss
    → stretches (downwards (suc count) hi ++ numbers_of ss) ≡ stretch hi (suc count) ∷ ss
stretches-run f zero hi ss p q r k h e = rw e (begins-extended_by f hi ss p q r h)
stretches-run f (suc count) hi ss p q r k h e =
    let d : distance f (down hi) + 1 ≡ distance f hi = distance-down f hi p q (omega arith) in
    let bound : distance f hi - suc (suc count) ≡ distance f (down hi) - suc count = omega arith in
    let ih = stretches-run f count (down hi) ss p (down_fits hi) (omega arith) (omega arith) (rw bound at h) e in
    let count_is : suc count + 1 ≡ suc (suc count) = omega arith in
    ap (λ ts. extended_by hi ts) ih ∙ extends-extended_by hi (down hi) (suc count) ss (up-down hi q) ∙ ap (λ c. stretch hi c ∷ ss) count_is

pub stretches-some : (f count hi : ℕ) (ss : List Stretch) → f < 2 ^ 48 → hi < 2 ^ 48 → distance f hi < 2 ^ 47 → 1 ≤ count → count ≤ distance f hi + 1
    → AreLaid f (distance f hi - count) ss → stretches (numbers_of ss) ≡ ss → stretches (downwards count hi ++ numbers_of ss) ≡ stretch hi count ∷ ss
stretches-some f zero hi ss p q r o k h e = absurd (omega arith)
stretches-some f (suc count) hi ss p q r o k h e = stretches-run f count hi ss p q r k h e

pub stretches-numbers_of : (f b : ℕ) (ss : List Stretch) → f < 2 ^ 48 → b ≤ 2 ^ 47 → AreLaid f b ss → stretches (numbers_of ss) ≡ ss
stretches-numbers_of f b [] p r h = refl
stretches-numbers_of f b (s ∷ ss) p r h =
    stretches-some f s.count s.hi ss p h.0.fits (omega arith) h.0.some h.0.above h.1 (stretches-numbers_of f (bound_below f s) ss p (omega arith) h.1)

-- a number above runs joins them, or comes before them
pub laid-extended_by : (f b n : ℕ) (ss : List Stretch) → f < 2 ^ 48 → n < 2 ^ 48 → distance f n < b → distance f n < 2 ^ 47 → AreLaid f (distance f n) ss
    → AreLaid f b (extended_by n ss) × (numbers_of (extended_by n ss) ≡ n ∷ numbers_of ss)
laid-extended_by f b n [] p q d r h = ((record { fits = q; some = omega arith; below = d; above = omega arith }, tt), refl)
laid-extended_by f b n (s ∷ ss) p q d r h =
    elim (cases_eq (residue (s.hi + 1)) n) [
      | inl touch ↦ joins touch
      | inr gap ↦ begins gap
    ]
  where
    joins : residue (s.hi + 1) ≡ n → AreLaid f b (extended_by n (s ∷ ss)) × (numbers_of (extended_by n (s ∷ ss)) ≡ n ∷ numbers_of (s ∷ ss))
    joins touch =
        let up : distance f n ≡ distance f s.hi + 1 = up_distance f s.hi n p h.0.fits touch (omega (arith, h.0.below)) in
        let lower : down n ≡ s.hi = right_below f s.hi n p h.0.fits q (omega arith) in
        let above : s.count ≤ distance f s.hi + 1 = h.0.above in
        let bound : distance f n - (s.count + 1) ≡ bound_below f s = omega arith in
        rw (eq-eqb (residue (s.hi + 1)) n touch) (
          (record { fits = q; some = omega arith; below = d; above = omega arith }, rw bound h.1),
          (rw (add-one, lower) refl),
        )

    begins : ((residue (s.hi + 1) ≡ n) → ⊥) → AreLaid f b (extended_by n (s ∷ ss)) × (numbers_of (extended_by n (s ∷ ss)) ≡ n ∷ numbers_of (s ∷ ss))
    begins gap =
        let under : distance f s.hi < distance f n = h.0.below in
        let apart : (distance f s.hi + 1 ≡ distance f n) → ⊥ = λ e. gap (distance-up f s.hi n p h.0.fits q (sym e)) in
        rw (ne_eqb (residue (s.hi + 1)) n gap) (
          (
            record { fits = q; some = omega arith; below = d; above = omega arith },
            laid_below f (distance f n) (distance f n - 1) s ss (omega arith) h,
          ),
          refl,
        )

-- the maximal runs of a falling list have its numbers, and are laid
pub laid-stretches : (f b : ℕ) (ns : List ℕ) → f < 2 ^ 48 → b ≤ 2 ^ 47 → AreFalling f b ns → AreLaid f b (stretches ns) × (numbers_of (stretches ns) ≡ ns)
laid-stretches f b [] p r s = (tt, refl)
laid-stretches f b (n ∷ ns) p r s =
    let ih = laid-stretches f (distance f n) ns p (omega arith) s.2 in
    let both = laid-extended_by f b n (stretches ns) p s.0 s.1 (omega arith) ih.0 in
    (both.0, both.1 ∙ ap (λ ms. n ∷ ms) ih.1)
