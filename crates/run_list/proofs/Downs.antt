-- Numbers from one down.
use Rattle.std.proofs.Common.{◌≡◌, ℕ, ◌+◌, ◌-◌, ◌^◌, ◌<◌, ◌≤◌, false, true, List, [], ◌∷◌, ◌++◌, zero, suc, refl, ap, arith, filter}
use Rattle.std.proofs.Common.{inl, inr}
use Rattle.std.proofs.lemmas.Bool.{cases_lt}
use Rattle.std.proofs.Math.Nat.{suc-add}
use Rattle.seq_circle.specs.Circle.{residue, distance}
use Rattle.run_list.specs.MarkedSet.{has, with_number, is_from, AreFalling}
use Rattle.run_list.specs.Runs.{downwards}
use Rattle.run_list.proofs.Steps.{down, down_fits, distance-down, same_place, distance_raised, far_below}

-- the second part goes on below the first
pub downwards-add : (a b hi n : ℕ) → hi < 2 ^ 48 → n < 2 ^ 48 → residue (n + a) ≡ hi → downwards (a + b) hi ≡ downwards a hi ++ downwards b n
downwards-add zero b hi n p q e =
    let h : 0 + b ≡ b = omega arith in
    let k : n ≡ hi = omega arith in
    rw (h, k) refl
downwards-add (suc a) b hi n p q e =
    rw (suc-add a b) (ap (λ ns. hi ∷ ns) (downwards-add a b (down hi) n (down_fits hi) q (omega arith)))

-- they fall, and what falls below them goes on
pub falling-downwards : (f bound count hi : ℕ) (rest : List ℕ) → f < 2 ^ 48 → hi < 2 ^ 48 → distance f hi < bound → suc count ≤ distance f hi + 1
    → AreFalling f (distance f hi + 1 - suc count) rest → AreFalling f bound (downwards (suc count) hi ++ rest)
falling-downwards f bound zero hi rest p q h k t =
    (q, h, (let e : distance f hi + 1 - 1 ≡ distance f hi = omega arith in rw e at t))
falling-downwards f bound (suc count) hi rest p q h k t =
    let d : distance f (down hi) + 1 ≡ distance f hi = distance-down f hi p q (omega arith) in
    let e : distance f hi + 1 - suc (suc count) ≡ distance f (down hi) + 1 - suc count = omega arith in
    (q, h, falling-downwards f (distance f hi) count (down hi) rest p (down_fits hi) (omega arith) (omega arith) (rw e at t))

-- a wider bound
pub falling_weaker : (f b c : ℕ) (ns : List ℕ) → b ≤ c → AreFalling f b ns → AreFalling f c ns
falling_weaker f b c [] h t = tt
falling_weaker f b c (n ∷ ns) h t = (t.0, omega arith, t.2)

-- the same for a run that has a number
pub falling-run : (f bound count hi : ℕ) (rest : List ℕ) → f < 2 ^ 48 → hi < 2 ^ 48 → distance f hi < bound → 1 ≤ count → count ≤ distance f hi + 1
    → AreFalling f (distance f hi - count) rest → AreFalling f bound (downwards count hi ++ rest)
falling-run f bound zero hi rest p q h o k t = absurd (omega arith)
falling-run f bound (suc count) hi rest p q h o k t =
    falling-downwards f bound count hi rest p q h k
    (falling_weaker f (distance f hi - suc count) (distance f hi + 1 - suc count) rest (omega arith) t)

-- a number above all of them comes before them all, and is none of them
pub below-absent : (f b n : ℕ) (ns : List ℕ) → b ≤ distance f n → AreFalling f b ns → has ns n ≡ false
below-absent f b n [] h t = refl
below-absent f b n (m ∷ ms) h t =
    let ih : has ms n ≡ false = below-absent f (distance f m) n ms (omega arith) t.2 in
    let ne : (m ≡ n) → ⊥ = λ e. let d : distance f m ≡ distance f n = ap (λ x. distance f x) e in absurd (omega arith) in
    grind arith

-- the numbers of a run that lies above n
pub above-with : (f n count hi : ℕ) (rest : List ℕ) → f < 2 ^ 48 → hi < 2 ^ 48 → distance f n + count ≤ distance f hi
    → with_number f n (downwards count hi ++ rest) ≡ downwards count hi ++ with_number f n rest
above-with f n zero hi rest p q h = refl
above-with f n (suc count) hi rest p q h =
    let d : distance f (down hi) + 1 ≡ distance f hi = distance-down f hi p q (omega arith) in
    let ih = above-with f n count (down hi) rest p (down_fits hi) (omega arith) in
    let lt : distance f n < distance f hi = omega arith in
    grind (arith, ih)

pub above-absent : (f n count hi : ℕ) (rest : List ℕ) → f < 2 ^ 48 → hi < 2 ^ 48 → distance f n + count ≤ distance f hi
    → has (downwards count hi ++ rest) n ≡ has rest n
above-absent f n zero hi rest p q h = refl
above-absent f n (suc count) hi rest p q h =
    let d : distance f (down hi) + 1 ≡ distance f hi = distance-down f hi p q (omega arith) in
    let ih = above-absent f n count (down hi) rest p (down_fits hi) (omega arith) in
    let ne : (hi ≡ n) → ⊥ = λ e. let d : distance f hi ≡ distance f n = ap (λ x. distance f x) e in absurd (omega arith) in
    grind (arith, ih)

-- the numbers of a run have the number that lies in it
pub inside-present : (f n count hi : ℕ) (rest : List ℕ) → f < 2 ^ 48 → hi < 2 ^ 48 → n < 2 ^ 48 → distance f n ≤ distance f hi
    → distance f hi < distance f n + count
    → has (downwards count hi ++ rest) n ≡ true
inside-present f n zero hi rest p q r h k = absurd (omega arith)
inside-present f n (suc count) hi rest p q r h k =
    elim (cases_lt (distance f n) (distance f hi)) [
      | inl lt ↦
          let d : distance f (down hi) + 1 ≡ distance f hi = distance-down f hi p q (omega arith) in
          let ih = inside-present f n count (down hi) rest p (down_fits hi) r (omega arith) (omega arith) in
          grind (arith, ih)
      | inr ge ↦
          let e : hi ≡ n = same_place f hi n p q r (omega arith) in
          grind (arith, e)
    ]

-- a raised floor keeps a run at or above it, and drops one below it
pub kept-downwards : (f to count hi : ℕ) (rest : List ℕ) → f < 2 ^ 48 → to < 2 ^ 48 → hi < 2 ^ 48 → distance f hi < 2 ^ 47
    → distance f to + count ≤ distance f hi + 1
    → filter (is_from to) (downwards count hi ++ rest) ≡ downwards count hi ++ filter (is_from to) rest
kept-downwards f to zero hi rest p q r b h = refl
kept-downwards f to (suc zero) hi rest p q r b h =
    let near : distance to hi + distance f to ≡ distance f hi = distance_raised f to hi p q r (omega arith) in
    let keep : distance to hi < 2 ^ 47 = omega arith in
    grind arith
kept-downwards f to (suc (suc count)) hi rest p q r b h =
    let d : distance f (down hi) + 1 ≡ distance f hi = distance-down f hi p r (omega arith) in
    let ih = kept-downwards f to (suc count) (down hi) rest p q (down_fits hi) (omega arith) (omega arith) in
    let near : distance to hi + distance f to ≡ distance f hi = distance_raised f to hi p q r (omega arith) in
    let keep : distance to hi < 2 ^ 47 = omega arith in
    grind (arith, ih)

pub dropped-downwards : (f to count hi : ℕ) (rest : List ℕ) → f < 2 ^ 48 → to < 2 ^ 48 → hi < 2 ^ 48 → distance f to < 2 ^ 47 → distance f hi < distance f to
    → count ≤ distance f hi + 1
    → filter (is_from to) (downwards count hi ++ rest) ≡ filter (is_from to) rest
dropped-downwards f to zero hi rest p q r b k h = refl
dropped-downwards f to (suc zero) hi rest p q r b k h =
    let far : 2 ^ 47 ≤ distance to hi = far_below f to hi p q r k b in
    grind arith
dropped-downwards f to (suc (suc count)) hi rest p q r b k h =
    let d : distance f (down hi) + 1 ≡ distance f hi = distance-down f hi p r (omega arith) in
    let ih = dropped-downwards f to (suc count) (down hi) rest p q (down_fits hi) b (omega arith) (omega arith) in
    let far : 2 ^ 47 ≤ distance to hi = far_below f to hi p q r k b in
    grind (arith, ih)
