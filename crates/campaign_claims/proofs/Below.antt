-- Numbers below a bound, each at most once: their bound, their sums and how many they are.
use Rattle.std.proofs.Common.{◌≡◌, ℕ, zero, suc, ◌+◌, ◌*◌, ◌≤◌, ◌<◌, ◌≢◌, ◌==◌, min, true, false, List, [], ◌∷◌, length, All, sum_by, nat_lt, if◌then◌else◌, refl, sym, ap, subst, ◌∙◌, arith}
use Rattle.std.proofs.lemmas.Bool.Decides.{nat_tests}
use Rattle.std.proofs.lemmas.List.Elements.{All-cons, All-nil, All-head, All-tail}
use Rattle.std.proofs.lemmas.List.Sums.{sum_by-cons}
use mathlib.Core.Logic.{dite}
use native.Mathlib.Decide.{ℕ_discrete}
use Rattle.campaign_claims.specs.Numbers.{times, once_below, AreOnceBelow, sum_below}

-- whether y is x, as a number
abbrev pub is : ℕ → ℕ → ℕ
is x y = if y == x then 1 else 0

pub is_itself : (x : ℕ) → is x x ≡ 1
is_itself x = grind (arith, nat_tests)

is_other : (x y : ℕ) → x ≢ y → is x y ≡ 0
is_other x y other = grind (arith, nat_tests)

pub times-cons : (x y : ℕ) (ys : List ℕ) → times x (y ∷ ys) ≡ is x y + times x ys
times-cons x y ys = sum_by-cons (is x) y ys

pub once_is_below : (x m : ℕ) → 1 ≤ once_below x m → x < m
once_is_below x m some = grind (arith, nat_tests)

once_of_below : (x m : ℕ) → x < m → once_below x m ≡ 1
once_of_below x m near = grind (arith, nat_tests)

pub once_below-min : (x n m : ℕ) → once_below x (min n m) ≤ once_below x m
once_below-min x n m = grind (arith, nat_tests)

pub below_limit : (found all limit n : ℕ) → found ≡ all → limit ≡ n → nat_lt found limit ≡ true → all < n
below_limit found all limit n word same test = grind (arith, nat_tests)

pub past_limit : (found all limit n : ℕ) → found ≡ all → limit ≡ n → nat_lt found limit ≡ false → n ≤ all
past_limit found all limit n word same test = grind (arith, nat_tests)

-- a number that is passed below n is one more below the bound; a claim past n passes none
pub passed : (x n all count : ℕ) → all < n → (count + is x all) + once_below x (min n all) ≡ count + once_below x (min n (all + 1))
passed x n all count near = grind (arith, nat_tests)

pub not_passed : (x n all count : ℕ) → n ≤ all → count + once_below x (min n all) ≡ count + once_below x (min n (all + 1))
not_passed x n all count far = grind (arith, nat_tests)

-- numbers that come at most once below m lie below m
pub lie_below : (m : ℕ) (xs : List ℕ) → ((x : ℕ) → times x xs ≤ once_below x m) → All (λ x. x < m) xs
lie_below m [] most = All-nil (λ x. x < m)
lie_below m (y ∷ ys) most =
    All-cons (λ x. x < m) y ys
    (once_is_below y m (omega (arith, most y, times-cons y y ys, is_itself y)))
    (lie_below m ys (λ x. omega (arith, most x, times-cons x y ys)))

-- equal terms give equal sums
same_terms : (f g : ℕ → ℕ) (m : ℕ) → ((x : ℕ) → x < m → f x ≡ g x) → sum_below f m ≡ sum_below g m
same_terms f g zero each = refl
same_terms f g (suc m) each =
    let rest = same_terms f g m (λ x near. each x (omega arith)) in
    let last = each m (omega arith) in
    omega arith

-- one term that is more by c makes the sum more by c
one_more : (f g : ℕ → ℕ) (y c m : ℕ) → y < m → (f y ≡ g y + c) → ((x : ℕ) → x ≢ y → f x ≡ g x) → sum_below f m ≡ sum_below g m + c
one_more f g y c zero near here others = absurd (omega arith)
one_more f g y c (suc m) near here others = dite (ℕ_discrete m y)
    (λ (last : m ≡ y).
    let rest = same_terms f g m (λ x low. others x (λ e. omega arith)) in
    let there : f m ≡ g m + c = subst (λ z. f z ≡ g z + c) (sym last) here in
    omega arith)
    (λ other.
    let rest = one_more f g y c m (omega arith) here others in
    let there = others m other in
    omega arith)

no_terms : (f : ℕ → ℕ) (m : ℕ) → sum_below (λ x. times x [] * f x) m ≡ 0
no_terms f zero = refl
no_terms f (suc m) = let rest = no_terms f m in omega arith

-- a sum over numbers below m is the sum over all numbers below m, each by how often it is there
weighed : (f : ℕ → ℕ) (m : ℕ) (xs : List ℕ) → All (λ x. x < m) xs → sum_by f xs ≡ sum_below (λ x. times x xs * f x) m
weighed f m [] below = sym (no_terms f m)
weighed f m (y ∷ ys) below =
    let rest = weighed f m ys (All-tail (λ x. x < m) y ys below) in
    let more = one_more (λ x. times x (y ∷ ys) * f x) (λ x. times x ys * f x) y (f y) m (All-head (λ x. x < m) y ys below)
    (rw (times-cons y y ys, is_itself y) (omega arith))
    (λ x other. ap (λ k. k * f x) (let none = is_other x y other in omega (arith, times-cons x y ys))) in
    omega (arith, sum_by-cons f y ys)

pub sums_once : (f : ℕ → ℕ) (m : ℕ) (xs : List ℕ) → AreOnceBelow m xs → sum_by f xs ≡ sum_below f m
sums_once f m xs once =
    weighed f m xs (lie_below m xs (λ x. omega (arith, once x)))
    ∙ same_terms (λ x. times x xs * f x) f m (λ x near. rw (once x, once_of_below x m near) (omega arith))

ones : (m : ℕ) → sum_below (λ _. 1) m ≡ m
ones zero = refl
ones (suc m) = let rest = ones m in omega arith

length_of_ones : (xs : List ℕ) → sum_by (λ _. 1) xs ≡ length xs
length_of_ones [] = refl
length_of_ones (y ∷ ys) = let rest = length_of_ones ys in omega (arith, sum_by-cons (λ _. 1) y ys)

pub count_once : (m : ℕ) (xs : List ℕ) → AreOnceBelow m xs → length xs ≡ m
count_once m xs once = sym (length_of_ones xs) ∙ sums_once (λ _. 1) m xs once ∙ ones m

pub in_vain : (limit drawn : ℕ) (xs : List ℕ) → AreOnceBelow (min limit drawn) xs → length xs < drawn → AreOnceBelow limit xs
in_vain limit drawn xs once few =
    let size : length xs ≡ min limit drawn = count_once (min limit drawn) xs once in
    let least : min limit drawn ≡ limit = grind (arith, nat_tests) in
    subst (λ m. AreOnceBelow m xs) least once
