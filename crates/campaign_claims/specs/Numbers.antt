-- Numbers that are in a list once each, and sums over them (own).
use Rattle.std.specs.Prelude.{◌≡◌, ℕ, zero, suc, ◌+◌, ◌==◌, List, count_by, nat_lt, if◌then◌else◌}

-- how often x is in the list
abbrev pub times : ℕ → List ℕ → ℕ
times x xs = count_by (λ y. y == x) xs

-- once if x is below m, otherwise not at all
abbrev pub once_below : ℕ → ℕ → ℕ
once_below x m = if nat_lt x m then 1 else 0

-- the list has the numbers below m, each once, and no others
abbrev pub AreOnceBelow : ℕ → List ℕ → Type 0
AreOnceBelow m xs = (x : ℕ) → times x xs ≡ once_below x m

-- f of each number below m, added up
abbrev pub sum_below : (ℕ → ℕ) → ℕ → ℕ
sum_below f zero = 0
sum_below f (suc m) = sum_below f m + f m
