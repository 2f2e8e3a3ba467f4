-- The numbers of one side's frames are ordered as their counts.
use Rattle.std.proofs.Common.{◌≡◌, ℕ, ◌^◌, ◌<◌, ◌≤◌, false, arith}
use Rattle.std.specs.Prelude.{IsTrue}
use Rattle.seq_circle.specs.Circle.{is_before}
use Rattle.seq_circle.specs.Counts.{number_of, count_of, IsNumber}

pub count_of-number_of : (iss count : ℕ) → iss < 2 ^ 48 → 1 ≤ count → count ≤ 2 ^ 47 → count_of iss (number_of iss count) ≡ count
count_of-number_of iss count fits some few = omega arith

pub before_counts : (iss number other : ℕ) → IsNumber iss number → IsNumber iss other → IsTrue (is_before number other)
    → count_of iss number < count_of iss other
before_counts iss number other is others earlier = grind arith

pub not_before : (iss number other : ℕ) → IsNumber iss number → IsNumber iss other → is_before number other ≡ false
    → count_of iss other ≤ count_of iss number
not_before iss number other is others later = grind arith
