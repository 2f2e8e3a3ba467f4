-- The sum of 16-bit words and its ones' complement form (RFC 1071, section 1).
use Rattle.std.specs.Prelude.{◌≡◌, ℕ, ◌+◌, ◌-◌, ◌*◌, ◌%◌, List, [], ◌∷◌, ◌==◌, if◌then◌else◌, ◌↔◌}

-- the bytes as 16-bit words, the high byte first, an odd last byte followed by zero: their sum as a whole number
abbrev pub word_sum : List ℕ → ℕ
word_sum [] = 0
word_sum (high ∷ []) = high * 256
word_sum (high ∷ low ∷ rest) = high * 256 + low + word_sum rest

-- 0 if the sum is 0, otherwise the number from 1 to 65,535 that is congruent to it modulo 65,535
abbrev pub ones_complement : ℕ → ℕ
ones_complement sum = if sum == 0 then 0 else 1 + (sum - 1) % 65535

-- two whole sums with one ones' complement sum
pub record IsSameSum (a b : ℕ) : Type 0 where
  pub residue : a % 65535 ≡ b % 65535
  pub zero : (a ≡ 0) ↔ (b ≡ 0)
