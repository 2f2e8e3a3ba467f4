-- Decimal numbers as words have them (own).
use Rattle.std.specs.Prelude.{ℕ, ◌+◌, ◌-◌, ◌*◌, Bool, ◌==◌, ◌&&◌, nat_lt, nat_le, if◌then◌else◌, List, [], ◌∷◌, Option, Some, None}

-- the digits 0 to 9
abbrev pub is_digit : ℕ → Bool
is_digit byte = nat_le 48 byte && nat_le byte 57

-- Digits after a number that begins with them, as long as it stays below the limit.
abbrev pub digits_after : ℕ → ℕ → List ℕ → Option ℕ
digits_after limit n [] = Some n
digits_after limit n (byte ∷ rest) =
    if is_digit byte && nat_lt (10 * n + (byte - 48)) limit then digits_after limit (10 * n + (byte - 48)) rest else None

-- a decimal number below the limit, without sign or leading zero
abbrev pub number_below : ℕ → List ℕ → Option ℕ
number_below limit [] = None
number_below limit (byte ∷ []) = digits_after limit 0 (byte ∷ [])
number_below limit (byte ∷ (next ∷ rest)) = if byte == 48 then None else digits_after limit 0 (byte ∷ (next ∷ rest))
