-- Bytes as digits in hexadecimal, two for each byte, in either case (own).
use Rattle.std.specs.Prelude.{◌≡◌, ℕ, ◌+◌, ◌*◌, ◌/◌, ◌%◌, ◌≤◌, ◌==◌, not, true, if◌then◌else◌, List, [], ◌∷◌, length, codes, Option, Some, None}
use Rattle.std.specs.List.{list_all, position_from}
use Rattle.hex.specs.Hex.{hex_digit_value, is_hex_digit}

-- the place of the first byte that is no digit
abbrev pub first_no_digit : List ℕ → Option ℕ
first_no_digit text = position_from (λ byte. not (is_hex_digit byte)) 0 text

-- the place that was found, or else the end of a text whose number of digits is odd
abbrev pub place_or_odd : List ℕ → Option ℕ → Option ℕ
place_or_odd text (Some place) = Some place
place_or_odd text None = if length text % 2 == 1 then Some (length text) else None

-- the place of the first byte that is no digit, or the place after an odd number of digits
abbrev pub digits_flaw : List ℕ → Option ℕ
digits_flaw text = place_or_odd text (first_no_digit text)

-- the value of a digit: `0` to `9` are 48 to 57, `A` to `F` 65 to 70, and `a` to `f` 97 to 102
abbrev pub digit_value : ℕ → ℕ
digit_value digit = digit % 16 + 9 * (digit / 64)

-- the bytes of digits without a flaw, the high digit of each first
abbrev pub bytes_of_digits : List ℕ → List ℕ
bytes_of_digits [] = []
bytes_of_digits (digit ∷ []) = []
bytes_of_digits (high ∷ (low ∷ digits)) = (16 * digit_value high + digit_value low) ∷ bytes_of_digits digits

-- digits, two for each byte
pub record ArePairs (text : List ℕ) : Type 0 where
  pub digits : list_all is_hex_digit text ≡ true
  pub even : length text % 2 ≡ 0

-- two digits for each byte, of either case, the high one first
abbrev pub AreDigitsOf : List ℕ → List ℕ → Type 0
AreDigitsOf [] [] = Unit {0}
AreDigitsOf [] (byte ∷ bytes) = ⊥
AreDigitsOf (digit ∷ []) bytes = ⊥
AreDigitsOf (high ∷ (low ∷ digits)) [] = ⊥
AreDigitsOf (high ∷ (low ∷ digits)) (byte ∷ bytes) =
    (hex_digit_value high ≡ Some (byte / 16)) × (hex_digit_value low ≡ Some (byte % 16)) × AreDigitsOf digits bytes

-- the digits of one byte or more
abbrev pub AreSomeDigits : List ℕ → List ℕ → Type 0
AreSomeDigits text bytes = (1 ≤ length bytes) × AreDigitsOf text bytes

-- a dash for no bytes, and digits for some
abbrev pub AreDigitsOrDash : List ℕ → List ℕ → Type 0
AreDigitsOrDash text [] = text ≡ codes "-"
AreDigitsOrDash text (byte ∷ bytes) = AreDigitsOf text (byte ∷ bytes)
