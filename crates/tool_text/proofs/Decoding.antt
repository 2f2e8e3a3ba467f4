-- Digits are decoded pair by pair.
use Rattle.std.proofs.Common.{◌≡◌, refl, sym, ap, ◌∙◌, ℕ, zero, suc, ◌+◌, ◌*◌, ◌/◌, ◌%◌, ◌^◌, ◌<◌, ◌≤◌, List, [], ◌∷◌, ◌++◌, length, take, get_or, true, arith}
use Rattle.std.specs.Prelude.{bit_and, slice_index, slice_set}
use Rattle.std.specs.Simd.{first_chunks}
use Rattle.std.proofs.lemmas.Nat.{and_block, and_mask}
use Rattle.std.proofs.lemmas.Grind.{common_steps}
use Rattle.std.proofs.lemmas.List.{take_more, take_more_set}
use Rattle.std.specs.List.{list_all}
use Rattle.hex.specs.Hex.{is_hex_digit}
use Rattle.tool_text.specs.Digits.{digit_value, bytes_of_digits, ArePairs}
use Rattle.tool_text.proofs.Bytes.{both-true}
use Rattle.tool_text.proofs.DigitLaws.{value-small}

-- each pair is a byte
bytes-length-by : (text : List ℕ) → length text % 2 ≡ 0 → length text ≡ 2 * length (bytes_of_digits text)
bytes-length-by [] even = refl
bytes-length-by (one ∷ []) even = absurd (omega arith)
bytes-length-by (high ∷ (low ∷ digits)) even = let rest = bytes-length-by digits (omega arith) in omega arith

pub bytes_length : (text : List ℕ) → ArePairs text → length text ≡ 2 * length (bytes_of_digits text)
bytes_length text are = bytes-length-by text are.even

digit-at : (text : List ℕ) (place : ℕ) → list_all is_hex_digit text ≡ true → place < length text → digit_value (get_or text place 0) < 16
digit-at [] place all within = absurd (omega arith)
digit-at (digit ∷ digits) zero all within = value-small digit (both-true (is_hex_digit digit) (list_all is_hex_digit digits) all).0
digit-at (digit ∷ digits) (suc place) all within = digit-at digits place (both-true (is_hex_digit digit) (list_all is_hex_digit digits) all).1 (omega arith)

pub digit_small : (text : List ℕ) (place : ℕ) → ArePairs text → place < length text → digit_value (get_or text place 0) < 16
digit_small text place are within = digit-at text place are.digits within

two-more : (high low : ℕ) (digits : List ℕ) (place : ℕ) → get_or (high ∷ (low ∷ digits)) (2 * suc place) 0 ≡ get_or digits (2 * place) 0
two-more high low digits place = let same : 2 * suc place ≡ suc (suc (2 * place)) = omega arith in ap (λ (n : ℕ). get_or (high ∷ (low ∷ digits)) n 0) same

three-more : (high low : ℕ) (digits : List ℕ) (place : ℕ) → get_or (high ∷ (low ∷ digits)) (2 * suc place + 1) 0 ≡ get_or digits (2 * place + 1) 0
three-more high low digits place = let same : 2 * suc place + 1 ≡ suc (suc (2 * place + 1)) = omega arith in
    ap (λ (n : ℕ). get_or (high ∷ (low ∷ digits)) n 0) same

-- a byte is that of the two digits at its place
pub byte_at : (text : List ℕ) (place : ℕ) → 2 * place + 1 < length text
    → get_or (bytes_of_digits text) place 0 ≡ 16 * digit_value (get_or text (2 * place) 0) + digit_value (get_or text (2 * place + 1) 0)
byte_at [] place within = absurd (omega arith)
byte_at (one ∷ []) place within = absurd (omega arith)
byte_at (high ∷ (low ∷ digits)) zero within = refl
byte_at (high ∷ (low ∷ digits)) (suc place) within =
    byte_at digits place (omega arith)
    ∙ ap (λ (n : ℕ). 16 * digit_value n + digit_value (get_or digits (2 * place + 1) 0)) (sym (two-more high low digits place))
    ∙ ap (λ (n : ℕ). 16 * digit_value (get_or (high ∷ (low ∷ digits)) (2 * suc place) 0) + digit_value n) (sym (three-more high low digits place))

-- a pair at its place
pair-at : (count place : ℕ) (text : List ℕ) → 2 * count ≤ length text → place < count
    → get_or (first_chunks 2 count text) place [] ≡ get_or text (2 * place) 0 ∷ (get_or text (2 * place + 1) 0 ∷ [])
pair-at zero place text sized within = absurd (omega arith)
pair-at (suc count) place [] sized within = absurd (omega arith)
pair-at (suc count) place (one ∷ []) sized within = absurd (omega arith)
pair-at (suc count) zero (high ∷ (low ∷ digits)) sized within = refl
pair-at (suc count) (suc place) (high ∷ (low ∷ digits)) sized within =
    pair-at count place digits (omega arith) (omega arith)
    ∙ ap (λ (n : ℕ). n ∷ (get_or digits (2 * place + 1) 0 ∷ [])) (sym (two-more high low digits place))
    ∙ ap (λ (n : ℕ). get_or (high ∷ (low ∷ digits)) (2 * suc place) 0 ∷ (n ∷ [])) (sym (three-more high low digits place))

-- what is known of the pair at a place
pub record IsPair (text : List ℕ) (place : ℕ) (pair : List ℕ) : Type 0 where
  pub high : digit_value (slice_index pair 0) < 16
  pub low : digit_value (slice_index pair 1) < 16
  pub byte : 16 * digit_value (slice_index pair 0) + digit_value (slice_index pair 1) ≡ 16 * digit_value (slice_index text (2 * place)) + digit_value
      (slice_index text (2 * place + 1))

pub is_pair : (text : List ℕ) (pairs : List (List ℕ)) (place : ℕ) → ArePairs text → 2 * place + 1 < length text → pairs ≡ first_chunks 2 (length text / 2) text
    → IsPair text place (get_or pairs place [])
is_pair text pairs place are within front =
    let at = ap (λ (them : List (List ℕ)). get_or them place []) front ∙ pair-at (length text / 2) place text (omega arith) (omega arith) in
    let high = digit_small text (2 * place) are (omega arith) in
    let low = digit_small text (2 * place + 1) are within in
    let first : digit_value (slice_index (get_or pairs place []) 0) ≡ digit_value (get_or text (2 * place) 0) =
    ap (λ (pair : List ℕ). digit_value (slice_index pair 0)) at in
    let second : digit_value (slice_index (get_or pairs place []) 1) ≡ digit_value (get_or text (2 * place + 1) 0) =
    ap (λ (pair : List ℕ). digit_value (slice_index pair 1)) at in
    record { high = omega arith; low = omega arith; byte = omega arith }

-- Two digits as one number, `256 * low + high`: what is done to the number is done to both

nibbles : (high low : ℕ) → high < 256 → bit_and (256 * low + high) 3855 ≡ 256 * (low % 16) + high % 16
nibbles high low small =
    let split : 256 * low + high ≡ low * 2 ^ 8 + high = omega arith in
    let few : 15 < 2 ^ 8 = omega arith in
    ap (λ (n : ℕ). bit_and n 3855) split
    ∙ and_block 8 low 15 high 15 small few
    ∙ ap (λ (n : ℕ). n * 2 ^ 8 + bit_and high 15) (and_mask low 4)
    ∙ ap (λ (n : ℕ). low % 2 ^ 4 * 2 ^ 8 + n) (and_mask high 4)
    ∙ (omega arith)

letters : (high low : ℕ) → high < 128 → low < 128 → bit_and ((256 * low + high) / 64) 257 ≡ 256 * (low / 64) + high / 64
letters high low above below =
    let split : (256 * low + high) / 64 ≡ low / 64 * 2 ^ 8 + (4 * (low % 64) + high / 64) = omega arith in
    let small : 4 * (low % 64) + high / 64 < 2 ^ 8 = omega arith in
    let few : 1 < 2 ^ 8 = omega arith in
    ap (λ (n : ℕ). bit_and n 257) split
    ∙ and_block 8 (low / 64) 1 (4 * (low % 64) + high / 64) 1 small few
    ∙ ap (λ (n : ℕ). n * 2 ^ 8 + bit_and (4 * (low % 64) + high / 64) 1) (and_mask (low / 64) 1)
    ∙ ap (λ (n : ℕ). low / 64 % 2 ^ 1 * 2 ^ 8 + n) (and_mask (4 * (low % 64) + high / 64) 1)
    ∙ (omega arith)

pub side_by_side : (high low : ℕ) → digit_value high < 16 → digit_value low < 16
    → bit_and (256 * low + high) 3855 + 9 * bit_and ((256 * low + high) / 64) 257 ≡ 256 * digit_value low + digit_value high
side_by_side high low above below =
    let tens = nibbles high low (omega arith) in
    let letter = letters high low (omega arith) (omega arith) in
    omega arith

-- one byte more is decoded
pub one_decoded : (text room : List ℕ) (place byte : ℕ) → ArePairs text → length text ≡ 2 * length room → place < length room
    → take place room ≡ take place (bytes_of_digits text)
    → byte ≡ 16 * digit_value (slice_index text (2 * place)) + digit_value (slice_index text (2 * place + 1))
    → take (place + 1) (slice_set room place byte) ≡ take (place + 1) (bytes_of_digits text)
one_decoded text room place byte are sized within done is =
    let size = bytes_length text are in
    take_more_set room place byte within
    ∙ ap (λ (front : List ℕ). front ++ (byte ∷ [])) done
    ∙ ap (λ (b : ℕ). take place (bytes_of_digits text) ++ (b ∷ [])) (is ∙ sym (byte_at text place (omega arith)))
    ∙ sym (take_more (bytes_of_digits text) place 0 (omega arith))

take_whole : (xs : List ℕ) (count : ℕ) → length xs ≤ count → take count xs ≡ xs
take_whole xs count many = grind (arith, common_steps)

-- all bytes are decoded
pub all_decoded : (text room : List ℕ) (place : ℕ) → ArePairs text → length text ≡ 2 * length room → length room ≤ place
    → take place room ≡ take place (bytes_of_digits text) → room ≡ bytes_of_digits text
all_decoded text room place are sized over done =
    let size = bytes_length text are in
    sym (take_whole room place over) ∙ done ∙ take_whole (bytes_of_digits text) place (omega arith)
