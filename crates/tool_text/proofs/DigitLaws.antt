-- Digits of either case are the bytes that they spell, in both directions.
use Rattle.std.proofs.Common.{◌≡◌, refl, sym, ap, ◌∙◌, ℕ, ◌+◌, ◌-◌, ◌*◌, ◌/◌, ◌%◌, ◌≤◌, ◌<◌, List, [], ◌∷◌, length, Bool, true, false, ◌&&◌, ◌==◌, not, cond, if◌then◌else◌, nat_le, Option, Some, None, is_some, arith}
use Rattle.std.specs.List.{list_all, position_from}
use Rattle.std.proofs.lemmas.Bool.Decides.{nat_tests}
use Rattle.hex.specs.Hex.{hex_digit_value, is_hex_digit}
use Rattle.tool_text.specs.Kinds.{is_word_byte}
use Rattle.tool_text.specs.Digits.{first_no_digit, place_or_odd, digits_flaw, digit_value, bytes_of_digits, ArePairs, AreDigitsOf}
use Rattle.tool_text.proofs.Bytes.{both-true, and-true, if-false, all-weaker}

-- One digit

-- what is known of a digit with this value
record IsDigit (c value : ℕ) : Type 0 where
  pub formula : digit_value c ≡ value
  pub small : value < 16
  pub word : is_word_byte c ≡ true

between : (low high c : ℕ) → (nat_le low c && nat_le c high) ≡ true → (low ≤ c) × (c ≤ high)
between low high c is = let both = both-true (nat_le low c) (nat_le c high) is in (grind (arith, nat_tests), grind (arith, nat_tests))

word-byte : (c : ℕ) → 48 ≤ c → c ≤ 102 → is_word_byte c ≡ true
word-byte c low high = grind (arith, nat_tests)

upper-digit : (c value : ℕ) → 65 ≤ c → c ≤ 70 → c - 55 ≡ value → IsDigit c value
upper-digit c value low high is = record { formula = omega arith; small = omega arith; word = word-byte c (omega arith) (omega arith) }

lower-digit : (c value : ℕ) → 97 ≤ c → c ≤ 102 → c - 87 ≡ value → IsDigit c value
lower-digit c value low high is = record { formula = omega arith; small = omega arith; word = word-byte c (omega arith) (omega arith) }

figure-digit : (c value : ℕ) → 48 ≤ c → c ≤ 57 → c - 48 ≡ value → IsDigit c value
figure-digit c value low high is = record { formula = omega arith; small = omega arith; word = word-byte c (omega arith) (omega arith) }

digit-by : (c value : ℕ) (upper lower figure : Bool) → (upper ≡ true → (65 ≤ c) × (c ≤ 70)) → (lower ≡ true → (97 ≤ c) × (c ≤ 102))
    → (figure ≡ true → (48 ≤ c) × (c ≤ 57))
    → (if upper then Some (c - 55) else if lower then Some (c - 87) else if figure then Some (c - 48) else None) ≡ Some value → IsDigit c value
digit-by c value true lower figure u l f is = upper-digit c value (u refl).0 (u refl).1 (cc is)
digit-by c value false true figure u l f is = lower-digit c value (l refl).0 (l refl).1 (cc is)
digit-by c value false false true u l f is = figure-digit c value (f refl).0 (f refl).1 (cc is)
digit-by c value false false false u l f is = cc is

digit-is : (c value : ℕ) → hex_digit_value c ≡ Some value → IsDigit c value
digit-is c value is =
    digit-by c value (nat_le 65 c && nat_le c 70) (nat_le 97 c && nat_le c 102) (nat_le 48 c && nat_le c 57) (between 65 70 c) (between 97 102 c)
    (between 48 57 c) is

-- a digit's value
has-value-by : (c : ℕ) (value : Option ℕ) → hex_digit_value c ≡ value → is_some value ≡ true → hex_digit_value c ≡ Some (digit_value c)
has-value-by c None is some = cc some
has-value-by c (Some value) is some = is ∙ ap Some (sym (digit-is c value is).formula)

pub has-value : (c : ℕ) → is_hex_digit c ≡ true → hex_digit_value c ≡ Some (digit_value c)
has-value c some = has-value-by c (hex_digit_value c) refl some

pub value-small : (c : ℕ) → is_hex_digit c ≡ true → digit_value c < 16
value-small c some = (digit-is c (digit_value c) (has-value c some)).small

pub digit-word : (c : ℕ) → is_hex_digit c ≡ true → is_word_byte c ≡ true
digit-word c some = (digit-is c (digit_value c) (has-value c some)).word

digit-test : (c value : ℕ) → hex_digit_value c ≡ Some value → is_hex_digit c ≡ true
digit-test c value is = ap is_some is

-- Flaws

no-other-by : (from byte : ℕ) (rest : List ℕ) (test : Bool) → test ≡ true → position_from (λ b. not (is_hex_digit b)) (from + 1) rest ≡ None
    → cond (not test) (Some from) (position_from (λ b. not (is_hex_digit b)) (from + 1) rest) ≡ None
no-other-by from byte rest true is none = none
no-other-by from byte rest false is none = cc is

no-other : (from : ℕ) (text : List ℕ) → list_all is_hex_digit text ≡ true → position_from (λ byte. not (is_hex_digit byte)) from text ≡ None
no-other from [] all = refl
no-other from (byte ∷ rest) all =
    let both = both-true (is_hex_digit byte) (list_all is_hex_digit rest) all in
    no-other-by from byte rest (is_hex_digit byte) both.0 (no-other (from + 1) rest both.1)

other-by : (from byte : ℕ) (rest : List ℕ) (test : Bool) → cond (not test) (Some from) (position_from (λ b. not (is_hex_digit b)) (from + 1) rest) ≡ None
    → (position_from (λ b. not (is_hex_digit b)) (from + 1) rest ≡ None → list_all is_hex_digit rest ≡ true) → (test && list_all is_hex_digit rest) ≡ true
other-by from byte rest true none others = others none
other-by from byte rest false none others = cc none

all-digits : (from : ℕ) (text : List ℕ) → position_from (λ byte. not (is_hex_digit byte)) from text ≡ None → list_all is_hex_digit text ≡ true
all-digits from [] none = refl
all-digits from (byte ∷ rest) none = other-by from byte rest (is_hex_digit byte) none (all-digits (from + 1) rest)

odd-by : (text : List ℕ) (odd : Bool) → (odd ≡ false → length text % 2 ≡ 0) → (if odd then Some (length text) else None) ≡ None → length text % 2 ≡ 0
odd-by text true means none = cc none
odd-by text false means none = means refl

even-of : (n : ℕ) → (n % 2 == 1) ≡ false → n % 2 ≡ 0
even-of n is = grind (arith, nat_tests)

flawless-by : (text : List ℕ) (other : Option ℕ) → first_no_digit text ≡ other → place_or_odd text other ≡ None → ArePairs text
flawless-by text None is none = record { digits = all-digits 0 text is; even = odd-by text (length text % 2 == 1) (even-of (length text)) none }
flawless-by text (Some place) is none = cc none

-- digits without a flaw are pairs
pub flawless_pairs : (text : List ℕ) → digits_flaw text ≡ None → ArePairs text
flawless_pairs text none = flawless-by text (first_no_digit text) refl none

pub pairs-flawless : (text : List ℕ) → ArePairs text → digits_flaw text ≡ None
pairs-flawless text are =
    let even = are.even in
    let is : (length text % 2 == 1) ≡ false = grind (arith, nat_tests) in
    ap (place_or_odd text) (no-other 0 text are.digits) ∙ if-false (length text % 2 == 1) (Some (length text)) None is

-- Bytes

-- how digits and bytes stand to one another
pub record AreSpelled (text bytes : List ℕ) : Type 0 where
  pub pairs : ArePairs text
  pub size : length text ≡ 2 * length bytes
  pub bytes_are : bytes_of_digits text ≡ bytes

-- pairs of digits spell their bytes
pub pairs-spell : (text : List ℕ) → list_all is_hex_digit text ≡ true → length text % 2 ≡ 0 → AreDigitsOf text (bytes_of_digits text)
pairs-spell [] all even = tt
pairs-spell (one ∷ []) all even = absurd (omega arith)
pairs-spell (high ∷ (low ∷ rest)) all even =
    let first = both-true (is_hex_digit high) (is_hex_digit low && list_all is_hex_digit rest) all in
    let second = both-true (is_hex_digit low) (list_all is_hex_digit rest) first.1 in
    let high_small = value-small high first.0 in
    let low_small = value-small low second.0 in
    let upper : digit_value high ≡ (16 * digit_value high + digit_value low) / 16 = omega arith in
    let lower : digit_value low ≡ (16 * digit_value high + digit_value low) % 16 = omega arith in
    (has-value high first.0 ∙ ap Some upper, has-value low second.0 ∙ ap Some lower, pairs-spell rest second.1 (omega arith))

pub spelled-pairs : (text bytes : List ℕ) → AreDigitsOf text bytes → AreSpelled text bytes
spelled-pairs [] [] are = record { pairs = record { digits = refl; even = refl }; size = refl; bytes_are = refl }
spelled-pairs [] (byte ∷ bytes) are = absurd are
spelled-pairs (digit ∷ []) bytes are = absurd are
spelled-pairs (high ∷ (low ∷ digits)) [] are = absurd are
spelled-pairs (high ∷ (low ∷ digits)) (byte ∷ bytes) are =
    let rest = spelled-pairs digits bytes are.2 in
    let rest_size = rest.size in
    let upper = (digit-is high (byte / 16) are.0).formula in
    let lower = (digit-is low (byte % 16) are.1).formula in
    let whole : 16 * digit_value high + digit_value low ≡ byte = omega arith in
    record {
      pairs = record {
        digits =
            and-true (is_hex_digit high) (is_hex_digit low && list_all is_hex_digit digits) (digit-test high (byte / 16) are.0)
            (and-true (is_hex_digit low) (list_all is_hex_digit digits) (digit-test low (byte % 16) are.1) rest.pairs.digits);
        even = omega arith;
      };
      size = omega arith;
      bytes_are = ap (λ (b : ℕ). b ∷ bytes_of_digits digits) whole ∙ ap (λ (bs : List ℕ). byte ∷ bs) rest.bytes_are;
    }

pub pairs-word : (text : List ℕ) → list_all is_hex_digit text ≡ true → list_all is_word_byte text ≡ true
pairs-word text all = all-weaker is_hex_digit is_word_byte digit-word text all
