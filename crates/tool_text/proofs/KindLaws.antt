-- Each kind of words keeps what a kind keeps.
use Rattle.std.proofs.Common.{◌≡◌, refl, sym, ap, ◌∙◌, subst, ℕ, ◌^◌, ◌≤◌, ◌<◌, List, [], ◌∷◌, length, Bool, true, false, ◌==◌, if◌then◌else◌, Option, Some, None, is_some, Ok, arith}
use Rattle.std.specs.Prelude.{codes}
use Rattle.std.specs.Str.{bytes_eq}
use Rattle.std.specs.Cmp.Lexicographic.{bytes_decides}
use Rattle.std.proofs.lemmas.Bool.Decides.{nat_tests}
use Rattle.tool_text.specs.Numbers.{number_below}
use Rattle.tool_text.specs.declared.words.faults.LineWhy.{LineWhy}
use Rattle.tool_text.specs.declared.words.faults.LineWhy.TheVariants as why
use Rattle.tool_text.specs.Digits.{digits_flaw, bytes_of_digits, AreDigitsOf, AreSomeDigits, AreDigitsOrDash}
use Rattle.tool_text.specs.Kinds.{IsExactKind, flaw_after, flaw_in, found_or, flaw_unless, found_kind, IsDecimal, number_kind, named_in, name_kind, AreNames, digits_or_bad, bad_hex, hex_kind, dash_kind, is_whole_word}
use Rattle.tool_text.proofs.Bytes.{if-false, false-unless, bytes-word, decimal-word}
use Rattle.tool_text.proofs.Numerals.{number-spelled, number-read}
use Rattle.tool_text.proofs.DigitLaws.{flawless_pairs, pairs-flawless, pairs-spell, spelled-pairs, pairs-word}

-- What is found in a word

found-flaw : {A : Type 0} (cause : LineWhy) (found : Option A) → flaw_in (found_or cause found) ≡ flaw_unless (is_some found) (flaw_after 0 cause)
found-flaw cause None = refl
found-flaw cause (Some x) = refl

found-ok : {A : Type 0} (cause : LineWhy) (found : Option A) (x : A) → found_or cause found ≡ Ok x → found ≡ Some x
found-ok cause None x is = cc is
found-ok cause (Some y) x is = let equal : y ≡ x = cc is in ap Some equal

pub found-is : {A : Type 0} (cause : LineWhy) (find : List ℕ → Option A) (Spells : A → List ℕ → Type 0)
    → ((text : List ℕ) (x : A) → find text ≡ Some x → Spells x text) → ((text : List ℕ) (x : A) → Spells x text → find text ≡ Some x)
    → ((text : List ℕ) (x : A) → Spells x text → is_whole_word text ≡ true) → IsExactKind (found_kind cause find Spells)
found-is cause find Spells means back words = record {
  flaws = λ text. found-flaw cause (find text);
  spelled = λ text x some read. means text x (found-ok cause (find text) x read);
  read_back = λ text x spells. ap (found_or cause) (back text x spells);
  are_words = words;
}

-- Numbers

pub number-is : (limit : ℕ) → limit ≤ 2 ^ 48 → IsExactKind (number_kind limit)
number-is limit top =
    found-is why.BadNumber (number_below limit) (IsDecimal limit)
    (λ text n read. number-spelled limit top text n read)
    (λ text n is. ap (number_below limit) is.0 ∙ number-read limit top n is.1)
    (λ text n is. let small : n < 2 ^ 64 = (let below = is.1 in omega arith) in ap is_whole_word is.0 ∙ decimal-word n small)

-- Names

named-by : {A : Type 0} (name : A → List ℕ) (text : List ℕ) (x y : A) (rest : Option A) (test : Bool) → (test ≡ true → text ≡ name x)
    → (if test then Some x else rest) ≡ Some y → (rest ≡ Some y → text ≡ name y) → text ≡ name y
named-by name text x y rest true means is others = let equal : x ≡ y = cc is in means refl ∙ ap name equal
named-by name text x y rest false means is others = others is

named-spelled : {A : Type 0} (name : A → List ℕ) (all : List A) (text : List ℕ) (y : A) → named_in name all text ≡ Some y → text ≡ name y
named-spelled name [] text y is = cc is
named-spelled name (x ∷ xs) text y is =
    named-by name text x y (named_in name xs text) (bytes_eq text (name x)) (λ equal. (bytes_decides text (name x)).0 equal) is (named-spelled name xs text y)

pub names-is : {A : Type 0} (name : A → List ℕ) (all : List A) → AreNames name all → IsExactKind (name_kind name all)
names-is name all are =
    found-is why.UnknownWord (named_in name all) (λ x text. text ≡ name x)
    (named-spelled name all)
    (λ text x is. ap (named_in name all) is ∙ are.found x)
    (λ text x is. ap is_whole_word is ∙ are.words x)

-- Digits

bad-flaw : (text : List ℕ) (place : Option ℕ) → flaw_in (digits_or_bad text place) ≡ bad_hex place
bad-flaw text None = refl
bad-flaw text (Some place) = refl

-- what the digits are read as
record AreRead (text bytes : List ℕ) : Type 0 where
  pub flawless : digits_flaw text ≡ None
  pub bytes_are : bytes_of_digits text ≡ bytes

read-by : (text bytes : List ℕ) (place : Option ℕ) → digits_flaw text ≡ place → digits_or_bad text place ≡ Ok bytes → AreRead text bytes
read-by text bytes None is read = record { flawless = is; bytes_are = cc read }
read-by text bytes (Some place) is read = cc read

some-by : (n : ℕ) → (n == 0) ≡ false → 0 < n
some-by n is = grind (arith, nat_tests)

digits-spelled : (text bytes : List ℕ) → (length text == 0) ≡ false → digits_or_bad text (digits_flaw text) ≡ Ok bytes → AreSomeDigits text bytes
digits-spelled text bytes some read =
    let are = read-by text bytes (digits_flaw text) refl read in
    let pairs = flawless_pairs text are.flawless in
    let spells = subst (λ (bs : List ℕ). AreDigitsOf text bs) are.bytes_are (pairs-spell text pairs.digits pairs.even) in
    let size = (spelled-pairs text bytes spells).size in
    let there = some-by (length text) some in
    (omega arith, spells)

digits-back : (text bytes : List ℕ) → AreDigitsOf text bytes → digits_or_bad text (digits_flaw text) ≡ Ok bytes
digits-back text bytes spells =
    let are = spelled-pairs text bytes spells in
    ap (digits_or_bad text) (pairs-flawless text are.pairs) ∙ ap Ok are.bytes_are

digits-words : (text bytes : List ℕ) → 1 ≤ length bytes → AreDigitsOf text bytes → is_whole_word text ≡ true
digits-words text bytes some spells =
    let are = spelled-pairs text bytes spells in
    let size = are.size in
    bytes-word text (omega arith) (pairs-word text are.pairs.digits)

pub hex-is : IsExactKind hex_kind
hex-is = record {
  flaws = λ text. bad-flaw text (digits_flaw text);
  spelled = digits-spelled;
  read_back = λ text bytes spells. digits-back text bytes spells.1;
  are_words = λ text bytes spells. digits-words text bytes spells.0 spells.1;
}

dash-flaw : (text : List ℕ) (dash : Bool)
    → flaw_in {A = List ℕ} (if dash then Ok [] else digits_or_bad text (digits_flaw text)) ≡ (if dash then None else bad_hex (digits_flaw text))
dash-flaw text true = refl
dash-flaw text false = bad-flaw text (digits_flaw text)

some-or-dash : (text bytes : List ℕ) → AreSomeDigits text bytes → AreDigitsOrDash text bytes
some-or-dash text [] are = absurd (let some = are.0 in omega arith)
some-or-dash text (byte ∷ bytes) are = are.1

dash-by : (text bytes : List ℕ) (dash : Bool) → (dash ≡ true → text ≡ codes "-") → (length text == 0) ≡ false
    → (if dash then Ok [] else digits_or_bad text (digits_flaw text)) ≡ Ok bytes → AreDigitsOrDash text bytes
dash-by text bytes true means some read = let none : [] ≡ bytes = cc read in subst (λ (bs : List ℕ). AreDigitsOrDash text bs) none (means refl)
dash-by text bytes false means some read = some-or-dash text bytes (digits-spelled text bytes some read)

no-dash : (text bytes : List ℕ) → AreDigitsOf text bytes → bytes_eq text (codes "-") ≡ false
no-dash text bytes spells =
    let size = (spelled-pairs text bytes spells).size in
    false-unless (bytes_eq text (codes "-")) (λ is. let short : length text ≡ 1 = ap length ((bytes_decides text (codes "-")).0 is) in omega arith)

dash-back : (text bytes : List ℕ) → AreDigitsOrDash text bytes → (if bytes_eq text (codes "-") then Ok [] else digits_or_bad text (digits_flaw text)) ≡ Ok bytes
dash-back text [] dash = subst (λ (t : List ℕ). (if bytes_eq t (codes "-") then Ok [] else digits_or_bad t (digits_flaw t)) ≡ Ok []) (sym dash) refl
dash-back text (byte ∷ bytes) spells =
    if-false (bytes_eq text (codes "-")) (Ok []) (digits_or_bad text (digits_flaw text)) (no-dash text (byte ∷ bytes) spells)
    ∙ digits-back text (byte ∷ bytes) spells

dash-words : (text bytes : List ℕ) → AreDigitsOrDash text bytes → is_whole_word text ≡ true
dash-words text [] dash = ap is_whole_word dash
dash-words text (byte ∷ bytes) spells = digits-words text (byte ∷ bytes) (omega arith) spells

pub dash-is : IsExactKind dash_kind
dash-is = record {
  flaws = λ text. dash-flaw text (bytes_eq text (codes "-"));
  spelled = λ text bytes some read. dash-by text bytes (bytes_eq text (codes "-")) (λ is. (bytes_decides text (codes "-")).0 is) some read;
  read_back = dash-back;
  are_words = dash-words;
}
