-- Kinds of words (own).
use Rattle.std.specs.Prelude.{◌≡◌, ℕ, ◌+◌, ◌<◌, ◌==◌, ◌&&◌, nat_le, Bool, true, false, if◌then◌else◌, List, [], ◌∷◌, length, codes, decimal, Option, Some, None, is_some, Result, Ok, Err}
use Rattle.std.specs.List.{list_all}
use Rattle.std.specs.Str.{bytes_eq}
use Rattle.tool_text.specs.Numbers.{number_below}
use Rattle.tool_text.specs.declared.words.faults.LineFault.{LineFault}
use Rattle.tool_text.specs.declared.words.faults.LineWhy.{LineWhy}
use Rattle.tool_text.specs.declared.words.faults.LineWhy.TheVariants as why
use Rattle.tool_text.specs.declared.words.kinds.Flaw.{Flaw}
use Rattle.tool_text.specs.Refusals.{fault_at}
use Rattle.tool_text.specs.Words.{WordAt}
use Rattle.tool_text.specs.Digits.{digits_flaw, bytes_of_digits, AreSomeDigits, AreDigitsOrDash}

-- a kind of words: what a word is read as, what is wrong with one that is not of the kind, and which words spell a
-- value
pub record KindOfWords (A : Type 0) : Type 1 where
  pub reads : List ℕ → Result A Flaw
  pub flaw : List ℕ → Option Flaw
  pub Spells : A → List ℕ → Type 0

-- Faults of words

-- a flaw of this cause, after this many bytes
abbrev pub flaw_after : ℕ → LineWhy → Flaw
flaw_after place cause = record { place = place; why = cause }

-- the fault of a word at this column that has a flaw
abbrev pub flaw_at : ℕ → Flaw → LineFault
flaw_at column flaw = fault_at (flaw.place + column) flaw.why

-- what the word at this column was read as, or its fault
abbrev pub read_at : {A : Type 0} → ℕ → Result A Flaw → Result A LineFault
read_at column (Ok x) = Ok x
read_at column (Err flaw) = Err (flaw_at column flaw)

-- what a word is read as; one that is empty or absent is missing
abbrev pub word_read : {A : Type 0} → (List ℕ → Result A Flaw) → WordAt → Result A LineFault
word_read reads word =
    if length word.text == 0 then Err (fault_at word.column why.Missing) else read_at word.column (reads word.text)

-- the fault of the word at this column, if it has a flaw
abbrev pub flaw_fault : ℕ → Option Flaw → Option LineFault
flaw_fault column None = None
flaw_fault column (Some flaw) = Some (flaw_at column flaw)

-- the fault of a word, if it has one
abbrev pub judged_word : (List ℕ → Option Flaw) → WordAt → Option LineFault
judged_word flaw word =
    if length word.text == 0 then Some (fault_at word.column why.Missing) else flaw_fault word.column (flaw word.text)

-- What holds of a kind

-- a byte of a word
abbrev pub is_word_byte : ℕ → Bool
is_word_byte byte = nat_le 33 byte && nat_le byte 126

-- a byte or more, each of 33 to 126
abbrev pub is_whole_word : List ℕ → Bool
is_whole_word [] = false
is_whole_word (byte ∷ bytes) = list_all is_word_byte (byte ∷ bytes)

-- the flaw, if it is one
abbrev pub flaw_in : {A : Type 0} → Result A Flaw → Option Flaw
flaw_in (Ok x) = None
flaw_in (Err flaw) = Some flaw

-- the three parts of a kind agree: a word that is there is read exactly if it has no flaw, and as the value that it spells
pub record IsExactKind {A : Type 0} (kind : KindOfWords A) : Type 0 where
  pub flaws : (text : List ℕ) → flaw_in (kind.reads text) ≡ kind.flaw text
  pub spelled : (text : List ℕ) (x : A) → (length text == 0) ≡ false → kind.reads text ≡ Ok x → kind.Spells x text
  pub read_back : (text : List ℕ) (x : A) → kind.Spells x text → kind.reads text ≡ Ok x
  pub are_words : (text : List ℕ) (x : A) → kind.Spells x text → is_whole_word text ≡ true

-- Kinds

-- what was found, or a flaw of this cause at the word
abbrev pub found_or : {A : Type 0} → LineWhy → Option A → Result A Flaw
found_or cause None = Err (flaw_after 0 cause)
found_or cause (Some x) = Ok x

-- no flaw if that is so
abbrev pub flaw_unless : Bool → Flaw → Option Flaw
flaw_unless fits flaw = if fits then None else Some flaw

-- the words in which this function finds something; any other has this flaw
abbrev pub found_kind : {A : Type 0} → LineWhy → (List ℕ → Option A) → (A → List ℕ → Type 0) → KindOfWords A
found_kind cause find Spells = record {
  reads = λ text. found_or cause (find text);
  flaw = λ text. flaw_unless (is_some (find text)) (flaw_after 0 cause);
  Spells = Spells;
}

-- a text is this number in decimal, which is below the limit
abbrev pub IsDecimal : ℕ → ℕ → List ℕ → Type 0
IsDecimal limit number text = (text ≡ decimal number) × (number < limit)

-- decimal numbers below this one
abbrev pub number_kind : ℕ → KindOfWords ℕ
number_kind limit = found_kind why.BadNumber (number_below limit) (IsDecimal limit)

-- the first of these that has this name
abbrev pub named_in : {A : Type 0} → (A → List ℕ) → List A → List ℕ → Option A
named_in name [] word = None
named_in name (x ∷ xs) word = if bytes_eq word (name x) then Some x else named_in name xs word

-- the names of these
abbrev pub name_kind : {A : Type 0} → (A → List ℕ) → List A → KindOfWords A
name_kind name all = found_kind why.UnknownWord (named_in name all) (λ x text. text ≡ name x)

-- each of these is found by its name, which is a word
pub record AreNames {A : Type 0} (name : A → List ℕ) (all : List A) : Type 0 where
  pub found : (x : A) → named_in name all (name x) ≡ Some x
  pub words : (x : A) → is_whole_word (name x) ≡ true

-- the bytes of digits, or their flaw
abbrev pub digits_or_bad : List ℕ → Option ℕ → Result (List ℕ) Flaw
digits_or_bad text None = Ok (bytes_of_digits text)
digits_or_bad text (Some place) = Err (flaw_after place why.BadHex)

-- digits that are bad at this place
abbrev pub bad_hex : Option ℕ → Option Flaw
bad_hex None = None
bad_hex (Some place) = Some (flaw_after place why.BadHex)

-- digits of one byte or more, in either case
abbrev pub hex_kind : KindOfWords (List ℕ)
hex_kind = record {
  reads = λ text. digits_or_bad text (digits_flaw text);
  flaw = λ text. bad_hex (digits_flaw text);
  Spells = λ bytes text. AreSomeDigits text bytes;
}

-- the same, or a dash for no bytes
abbrev pub dash_kind : KindOfWords (List ℕ)
dash_kind = record {
  reads = λ text. if bytes_eq text (codes "-") then Ok [] else digits_or_bad text (digits_flaw text);
  flaw = λ text. if bytes_eq text (codes "-") then None else bad_hex (digits_flaw text);
  Spells = λ bytes text. AreDigitsOrDash text bytes;
}
