-- Rows of words (own).
use Rattle.std.specs.Prelude.{◌≡◌, ℕ, Bool, true, false, if◌then◌else◌, List, [], ◌∷◌, Option, Some, None, Result, Ok, Err}
use Rattle.std.specs.List.{list_all}
use Rattle.std.specs.Str.{bytes_eq}
use Rattle.tool_text.specs.declared.words.faults.LineFault.{LineFault}
use Rattle.tool_text.specs.declared.words.faults.LineWhy.{LineWhy}
use Rattle.tool_text.specs.declared.words.faults.LineWhy.TheVariants as why
use Rattle.tool_text.specs.declared.words.kinds.Flaw.{Flaw}
use Rattle.tool_text.specs.Refusals.{fault_at}
use Rattle.tool_text.specs.Words.{WordAt, WordsLeft, first_word, later, word_at, texts_of}
use Rattle.tool_text.specs.Kinds.{KindOfWords, word_read, judged_word, flaw_after, is_whole_word}

infixr 30 ◌▷◌
-- the first fault of what follows, or what it gives
infixl 10 ◌>>=◌
abbrev pub ◌>>=◌ : {A B : Type 0} → Result A LineFault → (A → Result B LineFault) → Result B LineFault
Ok x >>= f = f x
Err fault >>= f = Err fault

-- a check's fault, or what follows if the check held
infixl 10 ◌>>◌
abbrev pub ◌>>◌ : {B : Type 0} → Result (Unit {0}) LineFault → Result B LineFault → Result B LineFault
Ok _ >> next = next
Err fault >> next = Err fault

-- a row of words: what the words that are left say, their first fault, and which texts of words spell a value
pub record WordRow (A : Type 0) : Type 1 where
  pub said : WordsLeft → Result A LineFault
  pub fault : WordsLeft → Option LineFault
  pub Spells : A → List (List ℕ) → Type 0

-- the first of two faults, if there is one
abbrev pub first_or : Option LineFault → Option LineFault → Option LineFault
first_or None next = next
first_or (Some fault) next = Some fault

-- What holds of a row

-- the fault of a result, if it is one
abbrev pub fault_in : {A : Type 0} → Result A LineFault → Option LineFault
fault_in (Ok x) = None
fault_in (Err fault) = Some fault

-- the three parts of a row agree: words are refused for its fault, and otherwise they spell the value that it reads
pub record IsExactRow {A : Type 0} (row : WordRow A) : Type 0 where
  pub first : (left : WordsLeft) → fault_in (row.said left) ≡ row.fault left
  pub spelled : (left : WordsLeft) (x : A) → row.said left ≡ Ok x → row.Spells x (texts_of left.words)
  pub read_back : (left : WordsLeft) (x : A) → row.Spells x (texts_of left.words) → row.said left ≡ Ok x
  pub are_words : (words : List (List ℕ)) (x : A) → row.Spells x words → list_all is_whole_word words ≡ true

-- Words one after another

-- no word is left
abbrev pub none_left : List WordAt → Result (Unit {0}) LineFault
none_left [] = Ok tt
none_left (word ∷ words) = Err (fault_at word.column why.Trailing)

-- no word may follow those of a row
abbrev pub ended : WordsLeft → Result (Unit {0}) LineFault
ended left = none_left left.words

-- a word where the line should be over
abbrev pub nothing_more : List WordAt → Option LineFault
nothing_more [] = None
nothing_more (word ∷ words) = Some (fault_at word.column why.Trailing)

-- the row without words
abbrev pub end_row : WordRow (Unit {0})
end_row = record {
  said = ended;
  fault = λ left. nothing_more left.words;
  Spells = λ x words. words ≡ [];
}

-- a word, and what the rest says
abbrev pub then_row : {A B : Type 0} → (List ℕ → Result A Flaw) → (WordsLeft → Result B LineFault) → WordsLeft → Result (A × B) LineFault
then_row reads rest left = do
  x ← word_read reads (first_word left)
  y ← rest (later left)
  Ok (x, y)

-- the first word spells the first of two, and the others the second
abbrev pub AreBoth : {A B : Type 0} → (A → List ℕ → Type 0) → (B → List (List ℕ) → Type 0) → A × B → List (List ℕ) → Type 0
AreBoth Spells Rest both [] = ⊥
AreBoth Spells Rest both (word ∷ words) = Spells both.0 word × Rest both.1 words

-- a word of a kind, and then a row
abbrev pub ◌▷◌ : {A B : Type 0} → KindOfWords A → WordRow B → WordRow (A × B)
kind ▷ row = record {
  said = then_row kind.reads row.said;
  fault = λ left. first_or (judged_word kind.flaw (first_word left)) (row.fault (later left));
  Spells = AreBoth kind.Spells row.Spells;
}

-- Rows made of rows

-- what is made from what was said
abbrev pub made : {A B : Type 0} → (A → B) → Result A LineFault → Result B LineFault
made make (Ok x) = Ok (make x)
made make (Err fault) = Err fault

-- a row, with what is made from what it says
abbrev pub row_as : {A B : Type 0} → (A → B) → WordRow A → WordRow B
row_as {A = A} make row = record {
  said = λ left. made make (row.said left);
  fault = row.fault;
  Spells = λ y words. (x : A) × (make x ≡ y) × row.Spells x words;
}

-- the fault of the row that was chosen, if one was
abbrev pub chosen_fault : {A B : Type 0} → (A → WordRow B) → Result A Flaw → WordsLeft → Option LineFault
chosen_fault rows (Ok which) left = (rows which).fault left
chosen_fault rows (Err flaw) left = None

-- a word that chooses, and the words of the row that it chose
abbrev pub AreChosen : {A B : Type 0} → KindOfWords A → (A → WordRow B) → B → List (List ℕ) → Type 0
AreChosen kind rows y [] = ⊥
AreChosen {A = A} kind rows y (word ∷ words) = (which : A) × kind.Spells which word × (rows which).Spells y words

-- a word of a kind, and the row that it chooses
abbrev pub choice : {A B : Type 0} → KindOfWords A → (A → WordRow B) → WordRow B
choice kind rows = record {
  said = λ left. word_read kind.reads (first_word left) >>= (λ which. (rows which).said (later left));
  fault = λ left.
      first_or (judged_word kind.flaw (first_word left)) (chosen_fault rows (kind.reads (first_word left).text) (later left));
  Spells = AreChosen kind rows;
}

-- the one if the test holds, and the other if it does not
abbrev pub ByTest : Bool → Type 0 → Type 0 → Type 0
ByTest true Holds Fails = Holds
ByTest false Holds Fails = Fails

-- the words after this one if it is the first, and otherwise all of them
abbrev pub AreAfter : {A : Type 0} → List ℕ → (A → List (List ℕ) → Type 0) → (A → List (List ℕ) → Type 0) → A → List (List ℕ) → Type 0
AreAfter name Following Other x [] = Other x []
AreAfter name Following Other x (word ∷ words) = ByTest (bytes_eq word name) (Following x words) (Other x (word ∷ words))

-- a row after this word, or another row if the first word is not this one
abbrev pub after_word : {A : Type 0} → List ℕ → WordRow A → WordRow A → WordRow A
after_word name row other = record {
  said = λ left. if bytes_eq (first_word left).text name then row.said (later left) else other.said left;
  fault = λ left. if bytes_eq (first_word left).text name then row.fault (later left) else other.fault left;
  Spells = AreAfter name row.Spells other.Spells;
}

-- the value if it is allowed, or else the fault of this cause at this column
abbrev pub allowed : {A : Type 0} → ℕ → A → Option LineWhy → Result A LineFault
allowed column x None = Ok x
allowed column x (Some cause) = Err (fault_at column cause)

-- the fault of this cause at this column, if there is a cause
abbrev pub cause_at : ℕ → Option LineWhy → Option LineFault
cause_at column None = None
cause_at column (Some cause) = Some (fault_at column cause)

-- the fault of what was said, if it is not allowed
abbrev pub refused_at : {A : Type 0} → ℕ → (A → Option LineWhy) → Result A LineFault → Option LineFault
refused_at column judge (Ok x) = cause_at column (judge x)
refused_at column judge (Err fault) = None

-- a row that is judged as a whole once all its words are read, with the fault at the word of this place, from 0
abbrev pub judged_row : {A : Type 0} → ℕ → (A → Option LineWhy) → WordRow A → WordRow A
judged_row place judge row = record {
  said = λ left. row.said left >>= (λ x. allowed (word_at place left).column x (judge x));
  fault = λ left. first_or (row.fault left) (refused_at (word_at place left).column judge (row.said left));
  Spells = λ x words. row.Spells x words × (judge x ≡ None);
}

-- whether a word is this one; another is unknown
abbrev pub flag_read : List ℕ → List ℕ → Result (Unit {0}) Flaw
flag_read name word = if bytes_eq word name then Ok tt else Err (flaw_after 0 why.UnknownWord)

-- the flaw of a word that is not this one
abbrev pub flag_flaw : List ℕ → List ℕ → Option Flaw
flag_flaw name word = if bytes_eq word name then None else Some (flaw_after 0 why.UnknownWord)

-- whether this word is left; no other word may be left, nor one after it
abbrev pub flag_said : List ℕ → List WordAt → Result Bool LineFault
flag_said name [] = Ok false
flag_said name (word ∷ words) = word_read (flag_read name) word >>= (λ is. none_left words >>= (λ over. Ok true))

-- the fault of what is left, if that is neither nothing nor this word
abbrev pub flag_fault : List ℕ → List WordAt → Option LineFault
flag_fault name [] = None
flag_fault name (word ∷ words) = first_or (judged_word (flag_flaw name) word) (nothing_more words)

-- the last word of a row, which may be left out
abbrev pub flag_row : List ℕ → WordRow Bool
flag_row name = record {
  said = λ left. flag_said name left.words;
  fault = λ left. flag_fault name left.words;
  Spells = λ flag words. words ≡ (if flag then name ∷ [] else []);
}
