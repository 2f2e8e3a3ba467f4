-- Lines, whole (own).
use Rattle.std.specs.Prelude.{◌≡◌, ℕ, ◌+◌, ◌≤◌, ◌==◌, ◌&&◌, not, nat_lt, nat_le, Bool, true, false, if◌then◌else◌, List, [], ◌∷◌, length, Option, Some, None, Result, Ok, Err}
use Rattle.std.specs.List.{list_all, position_from}
use Rattle.tool_text.specs.declared.words.faults.LineFault.{LineFault}
use Rattle.tool_text.specs.declared.words.faults.LineWhy.TheVariants as why
use Rattle.tool_text.specs.Refusals.{fault_at}
use Rattle.tool_text.specs.Words.{WordsLeft, words_of, joined}
use Rattle.tool_text.specs.Rows.{◌>>=◌, ◌>>◌, WordRow, first_or}

-- a byte of text
abbrev pub is_text : ℕ → Bool
is_text byte = nat_le 32 byte && nat_le byte 126

-- the place of the first byte that is no text
abbrev pub first_other : List ℕ → Option ℕ
first_other text = position_from (λ byte. not (is_text byte)) 0 text

-- all bytes are text, or else the fault of the first that is none
abbrev pub text_or_other : Option ℕ → Result (Unit {0}) LineFault
text_or_other None = Ok tt
text_or_other (Some place) = Err (fault_at (place + 1) why.NotText)

-- at most 4,096 bytes, all of them text
abbrev pub clean : List ℕ → Result (Unit {0}) LineFault
clean line = if nat_lt 4096 (length line) then Err (fault_at 4097 why.LineTooLong) else text_or_other (first_other line)

-- an empty line, or one that begins with `#`
abbrev pub says_nothing : List ℕ → Bool
says_nothing [] = true
says_nothing (first ∷ rest) = first == 35

-- what the words of a line say
abbrev pub words_read : {A : Type 0} → (WordsLeft → Result A LineFault) → List ℕ → Result (Option A) LineFault
words_read said line = said (words_of line) >>= (λ x. Ok (Some x))

-- what a line of text says
abbrev pub text_read : {A : Type 0} → (WordsLeft → Result A LineFault) → List ℕ → Result (Option A) LineFault
text_read said line = if says_nothing line then Ok None else words_read said line

-- what a line says by its row, or the first of its faults; an empty line and a comment say nothing
abbrev pub line_read : {A : Type 0} → (WordsLeft → Result A LineFault) → List ℕ → Result (Option A) LineFault
line_read said line = clean line >> text_read said line

-- the fault of a byte that is no text
abbrev pub no_text : Option ℕ → Option LineFault
no_text None = None
no_text (Some place) = Some (fault_at (place + 1) why.NotText)

-- the first fault of a line: its length, then a byte that is no text, then the fault of its words
abbrev pub first_fault : {A : Type 0} → WordRow A → List ℕ → Option LineFault
first_fault row line =
    first_or (if nat_lt 4096 (length line) then Some (fault_at 4097 why.LineTooLong) else None)
    (first_or (no_text (first_other line)) (if says_nothing line then None else row.fault (words_of line)))

-- a line that says nothing: it is empty or a comment, of at most 4,096 bytes of text
pub record IsIdle (line : List ℕ) : Type 0 where
  pub says : says_nothing line ≡ true
  pub short : length line ≤ 4096
  pub text : list_all is_text line ≡ true

-- a line is words, separated by one space, that spell this value
pub record IsSpokenLine {A : Type 0} (row : WordRow A) (line : List ℕ) (x : A) : Type 0 where
  pub words : List (List ℕ)
  pub spells : row.Spells x words
  pub parted : line ≡ joined words
  pub says : says_nothing line ≡ false
  pub short : length line ≤ 4096
