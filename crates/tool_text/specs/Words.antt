-- The words of a line, separated by one space (own).
use Rattle.std.specs.Prelude.{ℕ, zero, suc, ◌+◌, Bool, true, false, ◌==◌, List, [], ◌∷◌, length, ◌<◌}
use Rattle.std.specs.List.{join_with_byte, slice_split}

-- a text's pieces, separated by this byte
abbrev pub parted_by : ℕ → List ℕ → List (List ℕ)
parted_by mark text = slice_split (λ byte. byte == mark) text

-- a word, and the column of its first byte
pub record WordAt : Type 0 where
  pub column : ℕ
  pub text : List ℕ

-- a word of this text, whose first byte has this column
abbrev pub word_at_column : ℕ → List ℕ → WordAt
word_at_column column text = record { column = column; text = text }

-- one of the text's bytes is there
abbrev pub IsPlaceOf : List ℕ → ℕ → Type 0
IsPlaceOf text place = place < length text

-- Words one after another, the first at this column: a word begins after the one before it and a space.
abbrev pub placed : ℕ → List (List ℕ) → List WordAt
placed column [] = []
placed column (text ∷ texts) = word_at_column column text ∷ placed (column + length text + 1) texts

-- words that are still to be read, and the column of a word that is absent
pub record WordsLeft : Type 0 where
  pub words : List WordAt
  pub absent : ℕ

-- these words are still to be read, and an absent one has this column
abbrev pub words_left : List WordAt → ℕ → WordsLeft
words_left words absent = record { words = words; absent = absent }

-- A line's words. Columns count from 1; an absent word would follow the line and a space.
abbrev pub words_of : List ℕ → WordsLeft
words_of line = words_left (placed 1 (parted_by 32 line)) (length line + 2)

-- the first of the words, which has no text if it is absent
abbrev pub first_of : ℕ → List WordAt → WordAt
first_of absent [] = word_at_column absent []
first_of absent (word ∷ words) = word

-- the next word to be read, without text if the line is over
abbrev pub first_word : WordsLeft → WordAt
first_word left = first_of left.absent left.words

-- no word is left
abbrev pub is_over : List WordAt → Bool
is_over [] = true
is_over (word ∷ words) = false

-- the words after the first
abbrev pub words_after : List WordAt → List WordAt
words_after [] = []
words_after (word ∷ words) = words

-- what is left once the first word is read; an absent word keeps its column
abbrev pub later : WordsLeft → WordsLeft
later left = words_left (words_after left.words) left.absent

-- the words after the first ones, this many
abbrev pub later_by : ℕ → WordsLeft → WordsLeft
later_by zero left = left
later_by (suc n) left = later_by n (later left)

-- words, separated by one space
abbrev pub joined : List (List ℕ) → List ℕ
joined words = join_with_byte 32 words

-- the texts of words
abbrev pub texts_of : List WordAt → List (List ℕ)
texts_of [] = []
texts_of (word ∷ words) = word.text ∷ texts_of words

-- the word at a place, from 0
abbrev pub word_at : ℕ → WordsLeft → WordAt
word_at place left = first_word (later_by place left)
