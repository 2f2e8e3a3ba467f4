-- The columns of the words of a line (own).
use Rattle.std.specs.Prelude.{◌≡◌, ℕ, ◌+◌, ◌-◌, ◌≤◌, ◌==◌, not, true, List, length, take, drop, map, All}
use Rattle.std.specs.List.{list_all}
use Rattle.tool_text.specs.Words.{WordAt, WordsLeft}
use Rattle.tool_text.specs.Words.{joined}

-- a word is in a line: from its column on, counted in bytes from 1, the line has its text, which has no space
pub record StandsIn (line : List ℕ) (word : WordAt) : Type 0 where
  pub from_one : 1 ≤ word.column
  pub text : take (length word.text) (drop (word.column - 1) line) ≡ word.text
  pub whole : list_all (λ byte. not (byte == 32)) word.text ≡ true

-- the words of a line: separated by one space they are the line, each is at its column, and a word that is absent would follow the line and a
-- space
pub record AreWordsOf (line : List ℕ) (left : WordsLeft) : Type 0 where
  pub parted : joined (map (λ word. word.text) left.words) ≡ line
  pub columns : All (StandsIn line) left.words
  pub absent : left.absent ≡ length line + 2
