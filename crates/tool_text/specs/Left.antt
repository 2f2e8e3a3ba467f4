-- The words that are still to be read, as the code keeps them.
use Rattle.std.specs.Prelude.{◌+◌}
use Rattle.tool_text.specs.Words.{placed, WordAt, word_at_column, WordsLeft, words_left}
use Rattle.tool_text.specs.Rest.{pieces_left, rest_length}
use Rattle.tool_text.specs.declared.words.split.Word.{Word}
use Rattle.tool_text.specs.declared.words.split.Words.{Words}

-- a word with the bytes of its text, which the code's word borrows from the line
abbrev pub word_of : Word → WordAt
word_of word = word_at_column word.column word.text.now

-- the words in the rest of a line, and the column that a word after them would have
abbrev pub left_of : Words → WordsLeft
left_of words = words_left (placed words.column (pieces_left 32 words.rest)) (words.column + rest_length words.rest)
