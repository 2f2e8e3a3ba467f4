-- Numbers as a line has them (own).
use Rattle.std.specs.Prelude.{ℕ, ◌^◌, ◌==◌, nat_le, if◌then◌else◌, List, [], ◌∷◌, length, Option, Some, None, option_and_then}
use Rattle.feature_lists.specs.Features.{feature_numbered}
use Rattle.feature_lists.specs.declared.features.Feature.{Feature}
use Rattle.tool_text.specs.Numbers.{number_below}
use Rattle.tool_text.specs.Words.{parted_by}

-- sequence numbers and values stay below this limit
abbrev pub sequence_numbers : ℕ
sequence_numbers = 2 ^ 48

-- the limit that a frame's index stays below
abbrev pub indices : ℕ
indices = 2 ^ 47

-- a number before others
abbrev pub number_and_rest : ℕ → Option (List ℕ) → Option (List ℕ)
number_and_rest number None = None
number_and_rest number (Some numbers) = Some (number ∷ numbers)

-- each of the texts as a number below 2^48
abbrev pub numbers_read : List (List ℕ) → Option (List ℕ)
numbers_read [] = Some []
numbers_read (text ∷ texts) = option_and_then (λ number. number_and_rest number (numbers_read texts)) (number_below sequence_numbers text)

-- numbers for which there is room: at most nine
abbrev pub at_most_nine : List ℕ → Option (List ℕ)
at_most_nine numbers = if nat_le (length numbers) 9 then Some numbers else None

-- one to nine numbers below 2^48, separated by commas
abbrev pub values_of : List ℕ → Option (List ℕ)
values_of word = option_and_then at_most_nine (numbers_read (parted_by 44 word))

-- the version with this number, counted from 1
abbrev pub version_numbered : ℕ → Option ℕ
version_numbered number = if number == 0 then None else Some number

-- a schedule's version: 1 or 2
abbrev pub schedule_version : List ℕ → Option ℕ
schedule_version word = option_and_then version_numbered (number_below 3 word)

-- a feature's number
abbrev pub feature_of : List ℕ → Option Feature
feature_of word = option_and_then feature_numbered (number_below 10 word)
