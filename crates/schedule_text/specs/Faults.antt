-- The first fault of a line, as a table: what each word of a form is judged for, in the order of the words (own).
use Rattle.std.specs.Prelude.{ℕ, ◌+◌, ◌^◌, Bool, false, ◌&&◌, ◌==◌, ◌||◌, nat_lt, if◌then◌else◌, List, [], ◌∷◌, length, codes, Option, Some, None, is_some, Result, Ok, Err}
use Rattle.std.specs.Str.{bytes_eq}
use Rattle.feature_lists.specs.Wishes.{is_ours, wish_of}
use Rattle.feature_lists.specs.declared.features.Feature.{Feature}
use Rattle.feature_lists.specs.declared.features.Place.{Place}
use Rattle.feature_lists.specs.declared.wishes.PreferFault.{PreferFault}
use Rattle.feature_lists.specs.declared.wishes.Wanted.{Wanted}
use Rattle.tool_text.specs.declared.words.faults.LineFault.{LineFault}
use Rattle.tool_text.specs.declared.words.faults.LineWhy.{LineWhy}
use Rattle.tool_text.specs.declared.words.faults.LineWhy.TheVariants as why
use Rattle.schedule_text.specs.declared.names.Form.{Form}
use Rattle.schedule_text.specs.declared.names.Form.TheVariants as form
use Rattle.schedule_text.specs.Names.{form_named, side_named, place_named, timer_of}
use Rattle.schedule_text.specs.Numbers.{values_of, feature_of, schedule_version}
use Rattle.tool_text.specs.Numbers.{number_below}
use Rattle.tool_text.specs.Digits.{digits_flaw}
use Rattle.tool_text.specs.Words.{WordAt, WordsLeft, first_word, later, word_at, words_of}
use Rattle.tool_text.specs.Rows.{first_or, nothing_more}
use Rattle.tool_text.specs.Lines.{first_other, says_nothing, no_text}
use Rattle.schedule_text.specs.Reading.{wish_fault}
use Rattle.tool_text.specs.Refusals.{fault_at}

-- no fault if that fits, and this one if it does not
abbrev pub unless : Bool → LineFault → Option LineFault
unless fits fault = if fits then None else Some fault

-- Missing if the word is not there, and this cause if it does not fit, both at its column
abbrev pub word_fault : LineWhy → Bool → WordAt → Option LineFault
word_fault cause fits word =
    if length word.text == 0 then Some (fault_at word.column why.Missing) else unless fits (fault_at word.column cause)

-- What the first of the words that are left is judged for

-- a judgement of the words that are left: the fault of the first of them, if it has one
abbrev pub Judge : Type 0
Judge = WordsLeft → Option LineFault

-- the word for a side, `client` or `server`
abbrev pub a_side : Judge
a_side left = word_fault why.UnknownWord (is_some (side_named (first_word left).text)) (first_word left)

-- the word for where a feature is located, `here` or `there`
abbrev pub a_place : Judge
a_place left = word_fault why.UnknownWord (is_some (place_named (first_word left).text)) (first_word left)

-- the word for one of the six timers of an end
abbrev pub a_timer : Judge
a_timer left = word_fault why.UnknownWord (is_some (timer_of (first_word left).text)) (first_word left)

-- a sequence number, which is below 2^48
abbrev pub a_number : Judge
a_number left = word_fault why.BadNumber (is_some (number_below (2 ^ 48) (first_word left).text)) (first_word left)

-- the number of a feature, from 1 to 9
abbrev pub a_feature : Judge
a_feature left = word_fault why.BadNumber (is_some (feature_of (first_word left).text)) (first_word left)

-- the version of a schedule, 1 or 2
abbrev pub a_version : Judge
a_version left = word_fault why.BadNumber (is_some (schedule_version (first_word left).text)) (first_word left)

-- one to nine values below 2^48, separated by commas
abbrev pub some_values : Judge
some_values left = word_fault why.BadNumber (is_some (values_of (first_word left).text)) (first_word left)

-- a name that begins with neither letter is an unknown word; otherwise its rest should be an index
abbrev pub name_cause : List ℕ → LineWhy
name_cause [] = why.UnknownWord
name_cause (letter ∷ index) = if letter == 99 || letter == 115 then why.BadNumber else why.UnknownWord

-- the letter of a sender, `c` or `s`, and an index below 2^47
abbrev pub names_frame : List ℕ → Bool
names_frame [] = false
names_frame (letter ∷ index) = (letter == 99 || letter == 115) && is_some (number_below (2 ^ 47) index)

-- a frame's name; its letter and its index are refused for different causes
abbrev pub a_name : Judge
a_name left = word_fault (name_cause (first_word left).text) (names_frame (first_word left).text) (first_word left)

-- the first byte that is no digit, or the place after an odd number of digits
abbrev pub bad_digit : WordAt → Option ℕ → Option LineFault
bad_digit word None = None
bad_digit word (Some place) = Some (fault_at (word.column + place) why.BadHex)

-- the fault of a word that should be digits of bytes: there is none, or the digits have a flaw
abbrev pub digits_fault : WordAt → Option LineFault
digits_fault word =
    if length word.text == 0 then Some (fault_at word.column why.Missing) else bad_digit word (digits_flaw word.text)

-- the bytes of data that are sent: digits, or a dash for none
abbrev pub some_bytes : Judge
some_bytes left = if bytes_eq (first_word left).text (codes "-") then None else digits_fault (first_word left)

-- the fault of a next word other than `mandatory`, if there is a next word
abbrev pub maybe_first : List WordAt → Option LineFault
maybe_first [] = None
maybe_first (word ∷ words) = word_fault why.UnknownWord (bytes_eq word.text (codes "mandatory")) word

-- the last word of an offer, which may be left out
abbrev pub maybe_mandatory : Judge
maybe_mandatory left = maybe_first left.words

-- The table of forms: what follows the first word.
abbrev pub judges_of : Form → List Judge
judges_of form.Version = a_version ∷ []
judges_of form.Plain = []
judges_of form.Iss = a_side ∷ a_number ∷ []
judges_of form.Set = a_side ∷ a_place ∷ a_feature ∷ some_values ∷ []
judges_of form.Offer = a_side ∷ a_place ∷ a_feature ∷ maybe_mandatory ∷ []
judges_of form.Open = []
judges_of form.Deliver = a_name ∷ []
judges_of form.Send = a_side ∷ some_bytes ∷ []
judges_of form.Prefer = a_side ∷ a_place ∷ a_feature ∷ some_values ∷ []
judges_of form.Timer = a_side ∷ a_timer ∷ []
judges_of form.Close = a_side ∷ []
judges_of form.Abort = a_side ∷ []

-- word by word from the left, and then the first word too many
abbrev pub words_fault : List Judge → WordsLeft → Option LineFault
words_fault [] left = nothing_more left.words
words_fault (judge ∷ judges) left = first_or (judge left) (words_fault judges (later left))

-- values that an end may not have are refused at the values, and for an offer at the feature
abbrev pub refused_wish : ℕ → Result Wanted PreferFault → Option LineFault
refused_wish column (Ok wanted) = None
refused_wish column (Err fault) = Some (fault_at column (wish_fault fault))

-- a configured list that the end may not have is refused; words that could not be read are judged elsewhere
abbrev pub refused_set : ℕ → Option Place → Option Feature → Option (List ℕ) → Option LineFault
refused_set column (Some place) (Some feature) (Some values) = refused_wish column (wish_of feature place values)
refused_set column (Some place) (Some feature) None = None
refused_set column (Some place) None values = None
refused_set column None feature values = None

-- an offer that the end may not make is refused; words that could not be read are judged elsewhere
abbrev pub refused_offer : ℕ → Option Place → Option Feature → Option LineFault
refused_offer column (Some place) (Some feature) = unless (is_ours feature place) (fault_at column why.NotOurs)
refused_offer column (Some place) None = None
refused_offer column None feature = None

-- what an end may not have, which only `set` and `offer` can ask for
abbrev pub end_fault : Form → WordsLeft → Option LineFault
end_fault form.Version left = None
end_fault form.Plain left = None
end_fault form.Iss left = None
end_fault form.Set left =
    refused_set (word_at 3 left).column (place_named (word_at 1 left).text) (feature_of (word_at 2 left).text) (values_of (word_at 3 left).text)
end_fault form.Offer left =
    refused_offer (word_at 2 left).column (place_named (word_at 1 left).text) (feature_of (word_at 2 left).text)
end_fault form.Open left = None
end_fault form.Deliver left = None
end_fault form.Send left = None
end_fault form.Prefer left = None
end_fault form.Timer left = None
end_fault form.Close left = None
end_fault form.Abort left = None

-- the words after a known first word are judged before what an end may not have
abbrev pub form_fault : Option Form → WordsLeft → Option LineFault
form_fault None left = None
form_fault (Some form) left = first_or (words_fault (judges_of form) left) (end_fault form left)

-- the first fault of a line that says something: its first word, then what its form has after that
abbrev pub spoken_fault : WordsLeft → Option LineFault
spoken_fault left =
    first_or (word_fault why.UnknownWord (is_some (form_named (first_word left).text)) (first_word left))
    (form_fault (form_named (first_word left).text) (later left))

-- the first fault of a line
abbrev pub line_fault : List ℕ → Option LineFault
line_fault line =
    first_or (if nat_lt 4096 (length line) then Some (fault_at 4097 why.LineTooLong) else None)
    (first_or (no_text (first_other line)) (if says_nothing line then None else spoken_fault (words_of line)))
