-- The kinds of words that lines of schedules have (own).
use Rattle.std.specs.Prelude.{◌≡◌, ℕ, ◌<◌, ◌^◌, ◌==◌, ◌||◌, if◌then◌else◌, is_some, List, [], ◌∷◌, decimal, Option, Some, Result, Ok, Err}
use Rattle.feature_lists.specs.Features.{feature_number}
use Rattle.feature_lists.specs.declared.features.Feature.{Feature}
use Rattle.feature_lists.specs.declared.features.Place.{Place}
use Rattle.feature_lists.specs.declared.features.Place.TheVariants as place
use Rattle.world_events.specs.declared.event.Side.{Side}
use Rattle.world_events.specs.declared.event.Side.TheVariants.{Client, Server}
use Rattle.dccp_states.specs.declared.calls.Timer.{Timer}
use Rattle.tool_text.specs.Numbers.{number_below}
use Rattle.tool_text.specs.declared.words.faults.LineWhy.TheVariants as why
use Rattle.tool_text.specs.declared.words.kinds.Flaw.{Flaw}
use Rattle.tool_text.specs.Kinds.{KindOfWords, flaw_after, found_or, flaw_unless, found_kind, number_kind, name_kind}
use Rattle.schedule_text.specs.declared.names.Form.{Form}
use Rattle.schedule_text.specs.Names.{all_forms, all_timers, form_name, side_name, place_name, timer_name}
use Rattle.schedule_text.specs.Numbers.{sequence_numbers, indices, values_of, feature_of, schedule_version}
use Rattle.schedule_text.specs.Printing.{frame_name, values_text}
use Rattle.schedule_text.specs.Range.{AreValues, IsVersion}

-- a first word, which decides what the line is
abbrev pub form_kind : KindOfWords Form
form_kind = name_kind form_name all_forms

-- a word for a side
abbrev pub side_kind : KindOfWords Side
side_kind = name_kind side_name (Client ∷ Server ∷ [])

-- a word for where a feature is located
abbrev pub place_kind : KindOfWords Place
place_kind = name_kind place_name (place.Here ∷ place.There ∷ [])

-- a word for a timer
abbrev pub timer_kind : KindOfWords Timer
timer_kind = name_kind timer_name all_timers

-- an initial sequence number, in decimal digits
abbrev pub sequence_kind : KindOfWords ℕ
sequence_kind = number_kind sequence_numbers

-- a feature by its number, since names are not accepted
abbrev pub feature_kind : KindOfWords Feature
feature_kind = found_kind why.BadNumber feature_of (λ feature text. text ≡ decimal (feature_number feature))

-- a schedule's version, in decimal digits
abbrev pub version_kind : KindOfWords ℕ
version_kind = found_kind why.BadNumber schedule_version (λ number text. (text ≡ decimal number) × IsVersion number)

-- the list of values for a feature, all in one word
abbrev pub values_kind : KindOfWords (List ℕ)
values_kind = found_kind why.BadNumber values_of (λ values text. (text ≡ values_text values) × AreValues values)

-- a sender and an index, if one was found
abbrev pub from_sender : Side → Result ℕ Flaw → Result (Side × ℕ) Flaw
from_sender from (Ok index) = Ok (from, index)
from_sender from (Err flaw) = Err flaw

-- the frame of this sender whose index is here
abbrev pub frame_sent_by : Side → List ℕ → Result (Side × ℕ) Flaw
frame_sent_by from index = from_sender from (found_or why.BadNumber (number_below indices index))

-- the letter of a sender and an index; another letter begins no name
abbrev pub frame_named : List ℕ → Result (Side × ℕ) Flaw
frame_named [] = Err (flaw_after 0 why.UnknownWord)
frame_named (letter ∷ index) =
    if letter == 99 then frame_sent_by Client index
    else if letter == 115 then frame_sent_by Server index
    else Err (flaw_after 0 why.UnknownWord)

-- a name without a known letter is unknown, and one without an index has a bad number
abbrev pub name_flaw : List ℕ → Option Flaw
name_flaw [] = Some (flaw_after 0 why.UnknownWord)
name_flaw (letter ∷ index) =
    if letter == 99 || letter == 115 then flaw_unless (is_some (number_below indices index)) (flaw_after 0 why.BadNumber)
    else Some (flaw_after 0 why.UnknownWord)

-- a frame's name: the letter of its sender and its index
abbrev pub frame_kind : KindOfWords (Side × ℕ)
frame_kind = record {
  reads = frame_named;
  flaw = name_flaw;
  Spells = λ frame text. (text ≡ frame_name frame.0 frame.1) × (frame.1 < 2 ^ 47);
}
