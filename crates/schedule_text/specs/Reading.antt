-- What a line says, or the first of its faults (own).
use Rattle.std.specs.Prelude.{ℕ, Bool, if◌then◌else◌, List, codes, Option, Some, None, Result, Ok, Err}
use Rattle.feature_lists.specs.Wishes.{is_ours, wish_of}
use Rattle.feature_lists.specs.declared.features.Feature.{Feature}
use Rattle.feature_lists.specs.declared.features.Place.{Place}
use Rattle.feature_lists.specs.declared.wishes.PreferFault.{PreferFault}
use Rattle.feature_lists.specs.declared.wishes.PreferFault.TheVariants as wish
use Rattle.feature_lists.specs.declared.wishes.Wanted.{Wanted}
use Rattle.world_events.specs.declared.event.Side.{Side}
use Rattle.world_events.specs.declared.event.Event.TheVariants as event
use Rattle.tool_text.specs.declared.words.faults.LineFault.{LineFault}
use Rattle.tool_text.specs.declared.words.faults.LineWhy.{LineWhy}
use Rattle.tool_text.specs.declared.words.faults.LineWhy.TheVariants as why
use Rattle.tool_text.specs.Words.{words_of}
use Rattle.tool_text.specs.Kinds.{dash_kind}
use Rattle.tool_text.specs.Lines.{clean, says_nothing}
use Rattle.tool_text.specs.Rows.{◌>>◌, WordRow, ◌▷◌, end_row, row_as, choice, judged_row, flag_row}
use Rattle.schedule_text.specs.declared.line.Line.{Line}
use Rattle.schedule_text.specs.declared.line.Line.TheVariants as line
use Rattle.schedule_text.specs.declared.names.Form.{Form}
use Rattle.schedule_text.specs.declared.names.Form.TheVariants as form
use Rattle.schedule_text.specs.Kinds.{form_kind, side_kind, place_kind, timer_kind, sequence_kind, feature_kind, version_kind, values_kind, frame_kind}

-- the fault of a line whose wish is refused; `wish` refuses for no other cause
abbrev pub wish_fault : PreferFault → LineWhy
wish_fault wish.BadList = why.BadList
wish_fault wish.NotOurs = why.NotOurs
wish_fault wish.NotOpen = why.NotOurs

-- the cause for which a wish is refused, if it is
abbrev pub wish_cause : Result Wanted PreferFault → Option LineWhy
wish_cause (Ok wanted) = None
wish_cause (Err fault) = Some (wish_fault fault)

-- a configured list is one that the end may have
abbrev pub set_cause : Side × (Place × (Feature × (List ℕ × Unit {0}))) → Option LineWhy
set_cause s = wish_cause (wish_of s.1.1.0 s.1.0 s.1.1.1.0)

-- a feature is one that the end may offer
abbrev pub offer_cause : Side × (Place × (Feature × Bool)) → Option LineWhy
offer_cause s = if is_ours s.1.1.0 s.1.0 then None else Some why.NotOurs

-- The rows after the first word, by the form that it names.
abbrev pub rows : Form → WordRow Line
rows form.Version = row_as (λ s. line.Version s.0) (version_kind ▷ end_row)
rows form.Plain = row_as (λ s. line.Plain) end_row
rows form.Iss = row_as (λ s. line.Iss s.0 s.1.0) (side_kind ▷ sequence_kind ▷ end_row)
rows form.Set =
    row_as (λ s. line.Set s.0 s.1.0 s.1.1.0 s.1.1.1.0)
    (judged_row 3 set_cause (side_kind ▷ place_kind ▷ feature_kind ▷ values_kind ▷ end_row))
rows form.Offer =
    row_as (λ s. line.Offer s.0 s.1.0 s.1.1.0 s.1.1.1)
    (judged_row 2 offer_cause (side_kind ▷ place_kind ▷ feature_kind ▷ flag_row (codes "mandatory")))
rows form.Open = row_as (λ s. line.Event event.Open) end_row
rows form.Deliver = row_as (λ s. line.Event (event.Deliver s.0.0 s.0.1)) (frame_kind ▷ end_row)
rows form.Send = row_as (λ s. line.Event (event.Send s.0 s.1.0)) (side_kind ▷ dash_kind ▷ end_row)
rows form.Prefer =
    row_as (λ s. line.Event (event.Prefer s.0 s.1.1.0 s.1.0 s.1.1.1.0)) (side_kind ▷ place_kind ▷ feature_kind ▷ values_kind ▷ end_row)
rows form.Timer = row_as (λ s. line.Event (event.Timer s.0 s.1.0)) (side_kind ▷ timer_kind ▷ end_row)
rows form.Close = row_as (λ s. line.Event (event.Close s.0)) (side_kind ▷ end_row)
rows form.Abort = row_as (λ s. line.Event (event.Abort s.0)) (side_kind ▷ end_row)

-- a line that says something: its form, and what that form has after it
abbrev pub line_row : WordRow Line
line_row = choice form_kind rows

-- what a line says, without its newline, or the first of its faults
abbrev pub read_clean : List ℕ → Result Line LineFault
read_clean text = if says_nothing text then Ok line.Nothing else line_row.said (words_of text)

-- a schedule's line, whose length and bytes are judged before its words
abbrev pub read_line : List ℕ → Result Line LineFault
read_line line = do
  clean line
  read_clean line
