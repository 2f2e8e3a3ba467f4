-- What the turns of the loop over lines do (own). A turn reads and judges one line.
use Rattle.std.specs.Prelude.{◌≡◌, ℕ, ◌+◌, ◌≤◌, Bool, true, false, List, Option, Some, None, IfSome, Result, Ok, Err}
use Rattle.dccp_io.specs.Fronts.{GivesAtMost}
use Rattle.dccp_io.specs.Lines.{LinesState, Finds, next_in_bytes, rest_of_input, text_of}
use Rattle.dccp_io.specs.declared.lines.Stop.{Stop}
use Rattle.dccp_io.specs.declared.lines.Stop.TheVariants as stop
use Rattle.tool_text.specs.Jobs.{Job, Judges, Refused, by_next, too_long}
use Rattle.tool_text.specs.declared.lines.loops.LinesEnd.{LinesEnd}
use Rattle.tool_text.specs.declared.lines.turns.Turn.{Turn}
use Rattle.tool_text.specs.declared.lines.turns.Turn.TheVariants as turn
use Rattle.tool_text.specs.Ends.{HasBegun, HasTaken, IsAnswered, IsCutOff}
use Rattle.tool_text.specs.declared.output.status.JobEnd.{JobEnd}
use Rattle.tool_text.specs.declared.output.status.JobEnd.TheVariants as ended
use Rattle.tool_text.specs.Refusals.{whole_line}
use Rattle.tool_text.specs.declared.lines.error.LineError.{LineError}
use Rattle.tool_text.specs.declared.lines.error.LineError.TheVariants as line_error
use Rattle.tool_text.specs.declared.words.faults.LineWhy.TheVariants as why

-- The turn in which the reader stopped.
abbrev pub stopped_turn : Stop → Turn
stopped_turn stop.TooLong = turn.Refused too_long
stopped_turn stop.TooMuch = turn.Refused (whole_line why.TooMuchInput)
stopped_turn stop.Failed = turn.Failed

-- The turn in which a line was judged: it is accepted, or refused with its fault, or there was no memory.
abbrev pub judged_turn : Result (Unit {0}) LineError → Turn
judged_turn (Ok _) = turn.Accepted
judged_turn (Err (line_error.Refused fault)) = turn.Refused fault
judged_turn (Err line_error.NoMemory) = turn.NoMemory

-- What comes next is refused. At most 8,192 bytes were read after it, and at most 4,097 of a line.
pub record RefusesNext {S : Type 0} (left : S → Option (List ℕ)) (faults lender : S → ℕ) (old new : LinesState S) (IsRefused : List ℕ → Type 0) : Type 0 where
  pub never_falls : faults old.source ≤ faults new.source
  pub same_lender : lender new.source ≡ lender old.source
  pub past : IfSome (rest_of_input left old) (λ bytes. GivesAtMost 12289 (Some bytes) (left new.source))
  pub refused : IfSome (rest_of_input left old) IsRefused

-- One turn: the line that comes next was judged and accepted, or what comes next is refused, or the input is at its
-- end, and nothing else changed.
abbrev pub TakesTurn : {S P V : Type 0} → (S → Option (List ℕ)) → (S → ℕ) → (S → ℕ) → Job P V → (V → ℕ → Type 0) → ℕ → LinesState S → LinesState S → V → V
    → List ℕ → List ℕ → Turn → Type 0
TakesTurn left faults lender job Keeps number old new state next text written turn.Accepted =
    Finds left faults lender old new (Ok true) × Judges job (job.judged state number (text_of new.line)) text written next (Ok tt) × Keeps next (number + 1)
TakesTurn left faults lender job Keeps number old new state next text written turn.Ended =
    Finds left faults lender old new (Ok false) × (next ≡ state) × (written ≡ text)
TakesTurn left faults lender job Keeps number old new state next text written (turn.Refused fault) =
    RefusesNext left faults lender old new (λ bytes. by_next job state number (next_in_bytes old.given bytes) ≡ Refused fault) × (written ≡ text)
TakesTurn left faults lender job Keeps number old new state next text written turn.Failed =
    Finds left faults lender old new (Err stop.Failed) × (written ≡ text)
TakesTurn left faults lender job Keeps number old new state next text written turn.NoMemory = lender new.source ≡ lender old.source

-- no line was refused
abbrev pub unrefused : JobEnd → LinesEnd
unrefused end = record { end = end; refusal = None }

-- What was left of a text was written: all of it with an answer, and otherwise a prefix of it.
pub record Leaves (text : List ℕ) (refused : Bool) (result : JobEnd) (before after : Option (List ℕ)) : Type 0 where
  pub whole : IsAnswered result → HasTaken before after text
  pub front : IsCutOff result → HasBegun before after text
  pub done : result ≡ ended.Done → refused ≡ false
  pub input : result ≡ ended.Input → refused ≡ true
