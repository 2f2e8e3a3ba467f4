-- What a job does with the lines of an input, and what it writes (own).
use Rattle.std.specs.Prelude.{ℕ, ◌+◌, ◌++◌, Bool, true, false, is_some, List, [], ◌∷◌, length, flat_map, Option, Some, None, Result, Ok, Err, ◌≡◌}
use Rattle.dccp_io.specs.Lines.{Next, End, Line, Long, Much, lines_of, next_in_lines, text_of}
use Rattle.tool_text.specs.Ends.{Answers, IsAnswered, StopsWithin}
use Rattle.tool_text.specs.declared.output.status.JobEnd.{JobEnd}
use Rattle.tool_text.specs.Refusals.{refusal_line, whole_line}
use Rattle.tool_text.specs.declared.lines.error.LineError.{LineError}
use Rattle.tool_text.specs.declared.lines.error.LineError.TheVariants as line_error
use Rattle.tool_text.specs.declared.words.faults.LineFault.{LineFault}
use Rattle.tool_text.specs.declared.lines.loops.LinesEnd.{LinesEnd}
use Rattle.tool_text.specs.declared.lines.refusals.LineRefusal.{LineRefusal}
use Rattle.tool_text.specs.declared.words.faults.LineWhy.TheVariants as why

-- The result of a line: it is accepted, with what it does, if it does anything, and the state after it; or it is
-- refused.
pub data LineVerdict (P V : Type 0) : Type 0 where
  Accepted : (deed : Option P) (next : V) → LineVerdict P V
  Refused : (fault : LineFault) → LineVerdict P V

-- A job over lines: the result of a line without its newline, by the state and its number; the text of what it does;
-- and the text at the input's end.
pub record Job (P V : Type 0) : Type 0 where
  pub judged : V → ℕ → List ℕ → LineVerdict P V
  pub told : P → List ℕ
  pub ending : V → List ℕ

-- the text of a line that was accepted
abbrev pub line_text : {P V : Type 0} → Job P V → Option P → List ℕ
line_text job None = []
line_text job (Some deed) = job.told deed

-- A line was judged with this result: an accepted one adds its text at the text's end and leads to the next state, and a refused one leaves the
-- text as it was. If memory ran out, nothing is known about the line.
abbrev pub Judges : {P V : Type 0} → Job P V → LineVerdict P V → List ℕ → List ℕ → V → Result (Unit {0}) LineError → Type 0
Judges job verdict old new after (Err line_error.NoMemory) = Unit {0}
Judges job (Accepted deed next) old new after answer = (new ≡ old ++ line_text job deed) × (after ≡ next) × (answer ≡ Ok tt)
Judges job (Refused fault) old new after answer = (new ≡ old) × (answer ≡ Err (line_error.Refused fault))

-- The most events that a job over lines of events plays (own).
abbrev pub most_events : ℕ
most_events = 16384

-- The fault of a line with a 4,097th byte, at that byte.
abbrev pub too_long : LineFault
too_long = record { column = 4097; why = why.LineTooLong }

-- The result of what comes next in an input: a line is judged by the job, and one that is too long, or too much for an
-- input, is refused. If no line comes next, nothing is done.
abbrev pub by_next : {P V : Type 0} → Job P V → V → ℕ → Next → LineVerdict P V
by_next job state number (Line line) = job.judged state number (text_of line)
by_next job state number (Long front) = Refused too_long
by_next job state number Much = Refused (whole_line why.TooMuchInput)
by_next job state number End = Accepted None state

-- The result of the lines of an input: what they did, the state after them, the number of the line after the last that
-- was accepted, how many bytes the accepted ones have, and why the line after them is refused, if it is.
pub record LinesResult (P V : Type 0) : Type 0 where
  pub deeds : List P
  pub last : V
  pub number : ℕ
  pub accepted : ℕ
  pub refusal : Option LineFault

-- one deed, or none
abbrev pub deeds_of : {P : Type 0} → Option P → List P
deeds_of None = []
deeds_of (Some deed) = deed ∷ []

-- deeds before those of the lines that follow
abbrev pub onto : {P V : Type 0} → List P → LinesResult P V → LinesResult P V
onto deeds rest = record rest { deeds = deeds ++ rest.deeds }

-- no further line counts
abbrev pub gone_so_far : {P V : Type 0} → V → ℕ → ℕ → Option LineFault → LinesResult P V
gone_so_far state number given refusal = record { deeds = []; last = state; number = number; accepted = given; refusal = refusal }

-- the lines that follow count after an accepted line; a refused one is the last
abbrev pub gone_by : {P V : Type 0} → V → ℕ → ℕ → LineVerdict P V → (V → LinesResult P V) → LinesResult P V
gone_by state number given (Accepted deed next) rest = onto (deeds_of deed) (rest next)
gone_by state number given (Refused fault) rest = gone_so_far state number given (Some fault)

-- The result of these lines, after this many bytes that were given; the first has this number.
abbrev pub gone_from : {P V : Type 0} → Job P V → V → ℕ → ℕ → List (List ℕ) → LinesResult P V
gone_from job state number given [] = gone_so_far state number given None
gone_from job state number given (line ∷ lines) =
    gone_by state number given (by_next job state number (next_in_lines given (line ∷ lines))) (λ next. gone_from job next (number + 1) (given + length line) lines)

-- The result of a whole input, from the job's first state.
abbrev pub gone_through : {P V : Type 0} → Job P V → V → List ℕ → LinesResult P V
gone_through job first input = gone_from job first 1 0 (lines_of input)

-- the line of a refusal, if refusals are written to the output
abbrev pub refusal_in : Bool → ℕ → LineFault → List ℕ
refusal_in true number fault = []
refusal_in false number fault = refusal_line number fault

-- what comes last: the text at the input's end, or the line of the refusal, if refusals are written to the output
abbrev pub last_in : {P V : Type 0} → Bool → Job P V → V → ℕ → Option LineFault → List ℕ
last_in apart job last number None = job.ending last
last_in apart job last number (Some fault) = refusal_in apart number fault

-- what comes last: the text at the input's end, or the line of the refusal
abbrev pub last_lines : {P V : Type 0} → Job P V → V → ℕ → Option LineFault → List ℕ
last_lines job last number refusal = last_in false job last number refusal

-- What is written for an input, by whether refusals are written to the output: the text of each deed, and what comes last.
abbrev pub text_in : {P V : Type 0} → Bool → Job P V → LinesResult P V → List ℕ
text_in apart job gone = flat_map job.told gone.deeds ++ last_in apart job gone.last gone.number gone.refusal

-- What is written for an input: the text of each deed, and the last lines.
abbrev pub text_of_job : {P V : Type 0} → Job P V → LinesResult P V → List ℕ
text_of_job job gone = text_in false job gone

-- What is written for an input if refusals are not written to the output: the text of each deed, and the text at the input's end.
abbrev pub text_apart : {P V : Type 0} → Job P V → LinesResult P V → List ℕ
text_apart job gone = text_in true job gone

-- the refusal of the line of this number, if it is refused
abbrev pub refusal_at : ℕ → Option LineFault → Option LineRefusal
refusal_at number None = None
refusal_at number (Some fault) = Some (record { number = number; fault = fault })

-- The refusal of an input, if it has one.
abbrev pub refusal_told : {P V : Type 0} → LinesResult P V → Option LineRefusal
refusal_told gone = refusal_at gone.number gone.refusal

-- The job went through the lines of an input, after a text that comes first: what was written and how the job ended, how far the input was read
-- past the last accepted line if one was refused, and what is true of the last state.
pub record GoesThrough {P V : Type 0} (job : Job P V) (Keeps : V → ℕ → Type 0) (first : V) (front input : List ℕ) (result : JobEnd)
    (left before after : Option (List ℕ)) : Type 0 where
  pub answers : Answers (front ++ text_of_job job (gone_through job first input)) (is_some (gone_through job first input).refusal) result left before after
  pub past : StopsWithin 16384 (gone_through job first input).accepted input result left
  pub kept : IsAnswered result → (number : ℕ) × Keeps (gone_through job first input).last number

-- The same by whether refusals are written to the output, with the refusal of the input.
pub record GoesIn {P V : Type 0} (apart : Bool) (job : Job P V) (Keeps : V → ℕ → Type 0) (first : V) (front input : List ℕ) (ended : LinesEnd)
    (left before after : Option (List ℕ)) : Type 0 where
  pub answers : Answers (front ++ text_in apart job (gone_through job first input)) (is_some (gone_through job first input).refusal) ended.end left before after
  pub past : StopsWithin 16384 (gone_through job first input).accepted input ended.end left
  pub kept : IsAnswered ended.end → (number : ℕ) × Keeps (gone_through job first input).last number
  pub refused : IsAnswered ended.end → ended.refusal ≡ refusal_told (gone_through job first input)
