-- What `ecn` writes for an input: the line of each event that takes place, then the last line or the line of the first refusal (own).
use Rattle.std.specs.Prelude.{ℕ, ◌+◌, nat_lt, Bool, is_some, List, Option, Some, None, Result, Ok, Err, if◌then◌else◌}
use Rattle.dccp_ecn.specs.declared.event.EcnEvent.{EcnEvent}
use Rattle.dccp_ecn.specs.declared.event.EcnFault.{EcnFault}
use Rattle.dccp_ecn.specs.declared.event.EcnFault.TheVariants as fault
use Rattle.dccp_ecn.specs.World.{EcnStep, ecn_begins, happens_by}
use Rattle.tool_text.specs.declared.words.faults.LineFault.{LineFault}
use Rattle.tool_text.specs.declared.words.faults.LineWhy.TheVariants as why
use Rattle.tool_text.specs.Refusals.{fault_at, whole_line}
use Rattle.tool_text.specs.Words.{word_at, words_of}
use Rattle.tool_text.specs.Jobs.{Accepted, LinesResult, Job, Refused, LineVerdict, gone_through, text_of_job, most_events}
use Rattle.tool_jobs.specs.declared.ecn.play.EcnPlay.{EcnPlay}
use Rattle.tool_jobs.specs.Forms.{read_ecn_line}
use Rattle.tool_jobs.specs.SeenText.{ecn_ending, ecn_event_line}

-- the state before any line: nothing was sent, and no event took place
abbrev pub first_ecn_play : EcnPlay
first_ecn_play = record { events = 0; world = ecn_begins }

-- The fault of a packet or report that does not exist: at the index, the second word of the line.
abbrev pub lacking_index : List ℕ → LineFault
lacking_index line = fault_at (word_at 1 (words_of line)).column why.NoSuchFrame

-- An event that took place, or the fault of its line. (No input leads to a world without room for its events.)
abbrev pub by_ecn_step : EcnPlay → ℕ → List ℕ → Result EcnStep EcnFault → LineVerdict (List ℕ) EcnPlay
by_ecn_step play number line (Ok step) =
    Accepted (Some (ecn_event_line number line step.after step.seen)) (record { events = play.events + 1; world = step.after })
by_ecn_step play number line (Err fault.NoSuchFrame) = Refused (lacking_index line)
by_ecn_step play number line (Err _) = Refused (whole_line why.TooManyEvents)

-- the line of an event, which is refused once an input has the most events that it may have
abbrev pub by_ecn_event : EcnPlay → ℕ → List ℕ → EcnEvent → LineVerdict (List ℕ) EcnPlay
by_ecn_event play number line event =
    if nat_lt play.events most_events then by_ecn_step play number line (happens_by play.world event) else Refused (whole_line why.TooManyEvents)

-- a line that says nothing is accepted and does nothing
abbrev pub by_ecn_line : EcnPlay → ℕ → List ℕ → Result (Option EcnEvent) LineFault → LineVerdict (List ℕ) EcnPlay
by_ecn_line play number line (Err fault) = Refused fault
by_ecn_line play number line (Ok None) = Accepted None play
by_ecn_line play number line (Ok (Some event)) = by_ecn_event play number line event

-- A line without its newline, judged in this order: what its words say, the count of events, the packet or report that
-- it names.
unfoldable pub ecn_judged : EcnPlay → ℕ → List ℕ → LineVerdict (List ℕ) EcnPlay
ecn_judged play number line = by_ecn_line play number line (read_ecn_line line)

-- What a line does is its text.
abbrev pub ecn_job : Job (List ℕ) EcnPlay
ecn_job = record { judged = ecn_judged; told = λ text. text; ending = λ play. ecn_ending play.world }

-- the result of an input
abbrev pub ecn_of_input : List ℕ → LinesResult (List ℕ) EcnPlay
ecn_of_input input = gone_through ecn_job first_ecn_play input

-- What `ecn` writes for an input.
abbrev pub ecn_text : List ℕ → List ℕ
ecn_text input = text_of_job ecn_job (ecn_of_input input)

-- The input is refused at some line.
abbrev pub ecn_refused : List ℕ → Bool
ecn_refused input = is_some (ecn_of_input input).refusal

-- How many bytes the accepted lines of an input have: those before the first that is refused.
abbrev pub ecn_accepted : List ℕ → ℕ
ecn_accepted input = (ecn_of_input input).accepted
