-- What comes of the line of an event, from what was shown of it.
use Rattle.std.proofs.Common.{◌≡◌, ap, sym, subst, ℕ, ◌+◌, ◌<◌, Bool, true, false, if◌then◌else◌, List, Some, Result, Ok, Err}
use Rattle.std.proofs.lemmas.Bool.{lt-ltb}
use Rattle.ccid_two.specs.Kinds.{Both}
use Rattle.tool_text.specs.Jobs.{Judges, Refused, LineVerdict, most_events}
use Rattle.tool_jobs.specs.Scenes.{Scene}
use Rattle.tool_jobs.specs.Transcript.{ShowsEvent, by_scene, event_shown, run_job, says_event, world_of}
use Rattle.tool_jobs.specs.declared.run.play.Play.{Play}
use Rattle.tool_text.specs.Refusals.{whole_line}
use Rattle.tool_text.specs.declared.lines.error.LineError.{LineError}
use Rattle.tool_text.specs.declared.lines.error.LineError.TheVariants as line_error
use Rattle.tool_text.specs.declared.words.faults.LineFault.{LineFault}
use Rattle.tool_text.specs.declared.words.faults.LineWhy.TheVariants as why
use Rattle.two_ends.specs.Controlled.{ControlledWorld}
use Rattle.world_events.specs.declared.event.Event.{Event}

-- a schedule after an event that took place
abbrev led_on : Play → ControlledWorld Both → Play
led_on old w = record old { events = old.events + 1; world = Some w }

module _ (old : Play) (text new : List ℕ) (after : ControlledWorld Both) where
  judged-ok : (r : Result Scene LineFault) → ShowsEvent r text new after (Ok tt) → Judges run_job (by_scene old r) text new (led_on old after) (Ok tt)
  judged-ok (Ok scene) shown = (shown.0, ap (led_on old) shown.1, shown.2)
  judged-ok (Err fault) shown = cc shown.1

  judged-not : (next : Play) (error : LineError) (r : Result Scene LineFault) → ShowsEvent r text new after (Err error)
      → Judges run_job (by_scene old r) text new next (Err error)
  judged-not next line_error.NoMemory (Ok scene) shown = tt
  judged-not next line_error.NoMemory (Err fault) shown = tt
  judged-not next (line_error.Refused other) (Ok scene) shown = cc shown.2
  judged-not next (line_error.Refused other) (Err fault) shown = (shown.0, shown.1)

  module _ (number : ℕ) (event : Event) (few : old.events < most_events) where
    says : says_event old number event ≡ by_scene old (event_shown number (world_of old) event)
    says =
        ap (λ (room : Bool). if room then by_scene old (event_shown number (world_of old) event) else Refused (whole_line why.TooManyEvents))
        (lt-ltb old.events most_events few)

    pub judged-then : (made : Play) → made ≡ record old { world = Some (world_of old) } → ShowsEvent (event_shown number (world_of old) event) text new after (Ok tt)
        → Judges run_job (says_event old number event) text new (record made { events = made.events + 1; world = Some after }) (Ok tt)
    judged-then made is shown =
        subst (λ (p : Play). Judges run_job (says_event old number event) text new (record p { events = p.events + 1; world = Some after }) (Ok tt)) (sym is)
        (subst (λ (v : LineVerdict Scene Play). Judges run_job v text new (led_on old after) (Ok tt)) (sym says)
        (judged-ok (event_shown number (world_of old) event) shown))

    pub judged-else : (next : Play) (w : ControlledWorld Both) → w ≡ world_of old → (error : LineError) → ShowsEvent (event_shown number w event) text new after (Err error)
        → Judges run_job (says_event old number event) text new next (Err error)
    judged-else next w is error shown =
        let here : ShowsEvent (event_shown number (world_of old) event) text new after (Err error) =
        subst (λ (world : ControlledWorld Both). ShowsEvent (event_shown number world event) text new after (Err error)) is shown in
        subst (λ (v : LineVerdict Scene Play). Judges run_job v text new next (Err error)) (sym says)
        (judged-not next error (event_shown number (world_of old) event) here)
