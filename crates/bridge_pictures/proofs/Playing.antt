-- The result of a line in the windows, by its result in `run`.
use Rattle.std.proofs.Common.{◌≡◌, refl, sym, ap, ◌∙◌, List, [], ℕ, Ok, Err}
use Rattle.std.proofs.lemmas.List.{append-nil}
use Rattle.tool_jobs.specs.Scenes.{Scene}
use Rattle.tool_jobs.specs.Transcript.{run_job}
use Rattle.tool_jobs.specs.declared.run.play.Play.{Play}
use Rattle.tool_text.specs.Jobs.{Accepted, Judges, Refused, LineVerdict, line_text}
use Rattle.tool_text.specs.declared.lines.error.LineError.{LineError}
use Rattle.tool_text.specs.declared.lines.error.LineError.TheVariants as line_error
use Rattle.bridge_pictures.specs.Played.{PlayState, event_drawn, played_by, windows_job}

-- a line that `run` does not accept is not accepted
pub refused_so : (p : PlayState) (v : LineVerdict Scene Play) (said text : List ℕ) (next : Play) (after : PlayState) (error : LineError)
    → Judges run_job v [] said next (Err error) → Judges windows_job (played_by p v) text text after (Err error)
refused_so p v said text next after line_error.NoMemory judges = tt
refused_so p (Accepted deed onward) said text next after (line_error.Refused fault) judges = cc judges.2
refused_so p (Refused other) said text next after (line_error.Refused fault) judges = (refl, judges.1)

-- a line that it accepts is accepted, and what it said is drawn
pub accepted_so : (p : PlayState) (v : LineVerdict Scene Play) (said text : List ℕ) (next : Play) (after : PlayState)
    → Judges run_job v [] said next (Ok tt) → after ≡ event_drawn (record p { play = next }) said
    → Judges windows_job (played_by p v) text text after (Ok tt)
accepted_so p (Refused other) said text next after judges is = cc judges.1
accepted_so p (Accepted deed onward) said text next after judges is = (
  sym (append-nil text),
  is ∙ ap (event_drawn (record p { play = next })) judges.0
      ∙ ap (λ (n : Play). event_drawn (record p { play = n }) (line_text run_job deed)) judges.1,
  refl,
)
