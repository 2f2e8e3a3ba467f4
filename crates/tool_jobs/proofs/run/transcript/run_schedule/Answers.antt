-- The lines were gone through from where a schedule begins, and each world of its events was safe.
use Rattle.std.proofs.Common.{subst}
use Rattle.tool_jobs.specs.Transcript.{run_job}
use Rattle.tool_jobs.specs.declared.run.play.Play.{Play}
use Rattle.tool_text.specs.Jobs.{gone_through}
use Rattle.tool_text.specs.Ends.{StopsWithin}
use Rattle.tool_jobs.proofs.SchedulesRunning.{safe-run}
use Rattle.tool_jobs.proofs.run.transcript.run_schedule.Goals as goal

pub returns-clause-safe : goal.returns-clause-safe
returns-clause-safe g c = λ bytes told answered.
    safe-run c.every_run_is_safe.ensures c.new-schedule.result c.new-schedule.ensures.value bytes ((c.run_lines.ensures.through bytes told).kept answered)

pub returns-clause-past : goal.returns-clause-past
returns-clause-past g c = λ bytes told.
    subst (λ (first : Play). StopsWithin 16384 (gone_through run_job first bytes).accepted bytes c.run_lines.result (g.S.Source.left c.run_lines.new.input))
    c.new-schedule.ensures.value (c.run_lines.ensures.through bytes told).past
