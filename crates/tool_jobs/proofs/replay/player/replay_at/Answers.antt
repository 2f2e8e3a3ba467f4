-- How far the input was read, from where the replay begins.
use Rattle.std.proofs.Common.{subst}
use Rattle.tool_text.specs.Jobs.{gone_through}
use Rattle.tool_text.specs.Ends.{StopsWithin}
use Rattle.tool_jobs.specs.Replay.{ReplayState, replay_job}
use Rattle.tool_jobs.proofs.replay.player.replay_at.Goals as goal

pub returns-clause-past : goal.returns-clause-past
returns-clause-past g c = λ bytes told.
    subst (λ (first : ReplayState g.row.E.Denot). StopsWithin 16384 (gone_through (replay_job g.E.ReplayEnd.acts) first bytes).accepted bytes c.run_lines.result
    (g.S.Source.left c.run_lines.new.input))
    c.in-Ok.ensures.value (c.run_lines.ensures.through bytes told).past
