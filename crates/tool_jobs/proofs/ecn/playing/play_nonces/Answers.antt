-- How far the input was read, and what was written, from where the play begins.
use Rattle.std.proofs.Common.{subst}
use Rattle.tool_text.specs.Jobs.{gone_through}
use Rattle.tool_text.specs.Ends.{StopsWithin}
use Rattle.tool_jobs.specs.Play.{ecn_job}
use Rattle.tool_jobs.specs.declared.ecn.play.EcnPlay.{EcnPlay}
use Rattle.tool_jobs.proofs.ecn.playing.play_nonces.Goals as goal

pub returns-clause-past : goal.returns-clause-past
returns-clause-past g c = λ bytes told.
    subst (λ (first : EcnPlay). StopsWithin 16384 (gone_through ecn_job first bytes).accepted bytes c.run_lines.result (g.S.Source.left c.run_lines.new.input))
    c.in-Ok.ensures (c.run_lines.ensures.through bytes told).past
