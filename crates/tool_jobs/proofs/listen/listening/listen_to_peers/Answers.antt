-- How far the input was read, from where the lines begin.
use Rattle.std.proofs.Common.{subst}
use Rattle.tool_text.specs.Jobs.{gone_through}
use Rattle.tool_text.specs.Ends.{StopsWithin}
use Rattle.tool_jobs.specs.Listen.{listen_job}
use Rattle.tool_jobs.specs.declared.listen.serving.ListenLines.{ListenLines}
use Rattle.tool_jobs.proofs.listen.listening.listen_to_peers.Goals as goal

pub returns-clause-past : goal.returns-clause-past
returns-clause-past g c = λ bytes told.
    subst (λ (first : ListenLines). StopsWithin 16384 (gone_through listen_job first bytes).accepted bytes c.run_lines.result
    (g.S.Source.left c.run_lines.new.input))
    c.new-serving.ensures (c.run_lines.ensures.through bytes told).past
