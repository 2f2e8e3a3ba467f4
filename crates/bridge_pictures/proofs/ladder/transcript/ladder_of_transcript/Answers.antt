-- How far the input was read, from where the ladder begins.
use Rattle.std.proofs.Common.{subst}
use Rattle.tool_text.specs.Ends.{StopsWithin}
use Rattle.tool_text.specs.Jobs.{gone_through}
use Rattle.bridge_pictures.specs.Scene.{Drawing}
use Rattle.bridge_pictures.specs.Transcript.{ladder_job}
use Rattle.bridge_pictures.proofs.ladder.transcript.ladder_of_transcript.Goals as goal

pub returns-clause-past : goal.returns-clause-past
returns-clause-past g c = λ bytes told.
    subst (λ (first : Drawing). StopsWithin 16384 (gone_through ladder_job first bytes).accepted bytes c.run_lines_apart.result.end
    (g.S.Source.left c.run_lines_apart.new.input))
    c.new-ladder.ensures (c.run_lines_apart.ensures.through bytes told).past
