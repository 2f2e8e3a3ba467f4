-- How far the input was read, from where the schedule begins.
use Rattle.std.proofs.Common.{subst}
use Rattle.tool_text.specs.Ends.{StopsWithin}
use Rattle.tool_text.specs.Jobs.{gone_through}
use Rattle.bridge_pictures.specs.Played.{PlayState, windows_job}
use Rattle.bridge_pictures.proofs.windows.schedule.windows_of_schedule.Goals as goal

pub returns-clause-past : goal.returns-clause-past
returns-clause-past g c = λ bytes told.
    subst (λ (first : PlayState). StopsWithin 16384 (gone_through windows_job first bytes).accepted bytes c.run_lines_apart.result.end
    (g.S.Source.left c.run_lines_apart.new.input))
    c.new-windows.ensures.value (c.run_lines_apart.ensures.through bytes told).past
