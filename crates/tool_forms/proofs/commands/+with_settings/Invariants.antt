use Rattle.std.proofs.Common.{length}
use Rattle.tool_forms.proofs.commands.+with_settings.Given as goal

abbrev pub decreases-with_settings : goal.decreases-with_settings
decreases-with_settings l = length l.settings.now
