-- All its settings.
use Rattle.std.proofs.lemmas.Result.{IfOk-weaker}
use Rattle.clap.specs.Words.{app_of}
use Rattle.tool_forms.proofs.Asking.{has-settings}
use Rattle.tool_forms.proofs.commands.command_of.Goals as goal

pub returns : goal.returns
returns c = IfOk-weaker c.with_settings.result _ _
    (λ made settled. has-settings c.args.table _ (app_of made) c.settings.result.now c.bare_command.ensures c.settings.ensures settled) c.with_settings.ensures
