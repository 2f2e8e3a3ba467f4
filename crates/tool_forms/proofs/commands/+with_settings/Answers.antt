-- The first setting, and then the others.
use Rattle.std.proofs.Common.{rules, ◌∙◌, ◌-◌, sym, drop, length, take}
use Rattle.std.proofs.lemmas.Result.{IfOk-weaker}
use Rattle.clap.specs.Words.{app_of}
use Rattle.tool_forms.proofs.Asking.{first-of, one-more}
use Rattle.tool_forms.proofs.commands.+with_settings.Goals as goal

pub returns-in_ok-command-in-len1-up : goal.returns-in_ok-command-in-len1-up
returns-in_ok-command-in-len1-up t c =
    IfOk-weaker c.with_settings.result _ _
    (λ made is. is ∙ sym (one-more (app_of c.args.command) (app_of c.in_ok-command-in-len1-up.command) c.args.settings.now _
    (take (length c.args.settings.now - 1) (drop 1 c.args.settings.now))
    (first-of c.args.settings.now (search rules)) c.in_ok-command-in-len1-up.ensures)) c.with_settings.ensures
