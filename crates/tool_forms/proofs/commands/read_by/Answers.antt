-- A call that gives matches has no fault.
use Rattle.std.proofs.Common.{rules, ◌≡◌, refl, true, false, Ok}
use Rattle.clap.specs.Words.{app_of, is_simple_and_free}
use Rattle.tool_forms.specs.Commands.{has_dashes}
use Rattle.tool_forms.proofs.Asking.{some-read}
use Rattle.tool_forms.proofs.commands.read_by.Goals as goal

pub returns-in-Ok : goal.returns-in-Ok
returns-in-Ok c =
    let simple : is_simple_and_free (app_of c.args.command) ≡ true = search rules in
    let none : has_dashes c.args.words.now ≡ false = search rules in
    some-read (app_of c.args.command) c.args.words.now c.in-Ok.matches (Ok c.in-Ok.matches) refl simple none c.in-Ok.ensures.kinds c.in-Ok.ensures.matches
