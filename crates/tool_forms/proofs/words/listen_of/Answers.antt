-- A listener is what the command's matches are.
use Rattle.std.proofs.Common.{◌∙◌, subst, Option}
use Rattle.clap.specs.declared.parser.matches.ArgMatches.{ArgMatches}
use Rattle.tool_forms.specs.declared.settings.Table.TheVariants as table
use Rattle.tool_forms.specs.Commands.{IsReadBy, command_of}
use Rattle.tool_forms.proofs.Taken.{listen-judged, listen-refused}
use Rattle.tool_forms.proofs.words.listen_of.Goals as goal

pub returns-in-Some-clause-value : goal.returns-in-Some-clause-value
returns-in-Some-clause-value c =
    let given = subst (λ (found : Option ArgMatches). IsReadBy (command_of table.Listen) c.args.words.now found) c.in-Some.is c.in_ok-matches.ensures in
    c.listen_in.ensures.value ∙ listen-judged c.args.words.now c.in-Some.matches given

pub returns-in-None-clause-value : goal.returns-in-None-clause-value
returns-in-None-clause-value c =
    listen-refused c.args.words.now
    (subst (λ (found : Option ArgMatches). IsReadBy (command_of table.Listen) c.args.words.now found) c.in-None.is c.in_ok-matches.ensures)
