-- Seeds are what the command's matches are.
use Rattle.std.proofs.Common.{◌∙◌, subst, Option}
use Rattle.clap.specs.declared.parser.matches.ArgMatches.{ArgMatches}
use Rattle.tool_forms.specs.declared.settings.Table.TheVariants as table
use Rattle.tool_forms.specs.Commands.{IsReadBy, command_of}
use Rattle.tool_forms.proofs.Taken.{range-judged, range-refused}
use Rattle.tool_forms.proofs.bridge_words.seed_range_of.Goals as goal

pub returns-in-Some-clause-value : goal.returns-in-Some-clause-value
returns-in-Some-clause-value c =
    let given = subst (λ (found : Option ArgMatches). IsReadBy (command_of table.Seeds) c.args.words.now found) c.in-Some.is c.in_ok-matches.ensures in
    c.seed_range_in.ensures.value ∙ range-judged c.args.words.now c.in-Some.matches given

pub returns-in-None-clause-value : goal.returns-in-None-clause-value
returns-in-None-clause-value c =
    range-refused c.args.words.now
    (subst (λ (found : Option ArgMatches). IsReadBy (command_of table.Seeds) c.args.words.now found) c.in-None.is c.in_ok-matches.ensures)
