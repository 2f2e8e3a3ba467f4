-- The first value of a name is that of its row.
use Rattle.std.proofs.Common.{◌∙◌, ap, ℕ, List}
use Rattle.clap.specs.Words.{first_of, found_of, rows_of}
use Rattle.clap.proofs.WalkLemmas.{first_value-rows}
use Rattle.tool_forms.proofs.commands.text_in.Goals as goal

pub returns : goal.returns
returns c =
    let found = found_of c.args.matches.now in
    c.get_str.ensures ∙ first_value-rows found c.name.result.now ∙ ap (λ (name : List ℕ). first_of name (rows_of found)) c.name.ensures
