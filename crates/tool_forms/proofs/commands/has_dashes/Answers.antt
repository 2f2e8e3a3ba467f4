-- The words are looked through for one that is `--`.
use Rattle.std.proofs.Common.{rules, tests, ◌∙◌, String, Global}
use Rattle.std.specs.Prelude.{string_bytes}
use Rattle.std.proofs.lemmas.Iterator.{YieldsList-from_slice}
use Rattle.std.proofs.lemmas.Iterator.Search.{any_from_yields_List}
use Rattle.clap.proofs.WalkLemmas.{list_any-map}
use Rattle.tool_forms.specs.Commands.{is_dashes}
use Rattle.tool_forms.proofs.commands.has_dashes.Goals as goal

pub returns : goal.returns
returns c =
    any_from_yields_List (λ (word : String Global). is_dashes (string_bytes word)) _ _ c.any.result c.any.ensures.ran
    (YieldsList-from_slice c.args.words.now cc)
    (λ x b q k. search (rules, tests))
    ∙ list_any-map is_dashes string_bytes c.args.words.now
