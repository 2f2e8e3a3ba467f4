use Rattle.std.proofs.Common.{sym, ap, ◌∙◌, ℕ, ◌+◌, List, ◌∷◌, take}
use Rattle.tool_text.specs.Words.{parted_by}
use Rattle.tool_text.proofs.Pieces.{parted, tail_whole}
use Rattle.tool_text.proofs.words.split.first_piece.Goals as goal

pub returns-in-Some-clause-pieces : goal.returns-in-Some-clause-pieces
returns-in-Some-clause-pieces c =
    parted c.args.mark c.args.text.now c.in-Some.end (sym c.in-Some.ensures.first)
    ∙ ap (λ (rest : List ℕ). take c.in-Some.end c.args.text.now ∷ parted_by c.args.mark rest) (sym (tail_whole c.args.text.now (c.in-Some.end + 1)))
