-- A text that is put together item by item.
use Rattle.std.proofs.Common.{◌≡◌, sym, ap, ◌∙◌, ℕ, ◌+◌, ◌<◌, List, ◌++◌, length, drop, append_assoc}
use Rattle.std.proofs.Math.ListN.{get_or}
use Rattle.std.proofs.lemmas.List.{drop_more}
use Rattle.std.specs.Prelude.{flat_map}

-- one item further
pub item_put : {X : Type 0} (text : X → List ℕ) (all : List X) (i : ℕ) (none : X) (before after whole : List ℕ) → i < length all
    → after ≡ before ++ text (get_or all i none) → before ++ flat_map text (drop i all) ≡ whole → after ++ flat_map text (drop (i + 1) all) ≡ whole
item_put text all i none before after whole inside put same =
    ap (λ (front : List ℕ). front ++ flat_map text (drop (i + 1) all)) put
    ∙ append_assoc before (text (get_or all i none)) (flat_map text (drop (i + 1) all))
    ∙ ap (λ (rest : List _). before ++ flat_map text rest) (sym (drop_more all i none inside))
    ∙ same
