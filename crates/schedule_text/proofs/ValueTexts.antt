-- Numbers with a comma between each two, as the first and then each with its comma.
use Rattle.std.proofs.Common.{◌≡◌, sym, ap, ◌∙◌, ℕ, List, [], ◌∷◌, ◌++◌}
use Rattle.std.proofs.lemmas.List.{append-nil}
use Rattle.std.specs.Prelude.{decimal, flat_map}
use Rattle.schedule_text.specs.Printing.{values_text}

values_from : (first : ℕ) (others : List ℕ) → values_text (first ∷ others) ≡ decimal first ++ flat_map (λ (value : ℕ). 44 ∷ decimal value) others
values_from first [] = sym (append-nil (decimal first))
values_from first (next ∷ others) = ap (λ (rest : List ℕ). decimal first ++ (44 ∷ rest)) (values_from next others)

pub values_flat : (values : List ℕ) (first : ℕ) (others : List ℕ) → values ≡ first ∷ others
    → values_text values ≡ decimal first ++ flat_map (λ (value : ℕ). 44 ∷ decimal value) others
values_flat values first others is = ap values_text is ∙ values_from first others
