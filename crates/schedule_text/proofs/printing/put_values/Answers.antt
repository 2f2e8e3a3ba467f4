use Rattle.std.proofs.Common.{sym, ap, ◌∙◌, ℕ, List, ◌∷◌, ◌++◌, append_assoc}
use Rattle.std.specs.Prelude.{decimal, flat_map}
use Rattle.schedule_text.proofs.ValueTexts.{values_flat}
use Rattle.schedule_text.proofs.printing.put_values.Goals as goal

pub returns-clause-ok : goal.returns-clause-ok
returns-clause-ok c =
    let others = flat_map (λ (value : ℕ). 44 ∷ decimal value) c.in-Some.others.now in
    c.in_ok-put_more_values.ensures.ok
    ∙ ap (λ (front : List ℕ). front ++ others) c.in_ok-put_number.ensures.ok
    ∙ append_assoc c.args.text.now.items (decimal c.in-Some.first.now) others
    ∙ ap (λ (rest : List ℕ). c.args.text.now.items ++ rest)
    (sym (values_flat c.args.values.now c.in-Some.first.now c.in-Some.others.now c.in-Some.ensures.cases.0))
