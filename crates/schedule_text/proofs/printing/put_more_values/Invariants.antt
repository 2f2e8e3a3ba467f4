use Rattle.std.proofs.Common.{◌≡◌, ◌++◌, ◌∷◌, drop}
use Rattle.std.specs.Prelude.{decimal, flat_map}
use Rattle.tool_text.specs.Text.{Keeps}
use Rattle.schedule_text.proofs.printing.put_more_values.Given as goal

abbrev pub invariant-loop-value : goal.invariant-loop-value
invariant-loop-value l = record {
  keeps : Keeps l.initial.text.items l.text.items;
  same : l.text.items ++ flat_map (λ value. 44 ∷ decimal value) (drop l.value-index l.values) ≡ l.initial.text.items ++ flat_map
      (λ value. 44 ∷ decimal value) l.values;
}
