use Rattle.std.proofs.Common.{◌≡◌, ℕ, List, [], length, nat_le, take, ap, sym, ◌∙◌}
use Rattle.std.proofs.lemmas.Bool.{eqb-true}
use Rattle.std.proofs.lemmas.List.{nil_from_length}
use Rattle.data_dropped.specs.declared.drops.DropEntry.{DropEntry}
use Rattle.data_dropped.proofs.ReadBack.{nothing_told}
use Rattle.data_dropped.proofs.writing.write_drops.Goals as goal

-- without a drop nothing is told
pub returns-then-is_empty-clause-bytes : goal.returns-then-is_empty-clause-bytes
returns-then-is_empty-clause-bytes c =
    let drops : List DropEntry = c.args.drops.now.items in
    let none : drops ≡ [] = nil_from_length drops (eqb-true (length drops) 0 (sym c.is_empty.ensures ∙ c.if-is_empty.true)) in
    c.clear.ensures ∙ sym (ap (λ (bytes : List ℕ). take 253 bytes) (nothing_told drops c.args.ack none))

pub returns-then-is_empty-clause-whole : goal.returns-then-is_empty-clause-whole
returns-then-is_empty-clause-whole c =
    let drops : List DropEntry = c.args.drops.now.items in
    let none : drops ≡ [] = nil_from_length drops (eqb-true (length drops) 0 (sym c.is_empty.ensures ∙ c.if-is_empty.true)) in
    sym (ap (λ (bytes : List ℕ). nat_le (length bytes) 253) (nothing_told drops c.args.ack none))
