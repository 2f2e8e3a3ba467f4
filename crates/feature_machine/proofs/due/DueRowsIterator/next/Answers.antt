use Rattle.std.proofs.Common.{◌≡◌, ◌∙◌, sym, arith, length, ap, slice_get, Some, slice_index_or}
use Rattle.std.proofs.lemmas.Option.{slice_get-get_or}
use Rattle.feature_machine.proofs.Asking.{due_taken}
use Rattle.feature_machine.proofs.due.DueRowsIterator.next.Goals as goal

pub returns-clause-steps : goal.returns-clause-steps
returns-clause-steps c =
    let row = slice_index_or c.self.inside.rows.now c.first_due-index.result c.index-self-index.result in
    let there : slice_get c.self.inside.rows.now c.first_due-index.result ≡ Some row =
    slice_get-get_or c.self.inside.rows.now c.first_due-index.result c.index-self-index.result (omega (arith, c.self.invariant.1)) in
    sym c.self.view_is ∙ sym c.first_due-index.ensures.passed
    ∙ due_taken c.self.inside.rows.now c.first_due-index.result row (omega arith) there (c.first_due-index.ensures.due row (omega arith) there)

pub returns-clause-goes : goal.returns-clause-goes
returns-clause-goes c =
    let shorter = ap (λ l. length l) (returns-clause-steps c) in
    record { on = λ finite. (tt, finite, omega (arith, shorter)); keeps = tt; rests = λ finite. tt }
