use Rattle.std.proofs.Common.{◌≡◌, ◌∙◌, ◌==◌, ap, List, [], subst, sym, true}
use Rattle.feature_machine.specs.Negotiating.{are_quiet, due_keys, loud_rows, stepped}
use Rattle.feature_machine.specs.Rows.{Offers}
use Rattle.feature_machine.specs.declared.row.Row.{Row}
use Rattle.feature_machine.proofs.Loud.{none_is_loud}
use Rattle.feature_machine.proofs.Quiet.{nothing_comes_up, nothing_due}
use Rattle.feature_machine.proofs.negotiation.Negotiation.is_quiet.Goals as goal

-- the count says whether all are quiet
counts : (loud : _) (rows : List Row) → loud ≡ loud_rows rows → (loud == 0) ≡ are_quiet rows
counts loud rows is = ap (λ n. n == 0) is ∙ none_is_loud rows

pub returns-clause-value : goal.returns-clause-value
returns-clause-value c =
    subst (λ (rows : List Row). (c.self.inside.loud == 0) ≡ are_quiet rows) c.self.view_is
    (counts c.self.inside.loud c.self.inside.rows c.self.invariant.1)

pub returns-clause-offers : goal.returns-clause-offers
returns-clause-offers c =
    λ quiet feature place confirmed.
    subst (λ (rows : List Row). (stepped rows feature place (Offers confirmed)).rows ≡ rows) c.self.view_is
    (nothing_comes_up c.self.inside.rows feature place confirmed c.self.invariant.0.size
    (sym (counts c.self.inside.loud c.self.inside.rows c.self.invariant.1) ∙ quiet))

pub returns-clause-due : goal.returns-clause-due
returns-clause-due c =
    λ quiet.
    subst (λ (rows : List Row). due_keys rows ≡ []) c.self.view_is
    (nothing_due c.self.inside.rows (sym (counts c.self.inside.loud c.self.inside.rows c.self.invariant.1) ∙ quiet))
