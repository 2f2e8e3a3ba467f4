use Rattle.std.proofs.Common.{◌≡◌, ◌∙◌, List, ap, subst, sym}
use Rattle.feature_machine.specs.Negotiating.{AreRowsOf, IsNegotiation, first_rows}
use Rattle.feature_machine.specs.declared.row.Row.{Row}
use Rattle.feature_machine.proofs.Turning.{first-role}
use Rattle.feature_machine.proofs.negotiation.Negotiation.new.Goals as goal

pub invariant_of-result : goal.invariant_of-result
invariant_of-result c =
    let is : c.fill.new.rows ≡ first_rows c.args.role c.args.lists.now = c.fill.ensures ∙ ap (first_rows c.args.role) c.all-listed.ensures.value in
    let first = first-role c.args.role c.args.lists.now c.all-listed.ensures.lists in
    (subst (λ (rows : List Row). IsNegotiation rows) (sym is) first.sound, c.loud_rows-loud.ensures)

pub returns : goal.returns
returns c =
    let is : c.fill.new.rows ≡ first_rows c.args.role c.args.lists.now = c.fill.ensures ∙ ap (first_rows c.args.role) c.all-listed.ensures.value in
    let first = first-role c.args.role c.args.lists.now c.all-listed.ensures.lists in
    record {
      rows = is;
      sound = subst (λ (rows : List Row). IsNegotiation rows) (sym is) first.sound;
      role = subst (λ (rows : List Row). AreRowsOf c.args.role rows) (sym is) first;
    }
