use Rattle.std.proofs.Common.{◌∙◌, List, ap, subst, sym}
use Rattle.feature_machine.specs.Negotiating.{AreRowsOf, stepped}
use Rattle.feature_machine.specs.Rows.{Prefers}
use Rattle.feature_machine.specs.declared.row.Row.{Row}
use Rattle.feature_machine.specs.declared.stands.Role2.{Role2}
use Rattle.dccp_endpoint.specs.End.{EndState, end_of}
use Rattle.dccp_endpoint.proofs.Keeping.{preferred_rows}
use Rattle.dccp_endpoint.proofs.Staying.{refit_is, refitted}
use Rattle.dccp_endpoint.proofs.connection.Connection.want.Goals as goal

pub invariant_of-self : goal.invariant_of-self
invariant_of-self c =
    let role : Role2 = end_of c.self.inside.config.role in
    refitted _ c.fit.new.marks c.prefer-opening.new.self c.self.invariant
    (subst (λ (r : List Row). AreRowsOf role r) (sym c.prefer-opening.ensures.rows)
    (preferred_rows role c.self.inside.rows c.args.feature c.args.place c.args.wish c.self.invariant.rows c.requires))
    c.fit.ensures

pub returns-clause-wish : goal.returns-clause-wish
returns-clause-wish c =
    refit_is _ _ c.fit.new.marks c.prefer-opening.new.self _ c.self.view_is c.fit.ensures
    (c.prefer-opening.ensures.rows ∙ ap (λ (e : EndState). (stepped e.rows c.args.feature c.args.place (Prefers c.args.wish)).rows) c.self.view_is)
