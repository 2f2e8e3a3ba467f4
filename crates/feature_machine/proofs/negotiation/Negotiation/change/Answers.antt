use Rattle.std.proofs.Common.{subst, sym, ◌∙◌}
use Rattle.feature_machine.specs.Rows.{Change}
use Rattle.feature_machine.specs.Sound.{IsRowOf, IsRefusal}
use Rattle.feature_machine.proofs.Steps.{step_stays, put_same, step_its}
use Rattle.feature_machine.proofs.negotiation.Negotiation.change.Goals as goal

-- the row stays its place's
pub put-requires : goal.put-requires
put-requires c =
    subst (λ row. IsRowOf c.args.feature c.args.place row) (sym c.change-reply.ensures.row)
    (step_its c.args.feature c.args.place c.row-row.result (Change c.args.body.now c.args.mandatory) c.row-row.ensures.its tt)

-- what the row refuses changes nothing
pub returns-clause-stays : goal.returns-clause-stays
returns-clause-stays c =
    λ refused. c.put.ensures ∙ put_same c.args.self.now c.args.feature c.args.place c.row-row.result c.change-reply.new.self c.row-row.ensures.value
    (c.change-reply.ensures.row
    ∙ step_stays c.row-row.result (Change c.args.body.now c.args.mandatory) (subst (λ a. IsRefusal a) c.change-reply.ensures.reply refused))
