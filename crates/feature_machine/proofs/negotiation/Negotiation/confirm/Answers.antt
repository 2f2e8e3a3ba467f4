use Rattle.std.proofs.Common.{subst, sym, ◌∙◌}
use Rattle.feature_machine.specs.Rows.{Confirm}
use Rattle.feature_machine.specs.Sound.{IsRowOf}
use Rattle.feature_machine.proofs.Steps.{step_stays, put_same, step_its, confirm_refuses}
use Rattle.feature_machine.proofs.negotiation.Negotiation.confirm.Goals as goal

-- the row stays its place's
pub put-requires : goal.put-requires
put-requires c =
    subst (λ row. IsRowOf c.args.feature c.args.place row) (sym c.confirm-settling.ensures.row)
    (step_its c.args.feature c.args.place c.row-row.result (Confirm c.args.body.now c.args.ack.now) c.row-row.ensures.its tt)

-- what the row refuses changes nothing
pub returns-clause-stays : goal.returns-clause-stays
returns-clause-stays c =
    λ refused. c.put.ensures ∙ put_same c.args.self.now c.args.feature c.args.place c.row-row.result c.confirm-settling.new.self c.row-row.ensures.value
    (c.confirm-settling.ensures.row
    ∙ step_stays c.row-row.result (Confirm c.args.body.now c.args.ack.now)
    (confirm_refuses c.row-row.result c.args.body.now c.args.ack.now (λ same. refused (c.confirm-settling.ensures.settling ∙ same))))
