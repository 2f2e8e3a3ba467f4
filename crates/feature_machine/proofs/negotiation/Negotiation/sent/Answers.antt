use Rattle.std.proofs.Common.{subst, sym}
use Rattle.feature_machine.specs.Rows.{Sends}
use Rattle.feature_machine.specs.Sound.{IsRowOf}
use Rattle.feature_machine.proofs.Steps.{step_its}
use Rattle.feature_machine.proofs.negotiation.Negotiation.sent.Goals as goal

-- the row stays its place's
pub put-requires : goal.put-requires
put-requires c =
    subst (λ row. IsRowOf c.args.feature c.args.place row) (sym c.sent.ensures)
    (step_its c.args.feature c.args.place c.row-row.result (Sends c.args.number) c.row-row.ensures.its tt)
