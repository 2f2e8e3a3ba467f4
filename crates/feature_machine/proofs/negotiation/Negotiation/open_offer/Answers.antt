use Rattle.std.proofs.Common.{subst, sym}
use Rattle.feature_machine.specs.Rows.{Offers}
use Rattle.feature_machine.specs.Sound.{IsRowOf}
use Rattle.feature_machine.proofs.Steps.{step_its}
use Rattle.feature_machine.proofs.negotiation.Negotiation.open_offer.Goals as goal

-- the row stays its place's
pub put-requires : goal.put-requires
put-requires c =
    subst (λ row. IsRowOf c.args.feature c.args.place row) (sym c.open_offer-opening.ensures.row)
    (step_its c.args.feature c.args.place c.row-row.result (Offers c.args.confirmed) c.row-row.ensures.its tt)
