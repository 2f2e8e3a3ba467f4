use Rattle.std.proofs.Common.{◌≡◌, subst, sym, true}
use Rattle.feature_lists.specs.Wishes.{is_wish}
use Rattle.feature_lists.specs.declared.features.Feature.{Feature}
use Rattle.feature_lists.specs.declared.features.Place.{Place}
use Rattle.feature_machine.specs.Rows.{Prefers}
use Rattle.feature_machine.specs.Sound.{IsRowOf}
use Rattle.feature_machine.proofs.Steps.{step_its}
use Rattle.feature_machine.proofs.negotiation.Negotiation.prefer.Goals as goal

-- the row stays its place's
pub put-requires : goal.put-requires
put-requires c =
    let its = c.row-row.ensures.its in
    subst (λ row. IsRowOf c.args.feature c.args.place row) (sym c.prefer-opening.ensures.row)
    (step_its c.args.feature c.args.place c.row-row.result (Prefers c.args.wish) its
    (subst (λ (feature : Feature). is_wish feature c.row-row.result.place c.args.wish ≡ true) (sym its.feature_is)
    (subst (λ (place : Place). is_wish c.args.feature place c.args.wish ≡ true) (sym its.place_is) c.requires)))
