use Rattle.std.proofs.Common.{◌+◌, ◌∙◌, ℕ, Bool, List, ap, drop, get_or}
use Rattle.feature_lists.specs.declared.features.Feature.TheVariants.{Ccid}
use Rattle.feature_lists.specs.declared.features.Place.TheVariants.{Here}
use Rattle.feature_machine.specs.Negotiating.{every_place, stepped}
use Rattle.feature_machine.specs.Rows.{Offers}
use Rattle.feature_machine.specs.Turns.{turned}
use Rattle.feature_machine.specs.declared.row.Row.{Row}
use Rattle.dccp_endpoint.specs.Speaking.{is_confirmed}
use Rattle.dccp_endpoint.specs.Turns.{Key, offerings}
use Rattle.dccp_endpoint.proofs.Asking.{offered-on}
use Rattle.dccp_endpoint.proofs.speaking.open_offers.Goals as goal

pub loop-feature-preserved : goal.loop-feature-preserved
loop-feature-preserved c =
    let rows : List Row = c.loop-feature.rows in
    let i : ℕ = c.loop-feature.feature-index in
    let test : Key → Bool = is_confirmed c.args.confirms.now in
    ap (λ (r : List Row). turned r (offerings test (drop (i + 1) every_place))) c.open_offer.ensures
    ∙ ap (λ (b : Bool). turned
    (stepped rows (get_or c.every_place-places.result i (Ccid, Here)).0 (get_or c.every_place-places.result i (Ccid, Here)).1 (Offers b)).rows
    (offerings test (drop (i + 1) every_place)))
    c.is_confirmed-confirmed.ensures
    ∙ ap (λ (places : List Key). turned
    (stepped rows (get_or places i (Ccid, Here)).0 (get_or places i (Ccid, Here)).1 (Offers (test (get_or places i (Ccid, Here))))).rows
    (offerings test (drop (i + 1) every_place)))
    c.every_place-places.ensures
    ∙ offered-on rows test every_place i (Ccid, Here) c.loop-feature-test.true ∙ c.loop-feature.invariant
