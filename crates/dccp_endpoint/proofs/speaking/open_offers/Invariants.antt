use Rattle.std.proofs.Common.{◌≡◌, drop}
use Rattle.feature_machine.specs.Negotiating.{every_place}
use Rattle.feature_machine.specs.Turns.{turned}
use Rattle.dccp_endpoint.specs.Speaking.{is_confirmed}
use Rattle.dccp_endpoint.specs.Turns.{offerings}
use Rattle.dccp_endpoint.proofs.speaking.open_offers.Given as goal

abbrev pub invariant-loop-feature : goal.invariant-loop-feature
invariant-loop-feature l =
    turned l.rows (offerings (is_confirmed l.confirms) (drop l.feature-index every_place))
    ≡ turned l.initial.rows (offerings (is_confirmed l.confirms) every_place)
