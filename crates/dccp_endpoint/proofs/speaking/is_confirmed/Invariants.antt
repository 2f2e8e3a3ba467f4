use Rattle.std.proofs.Common.{◌≡◌, drop}
use Rattle.dccp_endpoint.specs.Speaking.{is_confirmed}
use Rattle.dccp_endpoint.proofs.speaking.is_confirmed.Given as goal

abbrev pub invariant-loop-confirm : goal.invariant-loop-confirm
invariant-loop-confirm l =
    is_confirmed (drop l.confirm-index l.confirms) (l.feature, l.place) ≡ is_confirmed l.confirms (l.feature, l.place)
