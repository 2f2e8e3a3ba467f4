use Rattle.dccp_endpoint.specs.Calling.{closes}
use Rattle.dccp_endpoint.specs.Controlled.{with_control}
use Rattle.dccp_uses.specs.Timed.{TimedState}
use Rattle.dccp_uses.specs.Upkeeps.{kept_closed}
use Rattle.dccp_uses.proofs.Told.{called_as}
use Rattle.dccp_uses.proofs.timed_end.TimedEnd.close.Goals as goal

pub returns-clause-step : goal.returns-clause-step
returns-clause-step g c =
    let control = g.C.Congestion.control in
    called_as _ _ c.self.view_is (λ (s : TimedState _). with_control control s.end.congestion (closes s.end.state)) (kept_closed control c.args.now) _ _ _ _
    c.in_ok-close.ensures.step c.close-2.ensures
