use Rattle.dccp_endpoint.specs.Calling.{opens}
use Rattle.dccp_endpoint.specs.Controlled.{with_control}
use Rattle.dccp_uses.specs.Timed.{TimedState}
use Rattle.dccp_uses.specs.Upkeeps.{kept_opened}
use Rattle.dccp_uses.proofs.Told.{called_as}
use Rattle.dccp_uses.proofs.timed_end.TimedEnd.open.Goals as goal

pub returns-clause-step : goal.returns-clause-step
returns-clause-step g c =
    let control = g.C.Congestion.control in
    called_as _ _ c.self.view_is (λ (s : TimedState _). with_control control s.end.congestion (opens s.end.state)) (kept_opened control c.args.now) _ _ _ _
    c.in_ok-open.ensures.step c.open-2.ensures
