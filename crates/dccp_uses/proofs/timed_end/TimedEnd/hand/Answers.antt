use Rattle.congestion_trait.specs.Control.{may_send}
use Rattle.dccp_endpoint.specs.Early.{sends_soon}
use Rattle.dccp_endpoint.specs.Controlled.{with_control}
use Rattle.dccp_uses.specs.Timed.{TimedState}
use Rattle.dccp_uses.specs.Upkeeps.{kept_sent}
use Rattle.dccp_uses.proofs.Told.{called_as}
use Rattle.dccp_uses.proofs.timed_end.TimedEnd.hand.Goals as goal

pub returns-clause-step : goal.returns-clause-step
returns-clause-step g c =
    let control = g.C.Congestion.control in
    called_as _ _ c.self.view_is
    (λ (s : TimedState _). with_control control s.end.congestion (sends_soon s.end.state c.args.payload.now (may_send control s.end.congestion)))
    (kept_sent control c.args.now) _ _ _ _ c.in_ok-send_soon.ensures.step c.send.ensures
