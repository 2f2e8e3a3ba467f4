use Rattle.std.proofs.Common.{Bool}
use Rattle.dccp_endpoint.specs.Calling.{fires}
use Rattle.dccp_endpoint.specs.Controlled.{EndStep, has_in_flight, with_control}
use Rattle.dccp_uses.specs.Timed.{TimedState}
use Rattle.dccp_uses.specs.Upkeeps.{kept_rung}
use Rattle.dccp_uses.proofs.Told.{stepped_as}
use Rattle.dccp_uses.proofs.timed_end.TimedEnd.timer.Goals as goal

pub returns : goal.returns
returns g c =
    let control = g.C.Congestion.control in
    stepped_as _ _ c.self.view_is
    (λ (s : TimedState _). with_control control s.end.congestion (fires s.end.state c.args.timer (has_in_flight control s.end.congestion)))
    (λ (s : TimedState _) (x : EndStep _ Bool). kept_rung control c.args.now s.upkeep c.args.timer x.after) _ _ _ _ c.timer-applies.ensures.step c.ring.ensures
