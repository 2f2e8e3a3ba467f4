use Rattle.dccp_uses.specs.Timed.{TimedState, timed_sends}
use Rattle.dccp_uses.proofs.Beside.{step_handed}
use Rattle.dccp_uses.proofs.session.Session.send.Goals as goal

pub returns-clause-does : goal.returns-clause-does
returns-clause-does g c =
    step_handed g.N.Network.sends (λ (s : TimedState _). timed_sends g.C.Congestion.control c.args.now s c.args.payload.now) _ _ c.self.view_is _ _ _ _ _ c.send-answer.ensures.step
    c.hand.ensures.handed
