use Rattle.dccp_uses.specs.Timed.{TimedState, timed_prefers}
use Rattle.dccp_uses.proofs.Beside.{step_handed}
use Rattle.dccp_uses.proofs.session.Session.prefer.Goals as goal

pub returns-clause-does : goal.returns-clause-does
returns-clause-does g c =
    step_handed g.N.Network.sends (λ (s : TimedState _). timed_prefers g.C.Congestion.control c.args.now s c.args.feature c.args.place c.args.values.now) _ _ c.self.view_is _ _ _ _ _ c.prefer-answer.ensures.step
    c.hand.ensures.handed
