use Rattle.dccp_uses.specs.Timed.{timed_closes}
use Rattle.dccp_uses.proofs.Beside.{step_handed}
use Rattle.dccp_uses.proofs.session.Session.close.Goals as goal

pub returns-clause-does : goal.returns-clause-does
returns-clause-does g c =
    step_handed g.N.Network.sends (timed_closes g.C.Congestion.control c.args.now) _ _ c.self.view_is _ _ _ _ _ c.close-answer.ensures.step
    c.hand.ensures.handed
