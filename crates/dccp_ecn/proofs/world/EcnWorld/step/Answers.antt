-- One more event, or none.
use Rattle.dccp_ecn.proofs.Refusing.{has-no-room, lacks-index}
use Rattle.dccp_ecn.proofs.Running.{leaves, reached-honest, step-reached}
use Rattle.dccp_ecn.proofs.world.EcnWorld.step.Goals as goal

pub invariant_of-self : goal.invariant_of-self
invariant_of-self c =
    step-reached _ c.args.event _ c.step.result (leaves _ c.args.event _ c.step.result c.step.ensures.ok c.step.ensures.err) c.self.invariant

pub returns-clause-honest : goal.returns-clause-honest
returns-clause-honest c = reached-honest _ (invariant_of-self c)

pub returns-clause-lacks : goal.returns-clause-lacks
returns-clause-lacks c =
    let both = lacks-index _ c.args.event in
    rw (← c.self.view_is) (λ is. both.0 (c.step.ensures.no_such_frame.0 is), λ lacks. c.step.ensures.no_such_frame.1 (both.1 lacks))

pub returns-clause-filled : goal.returns-clause-filled
returns-clause-filled c =
    let both = has-no-room _ c.args.event in
    rw (← c.self.view_is) (λ is. both.0 (c.step.ensures.full.0 is), λ filled. c.step.ensures.full.1 (both.1 filled))
