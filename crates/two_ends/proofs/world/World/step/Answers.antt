-- One more event, or none.
use Rattle.two_ends.proofs.OfWorlds.Believing.{reached-delivers, reached-facts, reached-held, reached-safe}
use Rattle.two_ends.proofs.OfWorlds.Nearing.{held-near}
use Rattle.two_ends.proofs.OfWorlds.Reaching.{step-reached, leaves}
use Rattle.two_ends.proofs.OfWorlds.Refusing.{result-caused}
use Rattle.two_ends.proofs.world.World.step.Goals as goal

pub invariant_of-self : goal.invariant_of-self
invariant_of-self g c =
    step-reached g.C.Congestion.control _ c.args.event.now _ c.step.result
    (leaves g.C.Congestion.control _ c.args.event.now _ c.step.result c.step.ensures.ok c.step.ensures.err) c.self.invariant

pub returns-clause-safe : goal.returns-clause-safe
returns-clause-safe g c =
    reached-safe g.C.Congestion.control g.met.C.Congestion.lawful c.every_step_has_one_effect.ensures _ (invariant_of-self g c)

pub returns-clause-facts : goal.returns-clause-facts
returns-clause-facts g c =
    reached-facts g.C.Congestion.control g.met.C.Congestion.lawful c.every_step_has_one_effect.ensures _ (invariant_of-self g c)

pub returns-clause-delivers : goal.returns-clause-delivers
returns-clause-delivers g c =
    rw (← c.self.view_is)
    (reached-delivers g.C.Congestion.control g.met.C.Congestion.lawful c.every_step_has_one_effect.ensures _ c.self.invariant c.args.event.now _
    c.step.result c.step.ensures.ok)

pub returns-clause-near : goal.returns-clause-near
returns-clause-near g c =
    rw (← c.self.view_is)
    (λ clients servers is.
    held-near g.C.Congestion.control _
    (reached-held g.C.Congestion.control g.met.C.Congestion.lawful c.every_step_has_one_effect.ensures _ c.self.invariant) clients servers c.args.event.now
    (c.step.ensures.far_short.0 is))

pub returns-clause-lacks : goal.returns-clause-lacks
returns-clause-lacks g c =
    rw (← c.self.view_is)
    (result-caused g.C.Congestion.control _ c.args.event.now c.step.result c.step.ensures.no_such_frame c.step.ensures.full c.step.ensures.far_short).lacks

pub returns-clause-filled : goal.returns-clause-filled
returns-clause-filled g c =
    rw (← c.self.view_is)
    (result-caused g.C.Congestion.control _ c.args.event.now c.step.result c.step.ensures.no_such_frame c.step.ensures.full c.step.ensures.far_short).filled

pub returns-clause-far : goal.returns-clause-far
returns-clause-far g c =
    rw (← c.self.view_is)
    (result-caused g.C.Congestion.control _ c.args.event.now c.step.result c.step.ensures.no_such_frame c.step.ensures.full c.step.ensures.far_short).far
