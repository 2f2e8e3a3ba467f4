use Rattle.std.proofs.Common.{Result, IfOk, subst}
use Rattle.dccp_states.specs.declared.seen.Seen.{Seen}
use Rattle.two_ends.specs.Delivered.{DeliversItsData}
use Rattle.world_events.specs.declared.event.WorldFault.{WorldFault}
use Rattle.tests_claims.proofs.worlds.stepped.Goals as goal

pub returns-clause-delivers : goal.returns-clause-delivers
returns-clause-delivers g c = λ begins ends is.
    let of = c.delivered_data_are_those_of_their_frame.ensures.frame c.args.world.now.world c.step.new.self.world c.args.event.now begins ends
    (subst
    (λ (r : Result Seen WorldFault). IfOk r (λ (seen : Seen). DeliversItsData c.args.world.now.world c.args.event.now c.step.new.self.world seen)) is
    c.step.ensures.delivers) in
    (of.0, (of.1, (of.2, (of.3, (of.4, (of.5, (of.6, (of.7, (of.10, (of.9, of.11))))))))))

pub returns-clause-safe : goal.returns-clause-safe
returns-clause-safe g c = c.step.ensures.safe

pub returns-clause-facts : goal.returns-clause-facts
returns-clause-facts g c = c.step.ensures.facts
