-- No event leads to the start.
use Rattle.dccp_ecn.proofs.Running.{start-reached}
use Rattle.dccp_ecn.proofs.world.EcnWorld.new.Goals as goal

pub invariant_of-result : goal.invariant_of-result
invariant_of-result c = start-reached _ c.in_ok-halves.ensures
