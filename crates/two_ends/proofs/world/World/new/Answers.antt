-- No event leads to the start.
use Rattle.two_ends.proofs.OfWorlds.Believing.{reached-facts, reached-safe}
use Rattle.two_ends.proofs.OfWorlds.Reaching.{start-reached}
use Rattle.two_ends.proofs.world.World.new.Goals as goal

pub invariant_of-result : goal.invariant_of-result
invariant_of-result g c =
    start-reached g.C.Congestion.control c.args.client c.args.server c.args.for_client c.args.for_server c.requires.client c.requires.server
    c.config_fits.ensures c.config_fits-2.ensures _ c.in_ok-sides.ensures

pub returns-clause-safe : goal.returns-clause-safe
returns-clause-safe g c = reached-safe g.C.Congestion.control g.met.C.Congestion.lawful c.every_step_has_one_effect.ensures _ (invariant_of-result g c)

pub returns-clause-facts : goal.returns-clause-facts
returns-clause-facts g c = reached-facts g.C.Congestion.control g.met.C.Congestion.lawful c.every_step_has_one_effect.ensures _ (invariant_of-result g c)
