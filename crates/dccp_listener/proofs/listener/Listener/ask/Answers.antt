use Rattle.std.proofs.Common.{le_trans}
use Rattle.dccp_listener.proofs.EndsStand.{sound_step}
use Rattle.dccp_listener.proofs.listener.Listener.ask.Goals as goal

pub invariant_of-self : goal.invariant_of-self
invariant_of-self c =
    sound_step _ _ c.args.peer _ _ _ c.self.invariant c.perform.ensures.step (le_trans c.perform.ensures.count c.self.invariant.room)
