use Rattle.dccp_listener.proofs.EndsStand.{sound_arrival}
use Rattle.dccp_listener.proofs.listener.Listener.arrive_decoded.Goals as goal

pub invariant_of-self : goal.invariant_of-self
invariant_of-self c =
    sound_arrival _ _ c.args.peer c.args.iss c.args.datagram.now _ c.arrive.result c.self.invariant c.arrive.ensures.arrived
    (c.arrive.ensures.room c.self.invariant.room)
