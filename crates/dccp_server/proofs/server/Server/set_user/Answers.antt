use Rattle.std.proofs.Common.{ap}
use Rattle.server_peers.specs.Lives.{Lives}
use Rattle.dccp_server.specs.Rooms.{as_room, with_user}
use Rattle.dccp_server.proofs.Living.{living_same, living_user, user_place}
use Rattle.dccp_server.proofs.server.Server.set_user.Goals as goal

pub write_user-requires : goal.write_user-requires
write_user-requires c = user_place (as_room c.self.inside.timed c.self.inside.lives) c.args.peer c.self.invariant

pub invariant_of-self : goal.invariant_of-self
invariant_of-self c =
    living_same (with_user c.args.user (as_room c.self.inside.timed c.self.inside.lives) c.args.peer) _
    (ap (λ (l : Lives). as_room c.self.inside.timed l) c.write_user.ensures.written)
    (living_user (as_room c.self.inside.timed c.self.inside.lives) c.args.peer c.args.user c.self.invariant)
