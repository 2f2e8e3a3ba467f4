use Rattle.std.proofs.Common.{◌≡◌, ap, subst}
use Rattle.dccp_server.specs.Rooms.{Room, RuledRoom, as_room, room_does}
use Rattle.dccp_server.specs.Serving.{Follows}
use Rattle.dccp_server.proofs.server.Server.follow.Goals as goal

pub invariant_of-self : goal.invariant_of-self
invariant_of-self c = c.follow.ensures.living

pub returns-clause-after : goal.returns-clause-after
returns-clause-after c =
    let s : RuledRoom =
    record {
      room = as_room c.self.inside.timed c.self.inside.lives;
      rules = c.self.inside.rules;
      strangers = c.self.inside.strangers;
      cookies = c.self.inside.cookies;
      keys = c.self.inside.keys;
    } in
    subst (λ (x : RuledRoom). record s { room = as_room c.follow.new.timed c.follow.new.lives } ≡ record x { room = room_does c.args.now x.room c.args.peer Follows })
    c.self.view_is (ap (λ (r : Room). record s { room = r }) c.follow.ensures.after)
