use Rattle.std.proofs.Common.{ap, ◌∙◌}
use Rattle.dccp_listener.specs.Chain.{Arrives}
use Rattle.server_peers.specs.Lives.{Lives, signs_of}
use Rattle.dccp_server.specs.Rooms.{as_room, signs_by}
use Rattle.dccp_server.specs.Anew.{signs_noted}
use Rattle.dccp_server.specs.Serving.{Does, ServedListener}
use Rattle.dccp_server.proofs.Living.{living_then, living_same, room_placed}
use Rattle.server_peers.proofs.Placing.{taken_back}
use Rattle.dccp_server.proofs.Tying.{has_place}
use Rattle.dccp_server.proofs.room.hear.Goals as goal

pub go_on-requires : goal.go_on-requires
go_on-requires c = has_place _ c.place_for.new.self c.args.peer c.in_ok-had.ensures.there

pub returns-in-Ok-clause-after : goal.returns-in-Ok-clause-after
returns-in-Ok-clause-after c =
    room_placed _ c.args.now c.in_ok-had.had c.args.timed.now c.arrive.new.self _ c.args.lives.now c.place_for.new.self
    c.go_on.new.lives c.args.peer c.signs_noted-signs.result
    (signs_by c.args.timed.now.listening c.args.peer (Arrives c.args.iss c.args.datagram.now)) c.args.life.now c.in_ok-had.ensures.placed
    c.in-Ok.ensures.after c.go_on.ensures
    (c.signs_noted-signs.ensures ∙ ap (signs_noted c.args.datagram.now) (c.signs_heard.ensures ∙ ap signs_of c.in-Ok.ensures.told)) c.requires.known

pub returns-in-Ok-clause-living : goal.returns-in-Ok-clause-living
returns-in-Ok-clause-living c =
    living_then c.args.now _ _ c.args.peer (Does (Arrives c.args.iss c.args.datagram.now))
    (returns-in-Ok-clause-after c) c.requires.living

pub returns-in-Err-clause-unchanged : goal.returns-in-Err-clause-unchanged
returns-in-Err-clause-unchanged c =
    ap (λ (s : ServedListener). as_room s c.take_back.new.self) c.in-Err.ensures.unchanged
    ∙ ap (λ (l : Lives). as_room c.args.timed.now l)
    (c.take_back.ensures ∙ taken_back _ c.in_ok-had.had c.args.lives.now c.place_for.new.self c.args.peer c.in_ok-had.ensures.placed)

pub returns-in-Err-clause-living : goal.returns-in-Err-clause-living
returns-in-Err-clause-living c = living_same _ _ (returns-in-Err-clause-unchanged c) c.requires.living
