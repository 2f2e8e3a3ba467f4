use Rattle.std.proofs.Common.{ap, ◌∙◌}
use Rattle.dccp_listener.specs.Chain.{Calls, asked}
use Rattle.server_peers.specs.Lives.{signs_of}
use Rattle.dccp_server.specs.Rooms.{as_room, signs_by}
use Rattle.dccp_server.specs.Serving.{Does}
use Rattle.dccp_server.proofs.Living.{called_has_life, living_then, room_as}
use Rattle.dccp_server.proofs.room.ask.Goals as goal

pub go_on-requires : goal.go_on-requires
go_on-requires c =
    called_has_life c.args.now (as_room c.args.timed.now c.args.lives.now) c.ask-answer.new.self c.args.peer (asked c.args.call) c.requires
    c.ask-answer.ensures.after

pub returns-clause-after : goal.returns-clause-after
returns-clause-after c =
    room_as c.args.now c.args.timed.now c.ask-answer.new.self _ c.args.lives.now c.go_on.new.lives c.args.peer
    c.signs_answered-signs.result (signs_by c.args.timed.now.listening c.args.peer (Calls (asked c.args.call))) c.life_of-life.result
    c.ask-answer.ensures.after c.go_on.ensures
    (c.signs_answered-signs.ensures ∙ ap signs_of c.ask-answer.ensures.told) c.life_of-life.ensures

pub returns-clause-living : goal.returns-clause-living
returns-clause-living c =
    living_then c.args.now _ _ c.args.peer (Does (Calls (asked c.args.call))) (returns-clause-after c) c.requires
