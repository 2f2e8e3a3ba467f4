use Rattle.server_peers.specs.Lives.{no_signs}
use Rattle.dccp_server.specs.Rooms.{as_room}
use Rattle.dccp_server.specs.Serving.{Follows}
use Rattle.dccp_server.proofs.Living.{living_then, room_as, ruled_has_life}
use Rattle.dccp_server.proofs.room.follow.Goals as goal

pub go_on-requires : goal.go_on-requires
go_on-requires c =
    ruled_has_life c.args.now (as_room c.args.timed.now c.args.lives.now) c.follow.new.self c.args.peer c.requires c.follow.ensures.after

pub returns-clause-after : goal.returns-clause-after
returns-clause-after c =
    room_as c.args.now c.args.timed.now c.follow.new.self _ c.args.lives.now c.go_on.new.lives c.args.peer
    c.none.result no_signs c.life_of-life.result c.follow.ensures.after c.go_on.ensures c.none.ensures c.life_of-life.ensures

pub returns-clause-living : goal.returns-clause-living
returns-clause-living c = living_then c.args.now _ _ c.args.peer Follows (returns-clause-after c) c.requires
