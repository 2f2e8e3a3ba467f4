use Rattle.std.proofs.Common.{ap}
use Rattle.dccp_server.specs.Rooms.{as_room}
use Rattle.dccp_server.specs.Serving.{ServedListener, Spends}
use Rattle.dccp_server.proofs.Living.{living_then}
use Rattle.dccp_server.proofs.room.count.Goals as goal

pub returns-clause-living : goal.returns-clause-living
returns-clause-living c =
    living_then c.args.now (as_room c.args.timed.now c.args.lives.now) (as_room c.admits.new.self c.args.lives.now) c.args.peer
    (Spends c.args.datagram.now) (ap (λ (s : ServedListener). as_room s c.args.lives.now) c.admits.ensures.counted) c.requires.living
