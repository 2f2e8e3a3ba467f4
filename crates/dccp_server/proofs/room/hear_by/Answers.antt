use Rattle.dccp_server.specs.Rooms.{as_room}
use Rattle.dccp_server.proofs.Arriving.{arrived_so}
use Rattle.dccp_server.proofs.room.hear_by.Goals as goal

pub returns-in-Ok-clause-heard : goal.returns-in-Ok-clause-heard
returns-in-Ok-clause-heard c =
    arrived_so c.args.now c.args.rules.now (as_room c.args.timed.now c.args.lives.now) c.args.peer c.args.iss c.args.datagram.now
    (as_room c.hear.new.timed c.hear.new.lives) (as_room c.judge.new.timed c.judge.new.lives) c.hear.new.out c.judge.new.out
    c.args.life.now c.in-Ok.heard c.judge.result.heard c.judge.result.evicted c.judge.result.anew c.in-Ok.ensures.after c.in-Ok.ensures.sent
    c.in-Ok.ensures.told c.requires.known c.judge.ensures.judged
