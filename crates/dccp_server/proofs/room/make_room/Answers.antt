use Rattle.dccp_server.specs.Rooms.{as_room}
use Rattle.dccp_server.proofs.Arriving.{made_if}
use Rattle.dccp_server.proofs.room.make_room.Goals as goal

pub returns-clause-made : goal.returns-clause-made
returns-clause-made c =
    made_if c.args.now (as_room c.args.timed.now c.args.lives.now) (as_room c.forget.new.timed c.forget.new.lives)
    (as_room c.hear.new.timed c.hear.new.lives) c.args.peer c.args.iss c.args.datagram.now c.args.leaving c.args.out.now c.hear.new.out
    c.hear.result c.forget.ensures.after c.hear.ensures.after c.hear.ensures.sent c.hear.ensures.told c.hear.ensures.unchanged
