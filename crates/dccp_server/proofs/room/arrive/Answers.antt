use Rattle.std.proofs.Common.{◌≡◌, true, sym, ◌∙◌, rules}
use Rattle.dccp_server.specs.Rooms.{as_room}
use Rattle.dccp_server.proofs.Arriving.{come_as}
use Rattle.dccp_server.proofs.room.arrive.Goals as goal

pub returns-clause-arrived : goal.returns-clause-arrived
returns-clause-arrived c =
    let heard : c.count.result ≡ true = search rules in
    come_as c.args.now c.args.rules.now (as_room c.args.timed.now c.args.lives.now) c.args.peer c.args.iss c.args.datagram.now
    (as_room c.count.new.timed c.args.lives.now) (as_room c.hear_by-judged.new.timed c.hear_by-judged.new.lives) c.hear_by-judged.new.out
    c.as_arrival.new.out c.hear_by-judged.result.heard c.as_arrival.result.heard c.hear_by-judged.result.evicted c.as_arrival.result.evicted
    c.hear_by-judged.result.anew c.as_arrival.result.anew c.count.ensures.room (sym heard ∙ c.count.ensures.heard) c.hear_by-judged.ensures.heard
    c.as_arrival.ensures.frame c.as_arrival.ensures.heard c.as_arrival.ensures.evicted c.as_arrival.ensures.anew
