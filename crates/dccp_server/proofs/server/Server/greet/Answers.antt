use Rattle.std.proofs.Common.{◌≡◌, Some, true, rules, ap, ◌∙◌}
use Rattle.dccp_listener.specs.Greeting.{greets}
use Rattle.dccp_uses.specs.Upkeeps.{is_taken}
use Rattle.dccp_server.specs.Meeting.{greeting_frame, request_at}
use Rattle.dccp_server.specs.Rooms.{RuledRoom}
use Rattle.dccp_server.proofs.Reopening.{greeted}
use Rattle.dccp_server.proofs.server.Server.greet.Goals as goal

pub returns-then-is_taken-clause-met : goal.returns-then-is_taken-clause-met
returns-then-is_taken-clause-met c =
    let keys : c.args.self.now.keys ≡ Some c.in-Some.keys = search rules in
    let frame : c.greet_with_cookie.new.out ≡ greeting_frame c.in-Some.keys c.args.self.now c.args.peer c.args.opening.now =
    c.in-Ok.ensures.sent ∙ ap (λ (x : RuledRoom). greeting_frame c.in-Some.keys x c.args.peer c.args.opening.now) c.self.view_is in
    let told : c.in-Ok.outcome
    ≡ (greets c.args.self.now.room.served.listening c.args.peer c.args.opening.now.iss (request_at c.args.self.now c.args.peer c.args.opening.now)).answer =
    c.in-Ok.ensures.told
    ∙ ap
    (λ (x : RuledRoom). (greets x.room.served.listening c.args.peer c.args.opening.now.iss (request_at x c.args.peer c.args.opening.now)).answer)
    c.self.view_is in
    let taken : is_taken c.in-Ok.outcome ≡ true = search rules in
    greeted c.args.now c.args.self.now c.args.peer c.args.iss c.args.datagram.now c.greet_with_cookie.new.out c.unserved.result.arrival.heard
    c.unserved.result.arrival.evicted c.unserved.result.arrival.anew c.unserved.result.made_room c.unserved.result.way c.in-Some.keys c.args.opening.now
    c.in-Ok.outcome c.unserved.ensures.way keys c.requires.asks frame c.unserved.ensures.heard told taken (c.unserved.ensures.evicted, c.unserved.ensures.anew, c.unserved.ensures.room)
