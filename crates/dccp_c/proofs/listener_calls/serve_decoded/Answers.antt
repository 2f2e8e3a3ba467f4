use Rattle.std.proofs.Common.{subst, rules, ◌∙◌}
use Rattle.dccp_server.specs.Events.{WatchedServer, is_shut_out}
use Rattle.dccp_c.specs.Framing.{handed_in}
use Rattle.dccp_c.specs.Listening.{HearsIfOpen, holding_of}
use Rattle.dccp_c.proofs.Hearing.{met_for_c}
use Rattle.dccp_c.proofs.listener_calls.serve_decoded.Goals as goal

pub returns-in-Ok : goal.returns-in-Ok
returns-in-Ok c =
    subst
    (λ (w : WatchedServer). HearsIfOpen c.args.now (record (holding_of c.args.serving.now) { watched = w }) (holding_of c.take_in.new.serving)
    c.args.peer c.args.iss c.args.datagram.now (is_shut_out w c.args.peer c.args.datagram.now) (handed_in c.hand.new.frame)
    c.take_in.new.serving.evicted c.take_in.new.serving.way c.hand.result c.args.told.now c.hand.new.told)
    c.seek.ensures
    (met_for_c c.args.now (record (holding_of c.args.serving.now) { watched = c.seek.new.self }) (holding_of c.hear.new.serving)
    (holding_of c.take_in.new.serving) c.args.peer c.args.iss c.args.datagram.now c.has_flow-had.result c.hear.new.serving.out c.take_in.new.serving.out c.in-Ok.meeting.arrival.heard c.take_in.new.serving.evicted
    c.in-Ok.meeting.arrival.evicted c.in-Ok.meeting.made_room c.in-Ok.meeting.arrival.anew c.take_in.new.serving.way c.in-Ok.meeting.way
    (handed_in c.hand.new.frame) c.hand.result c.args.told.now c.hand.new.told c.in-Ok.ensures.taken c.in-Ok.ensures.met c.in-Ok.ensures.may
    c.in-Ok.ensures.told c.hear.ensures.inboxes (search rules) c.take_in.ensures.taken c.take_in.ensures.server c.take_in.ensures.sent c.hand.ensures
    (c.take_in.ensures.evicted ∙ c.in-Ok.ensures.evicted) (c.take_in.ensures.way ∙ c.in-Ok.ensures.way))
