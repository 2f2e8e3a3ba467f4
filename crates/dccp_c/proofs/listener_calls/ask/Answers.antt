use Rattle.std.proofs.Common.{ap, ◌∙◌, Option}
use Rattle.dccp_packets.specs.Outgoing.{Outgoing}
use Rattle.dccp_listener.specs.Chain.{Calls, asked}
use Rattle.dccp_listener.specs.Listens.{listens}
use Rattle.dccp_server.specs.Events.{WatchedServer, called_on}
use Rattle.dccp_server.specs.FlowInboxes.{flow_speaks}
use Rattle.dccp_server.specs.Rooms.{room_does}
use Rattle.dccp_server.specs.Serving.{Does}
use Rattle.server_peers.specs.Events.{aborted_end}
use Rattle.server_peers.specs.declared.flow_event.EndCause.TheVariants as causes
use Rattle.dccp_c.specs.Listening.{holding_of, holds_on}
use Rattle.dccp_c.proofs.listener_calls.ask.Goals as goal

pub returns-clause-after : goal.returns-clause-after
returns-clause-after c =
    c.go_on.ensures.after
    ∙ ap (holds_on (holding_of c.args.serving.now) c.args.peer)
    (c.ask-answer.ensures.after
    ∙ ap
    (λ (w : WatchedServer). called_on w (record w.server { room = room_does c.args.now w.server.room c.args.peer (Does (Calls (asked c.args.call))) })
    c.args.peer (aborted_end causes.Own))
    c.seek.ensures)

pub returns-clause-sent : goal.returns-clause-sent
returns-clause-sent c =
    c.go_on.ensures.sent
    ∙ ap (λ (frame : Option Outgoing). flow_speaks c.go_on.new.serving.inboxes c.go_on.new.serving.server.server c.args.peer frame)
    (c.ask-answer.ensures.sent
    ∙ ap (λ (w : WatchedServer). (listens w.server.room.served.listening c.args.peer (Calls (asked c.args.call))).frame) c.seek.ensures)

pub returns-clause-told : goal.returns-clause-told
returns-clause-told c =
    c.ask-answer.ensures.told
    ∙ ap (λ (w : WatchedServer). (listens w.server.room.served.listening c.args.peer (Calls (asked c.args.call))).told) c.seek.ensures
