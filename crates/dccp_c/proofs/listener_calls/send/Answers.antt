use Rattle.std.proofs.Common.{ap, ◌∙◌}
use Rattle.dccp_listener.specs.Chain.{Calls, Sends}
use Rattle.dccp_server.specs.Events.{WatchedServer, called_on}
use Rattle.dccp_server.specs.Rooms.{room_does}
use Rattle.dccp_server.specs.Serving.{Does}
use Rattle.server_peers.specs.Events.{aborted_end}
use Rattle.server_peers.specs.declared.flow_event.EndCause.TheVariants as causes
use Rattle.dccp_c.specs.Listening.{holding_of, holds_on}
use Rattle.dccp_c.proofs.listener_calls.send.Goals as goal

pub returns-clause-after : goal.returns-clause-after
returns-clause-after c =
    c.go_on.ensures.after
    ∙ ap (holds_on (holding_of c.args.serving.now) c.args.peer)
    (c.in_ok-answer.ensures.after
    ∙ ap
    (λ (w : WatchedServer). called_on w (record w.server { room = room_does c.args.now w.server.room c.args.peer (Does (Calls (Sends c.args.payload.now))) })
    c.args.peer (aborted_end causes.Own))
    c.seek.ensures)
