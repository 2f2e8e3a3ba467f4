use Rattle.std.proofs.Common.{ap, ◌∙◌, None}
use Rattle.dccp_listener.specs.Chain.{Calls, asked}
use Rattle.dccp_server.specs.Events.{WatchedServer, flow_state}
use Rattle.server_peers.specs.Events.{aborted_end, events_between}
use Rattle.dccp_server.specs.Rooms.{room_does}
use Rattle.dccp_server.specs.Serving.{Does}
use Rattle.server_peers.specs.declared.flow_event.EndCause.TheVariants as causes
use Rattle.dccp_server.proofs.Telling.{called_as, is_rejoined}
use Rattle.dccp_server.proofs.event_server.EventServer.ask.Goals as goal

pub returns-clause-after : goal.returns-clause-after
returns-clause-after c =
    called_as c.args.self.now c.tell.new.self c.ask-answer.new.self
    (record c.args.self.now.server { room = room_does c.args.now c.args.self.now.server.room c.args.peer (Does (Calls (asked c.args.call))) }) c.args.peer
    c.flow_state-was.result c.aborted_end.result (aborted_end causes.Own)
    (is_rejoined c.args.self.now c.tell.new.self c.ask-answer.new.self
    (events_between c.args.peer c.flow_state-was.result (flow_state c.ask-answer.new.self.room c.args.peer) None c.aborted_end.result None) c.self.inside.is_shut
    c.tell.ensures (ap (λ (w : WatchedServer). w.is_shut) c.self.view_is))
    (c.flow_state-was.ensures ∙ ap (λ (w : WatchedServer). flow_state w.server.room c.args.peer) c.self.view_is) c.aborted_end.ensures
    (c.ask-answer.ensures.after
    ∙ ap (λ (w : WatchedServer). record w.server { room = room_does c.args.now w.server.room c.args.peer (Does (Calls (asked c.args.call))) }) c.self.view_is)
