use Rattle.std.proofs.Common.{ap, ◌∙◌, Option, None}
use Rattle.dccp_server.specs.Events.{WatchedServer, flow_state}
use Rattle.server_peers.specs.Events.{events_between}
use Rattle.server_peers.specs.declared.flow_event.FlowEvents.{FlowEvents}
use Rattle.server_peers.specs.declared.flow_event.FlowState.{FlowState}
use Rattle.dccp_server.proofs.event_server.EventServer.tell.Goals as goal

-- what is told is what he sees now, and nothing else has changed
pub returns : goal.returns
returns c =
    ap (λ (w : WatchedServer). record w { events = c.events_between-self-inside.result }) c.self.view_is
    ∙ ap (λ (e : FlowEvents). record c.args.self.now { events = e })
    (c.events_between-self-inside.ensures
    ∙ ap (λ (s : Option FlowState). events_between c.args.peer c.args.was s None c.args.ending None)
    (c.flow_state-is.ensures ∙ ap (λ (w : WatchedServer). flow_state w.server.room c.args.peer) c.self.view_is))
