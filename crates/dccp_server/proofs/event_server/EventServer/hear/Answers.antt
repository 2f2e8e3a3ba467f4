use Rattle.std.proofs.Common.{ap, ◌∙◌}
use Rattle.dccp_server.specs.Events.{WatchedServer, ends_old, flow_state, room_maker}
use Rattle.server_peers.specs.Strangers.{told_of_arrival}
use Rattle.dccp_server.proofs.Telling.{heard_as}
use Rattle.dccp_server.proofs.event_server.EventServer.hear.Goals as goal

pub returns-clause-told : goal.returns-clause-told
returns-clause-told c =
    heard_as c.args.now c.args.self.now c.self-2.inside.server c.args.peer c.args.datagram.now (told_of_arrival c.meet-life.result.1.arrival.heard)
    (room_maker c.meet-life.result.1.made_room c.meet-life.result.1.arrival.evicted) c.room_maker-maker.result
    (ends_old c.meet-life.result.1.arrival.anew c.meet-life.result.1.way) c.ends_old-anew.result c.flow_state-was.result c.flow_state.result c.data_told.result
    c.ending_heard.result c.meet-life.result.0 c.evicted_event.result c.events_between-self-inside.result c.self-2.inside.is_shut
    c.events_between-self-inside.ensures (c.flow_state-was.ensures ∙ ap (λ (w : WatchedServer). flow_state w.server.room c.args.peer) c.self.view_is)
    c.flow_state.ensures c.data_told.ensures c.ending_heard.ensures c.ends_old-anew.ensures c.evicted_event.ensures
    c.meet-life.ensures.life c.room_maker-maker.ensures
    (ap (λ (w : WatchedServer). w.is_shut) c.self-2.view_is ∙ ap (λ (w : WatchedServer). w.is_shut) c.meet-life.ensures.rest)
