-- Rows of what an owner is told, and of names, computed from the definitions; the values were worked out by hand.
use Rattle.std.proofs.Common.{◌≡◌, refl, ℕ, true, false, [], ◌∷◌, Option, Some, None}
use Rattle.dccp_listener.specs.Runs.{Stepped, WasBusy}
use Rattle.dccp_listener.specs.declared.peer.Peer.{Peer}
use Rattle.dccp_states.specs.declared.outcome.Outcome.TheVariants.{SentReset, Synced, Took, WasReset}
use Rattle.dccp_states.specs.declared.phase.Phase.{Phase}
use Rattle.dccp_states.specs.declared.phase.Phase.TheVariants as phase
use Rattle.dccp_states.specs.declared.seen.Seen.TheVariants.{Received}
use Rattle.dccp_sum.specs.declared.pseudo_header.Pseudo.TheVariants.{V4, V6}
use Rattle.dccp_server.specs.Events.{ends_old, room_maker}
use Rattle.server_peers.specs.Events.{aborted_end, data_told, ending_heard, event_if, events_between, events_left, evicted_event, first_event, no_events, silent_end}
use Rattle.server_peers.specs.Lives.{no_life}
use Rattle.server_peers.specs.Naming.{stand_in}
use Rattle.server_peers.specs.declared.flow_event.EndCause.TheVariants as causes
use Rattle.server_peers.specs.declared.flow_event.EventKind.TheVariants as kinds
use Rattle.server_peers.specs.declared.flow_event.FlowState.{FlowState}
use Rattle.dccp_server.specs.declared.meeting.Way.TheVariants as way

-- a peer
abbrev peer : Peer
peer = record { address = 10 ∷ 0 ∷ 0 ∷ 1 ∷ []; port = 40000 }

-- a flow in a phase, with the owner's number 7, that takes no data
abbrev flow : Phase → Option FlowState
flow in-phase = Some (record { phase = in-phase; takes_data = false; user = 7 })

-- the same that takes data
abbrev taking : Option FlowState
taking = Some (record { phase = phase.Open; takes_data = true; user = 7 })

-- Who has ended a connection, and by which Reset.
who_has_ended_it :
    (ending_heard (flow phase.Open) (Some (Stepped (Some (Received (WasReset 1))))) false ≡ record { cause = causes.Peer; code = Some 1 })
    × (ending_heard (flow phase.CloseReq) (Some (Stepped (Some (Received (WasReset 1))))) false ≡ record { cause = causes.Own; code = Some 1 })
    × (ending_heard (flow phase.Closing) (Some (Stepped (Some (Received (WasReset 2))))) false ≡ record { cause = causes.Peer; code = Some 2 })
    × (ending_heard (flow phase.Open) (Some (Stepped (Some (Received (SentReset 1 (0 ∷ 0 ∷ 0 ∷ [])))))) false ≡ record { cause = causes.Peer; code = Some 1 })
    × (ending_heard (flow phase.CloseReq) (Some (Stepped (Some (Received (SentReset 1 (0 ∷ 0 ∷ 0 ∷ [])))))) false ≡ record { cause = causes.Own; code = Some 1 })
    × (ending_heard (flow phase.Open) (Some (Stepped (Some (Received (SentReset 5 (32 ∷ 0 ∷ 0 ∷ [])))))) false ≡ record { cause = causes.Fault; code = Some 5 })
    × (ending_heard (flow phase.Open) (Some (Stepped (Some (Received (Synced 9))))) true ≡ record { cause = causes.Anew; code = None })
    × (aborted_end causes.Silent ≡ record { cause = causes.Silent; code = Some 2 })
who_has_ended_it = (refl, refl, refl, refl, refl, refl, refl, refl)

-- A handshake is told once; data are told with their place; room is told if there was none.
what_is_told :
    (events_between peer (flow phase.Respond) taking (Some (20, 25)) (silent_end causes.Peer) None
    ≡ record {
      evicted = None;
      opened = Some (record { peer = peer; user = 7; kind = kinds.Opened });
      delivery = Some (record { peer = peer; user = 7; kind = kinds.Data 20 25 });
      room = Some (record { peer = peer; user = 7; kind = kinds.Room });
      ended = None;
    })
    × (events_between peer taking taking None (silent_end causes.Peer) None ≡ no_events)
    × (events_between peer None (flow phase.Respond) None (silent_end causes.Peer) None ≡ no_events)
    × (events_between peer (flow phase.Open) (flow phase.TimeWait) None (aborted_end causes.Own) None
    ≡ record no_events { ended = Some (record { peer = peer; user = 7; kind = kinds.Ended (aborted_end causes.Own) }) })
    × (events_between peer (flow phase.TimeWait) None None (silent_end causes.Own) None ≡ no_events)
    × (events_between peer (flow phase.Respond) None None (silent_end causes.Own) None
    ≡ record no_events { ended = Some (record { peer = peer; user = 7; kind = kinds.Ended (silent_end causes.Own) }) })
    × (data_told (Some (Stepped (Some (Received (Took (Some (20, 25))))))) ≡ Some (20, 25))
    × (data_told (Some WasBusy) ≡ None)
what_is_told = (refl, refl, refl, refl, refl, refl, refl, refl)

-- What makes room is told where it stood in RESPOND; in TIMEWAIT its end was told before.
what_made_room :
    (evicted_event (Some (record no_life { phase = phase.Respond; user = 9 })) (Some peer)
    ≡ Some (record { peer = peer; user = 9; kind = kinds.Ended (silent_end causes.Evicted) }))
    × (evicted_event (Some (record no_life { phase = phase.TimeWait })) (Some peer) ≡ None)
    × (evicted_event (Some (record no_life { phase = phase.Respond })) None ≡ None)
what_made_room = (refl, refl, refl)

-- Of two that may have made room the one for a cookie's flow is told; an opening that came in vain has ended the flow.
whose_room_it_was :
    (room_maker (Some peer) None ≡ Some peer)
    × (room_maker None (Some peer) ≡ Some peer)
    × (room_maker None None ≡ None)
    × (ends_old false way.Unopened ≡ true)
    × (ends_old true way.Plain ≡ true)
    × (ends_old false way.Reopened ≡ false)
whose_room_it_was = (refl, refl, refl, refl, refl, refl)

-- the order of events
which_comes_first :
    (first_event (record no_events { opened = event_if true peer 7 kinds.Opened; room = event_if true peer 7 kinds.Room })
    ≡ Some (record { peer = peer; user = 7; kind = kinds.Opened }))
    × (events_left (record no_events { opened = event_if true peer 7 kinds.Opened; room = event_if true peer 7 kinds.Room })
    ≡ record no_events { room = event_if true peer 7 kinds.Room })
    × (first_event no_events ≡ None)
which_comes_first = (refl, refl, refl)

-- Names at a listener at 10.0.0.2: of 192.0.2.1 on a path of IPv4, and of 2001:db8::2 on one of IPv6 from 2001:db8::1.
names_by_hand :
    (stand_in (10 ∷ 0 ∷ 0 ∷ 2 ∷ []) (V4 (10 ∷ 0 ∷ 0 ∷ 2 ∷ []) (192 ∷ 0 ∷ 2 ∷ 1 ∷ [])) 5001 1 ≡ record { address = 0 ∷ 1 ∷ 194 ∷ 0 ∷ []; port = 5001 })
    × (stand_in (10 ∷ 0 ∷ 0 ∷ 2 ∷ [])
    (V6 (32 ∷ 1 ∷ 13 ∷ 184 ∷ 0 ∷ 0 ∷ 0 ∷ 0 ∷ 0 ∷ 0 ∷ 0 ∷ 0 ∷ 0 ∷ 0 ∷ 0 ∷ 1 ∷ []) (32 ∷ 1 ∷ 13 ∷ 184 ∷ 0 ∷ 0 ∷ 0 ∷ 0 ∷ 0 ∷ 0 ∷ 0 ∷ 0 ∷ 0 ∷ 0 ∷ 0 ∷ 2 ∷ [])) 40000 1
    ≡ record { address = 0 ∷ 1 ∷ 81 ∷ 114 ∷ []; port = 40000 })
names_by_hand = (refl, refl)
