-- The events that C gets about the flows of a listener (own).
use Rattle.std.specs.Prelude.{ℕ, is_some, Option, Some, None, unwrap_or, if◌then◌else◌}
use Rattle.std.specs.Option.{option_map}
use Rattle.dccp_listener.specs.Peers.{end_of_peer}
use Rattle.dccp_listener.specs.declared.peer.Peer.{Peer}
use Rattle.dccp_server.specs.Events.{WatchedServer}
use Rattle.server_peers.specs.Events.{events_left, first_event}
use Rattle.dccp_server.specs.FlowInboxes.{event_kept}
use Rattle.dccp_server.specs.Rooms.{with_user}
use Rattle.server_peers.specs.declared.flow_event.EndCause.{EndCause}
use Rattle.server_peers.specs.declared.flow_event.EndCause.TheVariants as causes
use Rattle.server_peers.specs.declared.flow_event.EventKind.{EventKind}
use Rattle.server_peers.specs.declared.flow_event.EventKind.TheVariants as kinds
use Rattle.server_peers.specs.declared.flow_event.FlowEvent.{FlowEvent}
use Rattle.dccp_c.specs.Listening.{OwnedServerState, address_of}
use Rattle.dccp_c.specs.declared.flow_events.EventView.{EventView}
use Rattle.dccp_c.specs.declared.peer.PeerAddress.{PeerAddress}

-- the number of why a connection is over
abbrev pub cause_number : EndCause → ℕ
cause_number causes.Peer = 0
cause_number causes.Own = 1
cause_number causes.Silent = 2
cause_number causes.Evicted = 3
cause_number causes.Fault = 4
cause_number causes.Anew = 5

-- the event of a handshake that is complete
abbrev pub plain_event : PeerAddress → ℕ → EventView
plain_event peer user = record { size = 48; user = user; first = 0; past = 0; kind = 0; cause = 0; peer = peer; code = 0 }

-- the same for another kind
abbrev pub event_kind : EventKind → EventView → EventView
event_kind kinds.Opened plain = plain
event_kind (kinds.Data first past) plain = record plain { kind = 1; first = first; past = past }
event_kind kinds.Waits plain = record plain { kind = 4 }
event_kind (kinds.Dropped code) plain = record plain { kind = 5; code = code }
event_kind kinds.Room plain = record plain { kind = 2 }
event_kind (kinds.Ended ending) plain = record plain { kind = 3; cause = cause_number ending.cause; code = unwrap_or ending.code 0 }

-- an event of a flow, as C gets it
abbrev pub event_seen : FlowEvent → EventView
event_seen event = event_kind event.kind (plain_event (address_of event.peer) event.user)

-- the next event of a listener, if there is one; data that came into an inbox have their own kind
abbrev pub next_event_in : Option OwnedServerState → Option FlowEvent
next_event_in None = None
next_event_in (Some s) = option_map (event_kept s.arrival) (first_event s.watched.events)

-- the listener without that event
abbrev pub event_after : Option WatchedServer → Option WatchedServer
event_after = option_map (λ (s : WatchedServer). record s { events = events_left s.events })

-- the code of asking for it: 1 if there is no listener, 22 if there are no more events
abbrev pub event_code : Option WatchedServer → ℕ
event_code None = 1
event_code (Some s) = if is_some (first_event s.events) then 0 else 22

-- the server once a number was set for a peer's flow
abbrev pub user_set_in : ℕ → Option WatchedServer → Peer → Option WatchedServer
user_set_in user held peer = option_map (λ (s : WatchedServer). record s { server = record s.server { room = with_user user s.server.room peer } }) held

-- the code of that: 15 if the peer has no flow, 1 if there is no listener
abbrev pub user_code : Option WatchedServer → Peer → ℕ
user_code None peer = 1
user_code (Some s) peer = if is_some (end_of_peer s.server.room.served.listening.flows peer) then 0 else 15
