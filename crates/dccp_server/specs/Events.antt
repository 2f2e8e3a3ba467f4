-- The events that an owner gets about the flows of a server (own).
use Rattle.std.specs.Prelude.{◌&&◌, ◌||◌, ℕ, List, Bool, true, not, Option, Some, None, is_some, if◌then◌else◌}
use Rattle.std.specs.Option.{option_map}
use Rattle.dccp_listener.specs.Listens.{is_table_full}
use Rattle.dccp_listener.specs.Peers.{end_of_peer}
use Rattle.dccp_listener.specs.Runs.{CallTold}
use Rattle.dccp_listener.specs.declared.peer.Peer.{Peer}
use Rattle.server_peers.specs.Lives.{life_of}
use Rattle.server_peers.specs.Events.{aborted_end, data_told, ending_heard, events_between, evicted_event, no_events, seen_flow}
use Rattle.dccp_server.specs.Meeting.{entry_met, returned}
use Rattle.server_peers.specs.CookieUses.{hurried}
use Rattle.dccp_server.specs.Refusals.{refused_server}
use Rattle.server_peers.specs.Refusals.{flow_asked}
use Rattle.dccp_server.specs.Rooms.{Room, RuledRoom, duty_peer, who_leaves}
use Rattle.dccp_server.specs.Serving.{flow_restraint}
use Rattle.dccp_server.specs.declared.duty.Duty.{Duty}
use Rattle.server_peers.specs.declared.flow_event.EndCause.TheVariants as causes
use Rattle.server_peers.specs.declared.flow_event.EndReason.{EndReason}
use Rattle.server_peers.specs.declared.flow_event.FlowEvents.{FlowEvents}
use Rattle.server_peers.specs.declared.flow_event.FlowState.{FlowState}
use Rattle.server_peers.specs.declared.life.Life.{Life}
use Rattle.server_peers.specs.declared.asking.DatagramKind.{DatagramKind}
use Rattle.server_peers.specs.declared.asking.DatagramKind.TheVariants as entry
use Rattle.dccp_server.specs.declared.meeting.Way.{Way}
use Rattle.dccp_server.specs.declared.meeting.Way.TheVariants as way
use Rattle.server_peers.specs.declared.rules.Rules.{Rules}
use Rattle.init_cookies.specs.Openings.{OpeningState}

-- what the owner sees of a peer's flow, if it has one
abbrev pub flow_state : Room → Peer → Option FlowState
flow_state r peer =
    option_map (seen_flow (life_of r.lives peer).user (is_some (flow_restraint r.served peer))) (end_of_peer r.served.listening.flows peer)

-- The time as of which a datagram opens a flow, if it opens one: that of the opening that it brings back.
abbrev pub time_of_opening : ℕ → Option OpeningState → ℕ
time_of_opening now None = now
time_of_opening now (Some o) = o.time

-- the rules by which room is made for the flow that a datagram opens
abbrev pub rules_of_opening : Rules → Option OpeningState → Rules
rules_of_opening rules None = rules
rules_of_opening rules (Some o) = hurried rules

-- a peer has a flow, or there is a place for one more
abbrev pub has_place : RuledRoom → Peer → Bool
has_place s peer = is_some (end_of_peer s.room.served.listening.flows peer) || not (is_table_full s.room.served.listening)

-- The life of the flow that would make room for one more of this peer, for a datagram that brings this opening back, if it brings one.
abbrev pub leaver_life_by : ℕ → RuledRoom → Peer → Option OpeningState → Option Life
leaver_life_by now s peer opening =
    if has_place s peer then None
    else option_map (life_of s.room.lives) (who_leaves (time_of_opening now opening) (rules_of_opening s.rules opening) s.room)

-- the same by what the datagram brings back
abbrev pub leaver_life : ℕ → RuledRoom → Peer → List ℕ → Option Life
leaver_life now s peer bytes = leaver_life_by now s peer (returned now s peer bytes)

-- the peer whose flow has made room, for the flow that a cookie opened or for the datagram
abbrev pub room_maker : Option Peer → Option Peer → Option Peer
room_maker (Some peer) evicted = Some peer
room_maker None evicted = evicted

-- The flow that the peer had was ended, since the peer has connected again, or has brought an opening back that could not be opened.
abbrev pub ends_old : Bool → Way → Bool
ends_old anew way.Unopened = true
ends_old anew _ = anew

-- what the owner sees of the flow of a duty
abbrev pub due_state : Room → Option Duty → Option FlowState
due_state r None = None
due_state r (Some duty) = flow_state r (duty_peer duty)

-- the events of a duty, which has led to this room: a connection that it has ended was given up
abbrev pub told_of_duty : Option FlowState → Room → Option Duty → FlowEvents
told_of_duty was after None = no_events
told_of_duty was after (Some duty) = events_between (duty_peer duty) was (flow_state after (duty_peer duty)) None (aborted_end causes.Silent) None

-- the events of a datagram of a peer that led from one server to the other
abbrev pub events_arrived : ℕ → RuledRoom → RuledRoom → Peer → List ℕ → Option CallTold → Option Peer → Bool → FlowEvents
events_arrived now s after peer bytes told maker anew =
    events_between peer (flow_state s.room peer) (flow_state after.room peer) (data_told told) (ending_heard (flow_state s.room peer) told anew)
    (evicted_event (leaver_life now s peer bytes) maker)

-- the events of a call of a peer's flow that led from one server to the other, and ends a connection as this says
abbrev pub events_called : RuledRoom → RuledRoom → Peer → EndReason → FlowEvents
events_called s after peer ending = events_between peer (flow_state s.room peer) (flow_state after.room peer) None ending None

-- a server, the events of its last call, and whether it takes no new flows
pub record WatchedServer : Type 0 where
  pub server : RuledRoom
  pub events : FlowEvents
  pub is_shut : Bool

-- A datagram has led the server to this one, and its events are listed.
abbrev pub heard_on : ℕ → WatchedServer → RuledRoom → Peer → List ℕ → Option CallTold → Option Peer → Bool → WatchedServer
heard_on now s after peer bytes told maker anew = record s { server = after; events = events_arrived now s.server after peer bytes told maker anew }

-- the same for a call of a peer's flow, which ends a connection as this says
abbrev pub called_on : WatchedServer → RuledRoom → Peer → EndReason → WatchedServer
called_on s after peer ending = record s { server = after; events = events_called s.server after peer ending }

-- the same for a duty
abbrev pub ticked_on : WatchedServer → RuledRoom → Option Duty → WatchedServer
ticked_on s after duty = record s { server = after; events = told_of_duty (due_state s.server.room duty) after.room duty }

-- A datagram would open a flow of a server that takes no new flows.
abbrev pub is_shut_out : WatchedServer → Peer → List ℕ → Bool
is_shut_out s peer bytes = s.is_shut && is_some (flow_asked s.server.room.served.listening peer bytes)

-- It is refused, by a Reset with the code Connection Refused (section 5.6), and there is no event.
abbrev pub shut_out : ℕ → WatchedServer → Peer → List ℕ → WatchedServer
shut_out now s peer bytes = record s { server = refused_server now s.server peer bytes; events = no_events }

-- The kind of a datagram: if no new flows are taken, no cookie is given, and none opens a flow.
abbrev pub entry_at : ℕ → WatchedServer → Peer → ℕ → List ℕ → DatagramKind
entry_at now s peer iss bytes = if s.is_shut then entry.Plain else entry_met now s.server peer iss bytes
