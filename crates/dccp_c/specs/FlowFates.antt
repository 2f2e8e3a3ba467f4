-- What C may read about the data and the path of a listener's flow (own).
use Rattle.std.specs.Prelude.{ℕ, ◌-◌, Option, Some, None}
use Rattle.std.specs.Option.{option_map}
use Rattle.ccid_two.specs.Kinds.{Both}
use Rattle.dccp_endpoint.specs.Controlled.{End}
use Rattle.dccp_listener.specs.Peers.{end_of_peer}
use Rattle.dccp_listener.specs.declared.peer.Peer.{Peer}
use Rattle.dccp_server.specs.FlowInboxes.{Inboxes, flow_most_said}
use Rattle.dccp_server.specs.Rooms.{RuledRoom}
use Rattle.dccp_server.specs.Serving.{upkeep_at}
use Rattle.dccp_uses.specs.declared.upkeep.Upkeep.{Upkeep}
use Rattle.dccp_states.specs.declared.calls.Timer.TheVariants as timers
use Rattle.dccp_uses.specs.Alarms.{starting_wait_by}
use Rattle.dccp_uses.specs.Path.{path_waits}
use Rattle.dccp_c.specs.Seeing.{trip_seen}
use Rattle.dccp_c.specs.declared.readers.RoundTripView.{RoundTripView}

-- the end of a peer, if there is a listener and the peer has one
abbrev pub flow_end : Option RuledRoom → Peer → Option (End Both)
flow_end None peer = None
flow_end (Some s) peer = end_of_peer s.room.served.listening.flows peer

-- what was measured of a flow's path, and the timeout with which its timer rto would begin
abbrev pub upkeep_seen : Upkeep → RoundTripView
upkeep_seen it = trip_seen it.path.round_trip (starting_wait_by (path_waits it.path) it.alarms timers.Rto)

-- the same, if there is a listener and the peer has a flow
abbrev pub flow_path : Option RuledRoom → Peer → Option RoundTripView
flow_path None peer = None
flow_path (Some s) peer =
    option_map (λ e. upkeep_seen (upkeep_at s.room.served.pace s.room.served.upkeeps peer)) (end_of_peer s.room.served.listening.flows peer)

-- what is left of a number of bytes besides what the inbox of a peer may say, if there is a listener
abbrev pub left_beside_flow : ℕ → Option Inboxes → Peer → ℕ
left_beside_flow most None peer = most
left_beside_flow most (Some s) peer = most - flow_most_said s peer
