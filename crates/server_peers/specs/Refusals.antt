-- How a server turns away, without an end, a datagram that would open a connection (own; RFC 4340, sections 5.6 and 8.3.1).
use Rattle.std.specs.Prelude.{ℕ, Bool, List, Option, Some, None, is_some, if◌then◌else◌}
use Rattle.dccp_endpoint.specs.End.{is_begun, new_end}
use Rattle.dccp_endpoint.specs.Receiving.{receives}
use Rattle.dccp_endpoint.specs.declared.config.Config.{Config}
use Rattle.dccp_listener.specs.Calls.{reset_for}
use Rattle.dccp_listener.specs.Chain.{config_for}
use Rattle.dccp_listener.specs.Peers.{ListenerState, end_of_peer}
use Rattle.dccp_listener.specs.declared.peer.Peer.{Peer}
use Rattle.dccp_packets.specs.Grammar.{decoded}
use Rattle.dccp_packets.specs.Outgoing.{Outgoing}

-- The end of a server that has received nothing would stay, with the connection that the datagram opens.
abbrev pub opens_by : Config → List ℕ → Bool
opens_by config bytes = is_begun (receives (new_end config) bytes).after.phase

-- what goes out: what would open a connection is refused, and all else is answered as that server would
abbrev pub refusal_frame : ℕ → Config → List ℕ → Option Outgoing
refusal_frame code config bytes = if opens_by config bytes then reset_for code config (decoded bytes) else (receives (new_end config) bytes).frame

-- the Service Code of the connection that the datagram opens, if it opens one
abbrev pub service_opened : Config → List ℕ → Option ℕ
service_opened config bytes = if opens_by config bytes then Some config.service else None

-- The Service Code of the flow that a datagram of a peer would open, if the peer has none.
abbrev pub flow_asked : ListenerState → Peer → List ℕ → Option ℕ
flow_asked l peer bytes = if is_some (end_of_peer l.flows peer) then None else service_opened (config_for l.config peer 0 bytes) bytes
