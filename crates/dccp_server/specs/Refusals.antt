-- How a server refuses a datagram that would open a flow (own; RFC 4340, section 5.6).
use Rattle.std.specs.Prelude.{ℕ, List, Option, None, is_some, if◌then◌else◌}
use Rattle.dccp_listener.specs.Calls.{reset_for}
use Rattle.dccp_listener.specs.Chain.{config_for}
use Rattle.dccp_listener.specs.declared.peer.Peer.{Peer}
use Rattle.dccp_packets.specs.Grammar.{decoded}
use Rattle.dccp_packets.specs.Outgoing.{Outgoing}
use Rattle.dccp_server.specs.Rooms.{RuledRoom}
use Rattle.server_peers.specs.Refusals.{flow_asked}
use Rattle.server_peers.specs.Strangers.{answer_spared, frame_if_goes}

-- The server once its owner has refused a datagram: what would open a flow takes one of the answers to strangers.
abbrev pub refused_server : ℕ → RuledRoom → Peer → List ℕ → RuledRoom
refused_server now s peer bytes =
    if is_some (flow_asked s.room.served.listening peer bytes) then record s { strangers = (answer_spared now s.rules s.strangers).strangers } else s

-- the Reset with this code that then goes out, if an answer may
abbrev pub refused_frame : ℕ → RuledRoom → Peer → List ℕ → ℕ → Option Outgoing
refused_frame now s peer bytes code =
    if is_some (flow_asked s.room.served.listening peer bytes)
    then frame_if_goes (answer_spared now s.rules s.strangers).goes
    (reset_for code (config_for s.room.served.listening.config peer 0 bytes) (decoded bytes))
    else None
