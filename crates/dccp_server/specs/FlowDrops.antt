-- Which packets of a listener's flows were reported as dropped, and why (own; RFC 4340, section 11.7).
use Rattle.std.specs.Prelude.{ℕ, ◌==◌, ◌&&◌, List, [], ◌∷◌, ◌++◌, Option, None}
use Rattle.circular_buffer.specs.Buffer.{keep_last}
use Rattle.data_dropped.specs.Drops.{last_code}
use Rattle.dccp_listener.specs.Peers.{is_peer}
use Rattle.dccp_listener.specs.declared.peer.Peer.{Peer}
use Rattle.dccp_uses.specs.DropRecord.{record_after}
use Rattle.dccp_server.specs.declared.flow_drops.FlowDrop.{FlowDrop}

-- a drop of a peer's flow is recorded: of the last 2,048 of all flows each is kept (own)
abbrev pub flow_recorded : Peer → ℕ → ℕ → List FlowDrop → List FlowDrop
flow_recorded peer number code drops = keep_last 2048 (drops ++ record { peer = peer; number = number; code = code } ∷ [])

-- the code of a packet to a peer, if it was dropped
abbrev pub flow_drop_code : List FlowDrop → Peer → ℕ → Option ℕ
flow_drop_code drops peer n = last_code (λ (d : FlowDrop). is_peer peer d.peer && d.number == n) (λ (d : FlowDrop). d.code) None drops

-- The record once a peer's flow has heard a datagram. Reports were counted up to the first number before it, and are counted up to the second
-- after it.
abbrev pub flow_record_after : Peer → Option ℕ → Option ℕ → List ℕ → List FlowDrop → List FlowDrop
flow_record_after peer counted after bytes drops = record_after (flow_recorded peer) counted after bytes drops
