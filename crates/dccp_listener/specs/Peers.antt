-- The peers of a listener, and the map from each to the end that serves it (own).
use Rattle.std.specs.Prelude.{Bool, List, [], ◌∷◌, Option, None, Some, if◌then◌else◌}
use Rattle.std.specs.BTreeMap.{is_at}
use Rattle.std.specs.Cmp.Lexicographic.{slice_cmp}
use Rattle.std.specs.Map.{lookup}
use Rattle.std.specs.Ordering.{is_lt, nat_cmp, ordering_then}
use Rattle.std.specs.declared.cmp.Ordering.{Ordering}
use Rattle.ccid_two.specs.Kinds.{Both}
use Rattle.dccp_endpoint.specs.Controlled.{End}
use Rattle.dccp_listener.specs.declared.config.ListenConfig.{ListenConfig}
use Rattle.dccp_listener.specs.declared.peer.Peer.{Peer}

-- by address, then by port
abbrev pub peer_cmp : Peer → Peer → Ordering
peer_cmp a b = ordering_then (slice_cmp nat_cmp a.address b.address) (nat_cmp a.port b.port)

-- two peers are the same if address and port are
abbrev pub is_peer : Peer → Peer → Bool
is_peer a b = is_at (peer_cmp a) b

-- the end that serves a peer, with its congestion control
abbrev pub FlowEnd : Type 0
FlowEnd = End Both

-- the peers that have an end, in their order, each with it
abbrev pub Flows : Type 0
Flows = List (Peer × FlowEnd)

-- the end of a peer, if it has one
abbrev pub end_of_peer : Flows → Peer → Option FlowEnd
end_of_peer flows peer = lookup (is_peer peer) flows

-- a listener: what it was made from, and its flows
pub record ListenerState : Type 0 where
  pub config : ListenConfig
  pub flows : List (Peer × End Both)

-- the first of these peers that comes after one, in their order
abbrev pub peer_after : Peer → List Peer → Option Peer
peer_after peer [] = None
peer_after peer (one ∷ rest) = if is_lt (peer_cmp peer one) then Some one else peer_after peer rest
