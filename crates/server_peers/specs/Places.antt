-- What is kept of each peer that has a flow, in the order of the peers (own).
use Rattle.std.specs.Prelude.{◌≡◌, ◌≤◌, ℕ, zero, suc, length, slice_get, Bool, true, false, List, [], ◌∷◌, Option, Some, None, IsSome}
use Rattle.std.specs.BTreeMap.{insert_entry}
use Rattle.std.specs.List.Sorted.{IsStrictlySortedBy}
use Rattle.std.specs.Map.{lookup, remove_entry}
pub use Rattle.dccp_listener.specs.Peers.{peer_after}
use Rattle.dccp_listener.specs.Peers.{FlowEnd, is_peer, peer_cmp}
use Rattle.dccp_listener.specs.declared.peer.Peer.{Peer}

-- what is kept of a peer follows from its end, and is dropped with it
abbrev pub kept_then : {V : Type 0} → List (Peer × V) → Peer → (FlowEnd → V) → Option FlowEnd → List (Peer × V)
kept_then kept peer value None = remove_entry (is_peer peer) kept
kept_then kept peer value (Some e) = insert_entry peer_cmp kept peer (value e)

-- the peer has a place, and had one before, or gets one with this in it
abbrev pub IsPlaced : {V : Type 0} → V → Bool → List (Peer × V) → List (Peer × V) → Peer → Type 0
IsPlaced fresh true before after peer = IsSome (lookup (is_peer peer) before) × (after ≡ before)
IsPlaced fresh false before after peer = (lookup (is_peer peer) before ≡ None) × (after ≡ insert_entry peer_cmp before peer fresh)

-- the peers that a walk names, at most this many: this one, and each time the peer after the last
abbrev pub peers_walked : ℕ → List Peer → Option Peer → List Peer
peers_walked zero peers here = []
peers_walked (suc most) peers None = []
peers_walked (suc most) peers (Some peer) = peer ∷ peers_walked most peers (peer_after peer peers)

-- A walk from the first of peers in order names each of them once, in their order, and ends.
abbrev pub WalksNameEachOnce : Type 0
WalksNameEachOnce =
    (peers : List Peer) (most : ℕ) → IsStrictlySortedBy peer_cmp peers → length peers ≤ most → peers_walked most peers (slice_get peers 0) ≡ peers

-- a peer that has an end has a place
abbrev pub HasPlaceIf : {V : Type 0} → Option FlowEnd → List (Peer × V) → Peer → Type 0
HasPlaceIf None kept peer = Unit {0}
HasPlaceIf (Some e) kept peer = IsSome (lookup (is_peer peer) kept)
