-- A walk from peer to peer names each of a list in order once.
use Rattle.std.proofs.Common.{◌≡◌, refl, sym, ap, ◌∙◌, subst, ℕ, zero, suc, ◌≤◌, List, [], ◌∷◌, ◌++◌, length, Option, Some, if◌then◌else◌, Ordering, Less, append_assoc, arith}
use Rattle.std.proofs.lemmas.Cmp.{tied_itself}
use Rattle.std.specs.List.Sorted.{IsStrictlySortedBy}
use Rattle.std.specs.Ordering.{is_lt, ordering_reverse}
use Rattle.std.specs.Prelude.{slice_get}
use Rattle.dccp_listener.proofs.InOrder.{AllAfter}
use Rattle.dccp_listener.proofs.OnePeer.{peers_total}
use Rattle.dccp_listener.specs.Peers.{peer_cmp}
use Rattle.dccp_listener.specs.declared.peer.Peer.{Peer}
use Rattle.server_peers.specs.Places.{WalksNameEachOnce, peer_after, peers_walked}

is-after : (first : Peer) (before : List Peer) (peer : Peer) (rest : List Peer) → AllAfter first (before ++ peer ∷ rest) → peer_cmp first peer ≡ Less
is-after first [] peer rest all = all.0
is-after first (one ∷ before) peer rest all = is-after first before peer rest all.1

first-after : (peer : Peer) (rest : List Peer) → AllAfter peer rest → peer_after peer rest ≡ slice_get rest 0
first-after peer [] all = refl
first-after peer (next ∷ rest) all = ap (λ (o : Ordering). if is_lt o then Some next else peer_after peer rest) all.0

-- the peer after a peer of the list is the next one
next-is : (before : List Peer) (peer : Peer) (rest : List Peer) → IsStrictlySortedBy peer_cmp (before ++ peer ∷ rest)
    → peer_after peer (before ++ peer ∷ rest) ≡ slice_get rest 0
unfolding IsStrictlySortedBy
next-is [] peer rest ordered =
    ap (λ (o : Ordering). if is_lt o then Some peer else peer_after peer rest) (tied_itself peers_total peer) ∙ first-after peer rest ordered.0
next-is (one ∷ before) peer rest ordered =
    ap (λ (o : Ordering). if is_lt o then Some one else peer_after peer (before ++ peer ∷ rest))
    (peers_total.antisymm peer one ∙ ap ordering_reverse (is-after one before peer rest ordered.0))
    ∙ next-is before peer rest ordered.1

peers_goes-on : (rest before : List Peer) (most : ℕ) → IsStrictlySortedBy peer_cmp (before ++ rest) → length rest ≤ most
    → peers_walked most (before ++ rest) (slice_get rest 0) ≡ rest
peers_goes-on [] before zero ordered few = refl
peers_goes-on [] before (suc most) ordered few = refl
peers_goes-on (peer ∷ rest) before zero ordered few = absurd (omega (arith, few))
peers_goes-on (peer ∷ rest) before (suc most) ordered few =
    let same : (before ++ peer ∷ []) ++ rest ≡ before ++ peer ∷ rest = append_assoc before (peer ∷ []) rest in
    ap (λ (l : List Peer). peer ∷ l)
    (ap (λ (here : Option Peer). peers_walked most (before ++ peer ∷ rest) here) (next-is before peer rest ordered)
    ∙ subst (λ (all : List Peer). peers_walked most all (slice_get rest 0) ≡ rest) same
    (peers_goes-on rest (before ++ peer ∷ []) most (subst (λ (all : List Peer). IsStrictlySortedBy peer_cmp all) (sym same) ordered) (omega (arith, few))))

pub walks_name_each : WalksNameEachOnce
walks_name_each peers most ordered few = peers_goes-on peers [] most ordered few
