-- A place that was made for what is kept of a peer changes nothing of what that is then.
use Rattle.std.proofs.Common.{◌≡◌, refl, sym, ap, ◌∙◌, Bool, true, false, cond, List, [], ◌∷◌, Option, Some, None, Ordering, Less, Equal, Greater, is_eq}
use Rattle.std.proofs.lemmas.Cmp.{tied_itself}
use Rattle.std.specs.BTreeMap.{insert_entry}
use Rattle.std.specs.Map.{lookup, remove_entry}
use Rattle.std.specs.Ordering.{match_ordering}
use Rattle.std.specs.Prelude.{if◌then◌else◌}
use Rattle.dccp_listener.proofs.OnePeer.{peers_alike, peers_total}
use Rattle.dccp_listener.proofs.Searching.{none_taken}
use Rattle.dccp_listener.specs.Peers.{FlowEnd, is_peer, peer_cmp}
use Rattle.dccp_listener.specs.declared.peer.Peer.{Peer}
use Rattle.server_peers.specs.Places.{IsPlaced, kept_then}

module _ {X : Type 0} (peer : Peer) where
  abbrev put : List (Peer × X) → X → List (Peer × X)
  put timers alarms = insert_entry peer_cmp timers peer alarms

  abbrev gone : List (Peer × X) → List (Peer × X)
  gone timers = remove_entry (is_peer peer) timers

  -- what is written over does not count
  at-itself : (v w : X) (rest : List (Peer × X))
      → match_ordering (peer_cmp peer peer) ((peer, w) ∷ (peer, v) ∷ rest) ((peer, w) ∷ rest) ((peer, v) ∷ put rest w) ≡ (peer, w) ∷ rest
  at-itself v w rest = ap (λ (o : Ordering). match_ordering o ((peer, w) ∷ (peer, v) ∷ rest) ((peer, w) ∷ rest) ((peer, v) ∷ put rest w)) (tied_itself peers_total peer)

  put-by : (v w : X) (one : Peer × X) (rest : List (Peer × X)) (o : Ordering) → peer_cmp peer one.0 ≡ o → put (put rest v) w ≡ put rest w
      → put (match_ordering o ((peer, v) ∷ one ∷ rest) ((one.0, v) ∷ rest) (one ∷ put rest v)) w
      ≡ match_ordering o ((peer, w) ∷ one ∷ rest) ((one.0, w) ∷ rest) (one ∷ put rest w)
  put-by v w one rest Less is later = at-itself v w (one ∷ rest)
  put-by v w one rest Equal is later = ap (λ (o : Ordering). match_ordering o ((peer, w) ∷ (one.0, v) ∷ rest) ((one.0, w) ∷ rest) ((one.0, v) ∷ put rest w)) is
  put-by v w one rest Greater is later =
      ap (λ (o : Ordering). match_ordering o ((peer, w) ∷ one ∷ put rest v) ((one.0, w) ∷ put rest v) (one ∷ put (put rest v) w)) is
      ∙ ap (λ (t : List (Peer × X)). one ∷ t) later

  pub put_twice : (v w : X) (timers : List (Peer × X)) → put (put timers v) w ≡ put timers w
  put_twice v w [] = at-itself v w []
  put_twice v w (one ∷ rest) = put-by v w one rest (peer_cmp peer one.0) refl (put_twice v w rest)

  -- one that was put there is
  rest-none : (one : Peer × X) (rest : List (Peer × X)) (here : Bool) → cond here (Some one.1) (lookup (is_peer peer) rest) ≡ None
      → lookup (is_peer peer) rest ≡ None
  rest-none one rest true none = cc none
  rest-none one rest false none = none

  gone-itself : (v : X) (rest : List (Peer × X)) → cond (is_peer peer peer) rest ((peer, v) ∷ gone rest) ≡ rest
  gone-itself v rest = ap (λ (here : Bool). cond here rest ((peer, v) ∷ gone rest)) (peers_alike.refl peer)

  gone-by : (v : X) (one : Peer × X) (rest : List (Peer × X)) (o : Ordering) → peer_cmp peer one.0 ≡ o
      → cond (is_eq o) (Some one.1) (lookup (is_peer peer) rest) ≡ None → gone (put rest v) ≡ rest
      → gone (match_ordering o ((peer, v) ∷ one ∷ rest) ((one.0, v) ∷ rest) (one ∷ put rest v)) ≡ one ∷ rest
  gone-by v one rest Less is none later = gone-itself v (one ∷ rest)
  gone-by v one rest Equal is none later = cc none
  gone-by v one rest Greater is none later =
      ap (λ (o : Ordering). cond (is_eq o) (put rest v) (one ∷ gone (put rest v))) is ∙ ap (λ (t : List (Peer × X)). one ∷ t) later

  pub put_gone : (v : X) (timers : List (Peer × X)) → lookup (is_peer peer) timers ≡ None → gone (put timers v) ≡ timers
  put_gone v [] none = gone-itself v []
  put_gone v (one ∷ rest) none =
      gone-by v one rest (peer_cmp peer one.0) refl none (put_gone v rest (rest-none one rest (is_peer peer one.0) none))

pub undone : {X : Type 0} (fresh : X) (peer : Peer) (before after : List (Peer × X)) → IsPlaced fresh false before after peer
    → remove_entry (is_peer peer) after ≡ before
undone {X} fresh peer before after is = ap (λ (t : List (Peer × X)). remove_entry (is_peer peer) t) is.1 ∙ put_gone peer fresh before is.0

then-from : {X : Type 0} (fresh : X) (peer : Peer) (before : List (Peer × X)) (value : FlowEnd → X) (end : Option FlowEnd) → lookup (is_peer peer) before ≡ None
    → kept_then (insert_entry peer_cmp before peer fresh) peer value end ≡ kept_then before peer value end
then-from fresh peer before value None none = put_gone peer fresh before none ∙ sym (none_taken peer before none)
then-from fresh peer before value (Some e) none = put_twice peer fresh (value e) before

pub then_placed : {X : Type 0} (fresh : X) (had : Bool) (before after : List (Peer × X)) (peer : Peer) (value : FlowEnd → X) (end : Option FlowEnd)
    → IsPlaced fresh had before after peer → kept_then after peer value end ≡ kept_then before peer value end
then_placed {X} fresh true before after peer value end is = ap (λ (t : List (Peer × X)). kept_then t peer value end) is.1
then_placed {X} fresh false before after peer value end is =
    ap (λ (t : List (Peer × X)). kept_then t peer value end) is.1 ∙ then-from fresh peer before value end is.0

pub taken_back : {X : Type 0} (fresh : X) (had : Bool) (before after : List (Peer × X)) (peer : Peer) → IsPlaced fresh had before after peer
    → (if had then after else remove_entry (is_peer peer) after) ≡ before
taken_back fresh true before after peer is = is.1
taken_back fresh false before after peer is = undone fresh peer before after is
