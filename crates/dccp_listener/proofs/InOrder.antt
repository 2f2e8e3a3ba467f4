-- What a change of a list in the order of peers makes of that order and of what is found there.
use Rattle.std.proofs.Common.{◌≡◌, refl, ap, sym, subst, ◌∙◌, Bool, true, false, cond, List, [], ◌∷◌, Option, Some, Ordering, Less, Equal, Greater, is_eq}
use Rattle.std.proofs.lemmas.Bool.{false≢true}
use Rattle.std.proofs.lemmas.Map.{keys-set_value}
use Rattle.std.specs.BTreeMap.{insert_entry}
use Rattle.std.specs.List.{AllByRecursion}
use Rattle.std.specs.List.Sorted.{IsStrictlySortedBy}
use Rattle.std.specs.Map.{keys_of, lookup, remove_entry, set_value}
use Rattle.std.specs.Ordering.{match_ordering, ordering_reverse}
use Rattle.dccp_listener.specs.Peers.{is_peer, peer_cmp}
use Rattle.dccp_listener.specs.declared.peer.Peer.{Peer}
use Rattle.dccp_listener.proofs.OnePeer.{exact_peers, one_peer, peers_alike, peers_total}

-- each peer comes before those after it
abbrev pub AreSorted : {X : Type 0} → List (Peer × X) → Type 0
AreSorted kept = IsStrictlySortedBy peer_cmp (keys_of kept)

-- what is kept of a peer
abbrev value_of : {X : Type 0} → List (Peer × X) → Peer → Option X
value_of kept peer = lookup (is_peer peer) kept

-- a peer comes before all of these
abbrev pub AllAfter : Peer → List Peer → Type 0
AllAfter peer peers = AllByRecursion (λ other. peer_cmp peer other ≡ Less) peers

pub all_after : (first next : Peer) (peers : List Peer) → peer_cmp first next ≡ Less → AllAfter next peers → AllAfter first peers
all_after first next [] is all = tt
all_after first next (other ∷ peers) is all = (peers_total.trans first next other is all.0, all_after first next peers is all.1)

pub in_order_none : (X : Type 0) → AreSorted {X = X} []
unfolding IsStrictlySortedBy
in_order_none X = tt

-- an entry more stays after a peer
all-insert-by : {X : Type 0} (first peer : Peer) (e : X) (one : Peer × X) (flows : List (Peer × X)) (o : Ordering) → peer_cmp first peer ≡ Less
    → AllAfter first (keys_of (one ∷ flows)) → AllAfter first (keys_of (insert_entry peer_cmp flows peer e))
    → AllAfter first (keys_of (match_ordering o ((peer, e) ∷ one ∷ flows) ((one.0, e) ∷ flows) (one ∷ insert_entry peer_cmp flows peer e)))
all-insert-by first peer e one flows Less is all rest = (is, all)
all-insert-by first peer e one flows Equal is all rest = all
all-insert-by first peer e one flows Greater is all rest = (all.0, rest)

all-insert : {X : Type 0} (first peer : Peer) (e : X) (flows : List (Peer × X)) → peer_cmp first peer ≡ Less → AllAfter first (keys_of flows)
    → AllAfter first (keys_of (insert_entry peer_cmp flows peer e))
all-insert first peer e [] is all = (is, tt)
all-insert first peer e (one ∷ flows) is all =
    all-insert-by first peer e one flows (peer_cmp peer one.0) is all (all-insert first peer e flows is all.1)

in-order-by : {X : Type 0} (peer : Peer) (e : X) (one : Peer × X) (flows : List (Peer × X)) (o : Ordering) → peer_cmp peer one.0 ≡ o
    → AreSorted (one ∷ flows) → AreSorted (insert_entry peer_cmp flows peer e)
    → AreSorted (match_ordering o ((peer, e) ∷ one ∷ flows) ((one.0, e) ∷ flows) (one ∷ insert_entry peer_cmp flows peer e))
unfolding IsStrictlySortedBy
in-order-by peer e one flows Less is ordered rest = ((is, all_after peer one.0 (keys_of flows) is ordered.0), ordered)
in-order-by peer e one flows Equal is ordered rest = ordered
in-order-by peer e one flows Greater is ordered rest =
    (all-insert one.0 peer e flows (peers_total.antisymm one.0 peer ∙ ap ordering_reverse is) ordered.0, rest)

pub in_order_insert : {X : Type 0} (peer : Peer) (e : X) (flows : List (Peer × X)) → AreSorted flows → AreSorted (insert_entry peer_cmp flows peer e)
unfolding IsStrictlySortedBy
in_order_insert peer e [] ordered = (tt, tt)
in_order_insert peer e (one ∷ flows) ordered = in-order-by peer e one flows (peer_cmp peer one.0) refl ordered (in_order_insert peer e flows ordered.1)

-- an entry less
all-remove-by : {X : Type 0} (first : Peer) (test : Peer → Bool) (one : Peer × X) (flows : List (Peer × X)) (here : Bool) → AllAfter first (keys_of (one ∷ flows))
    → AllAfter first (keys_of (remove_entry test flows)) → AllAfter first (keys_of (cond here flows (one ∷ remove_entry test flows)))
all-remove-by first test one flows true all rest = all.1
all-remove-by first test one flows false all rest = (all.0, rest)

all-remove : {X : Type 0} (first : Peer) (test : Peer → Bool) (flows : List (Peer × X)) → AllAfter first (keys_of flows) → AllAfter first (keys_of (remove_entry test flows))
all-remove first test [] all = tt
all-remove first test (one ∷ flows) all = all-remove-by first test one flows (test one.0) all (all-remove first test flows all.1)

in-order-remove-by : {X : Type 0} (test : Peer → Bool) (one : Peer × X) (flows : List (Peer × X)) (here : Bool) → AreSorted (one ∷ flows)
    → AreSorted (remove_entry test flows) → AreSorted (cond here flows (one ∷ remove_entry test flows))
unfolding IsStrictlySortedBy
in-order-remove-by test one flows true ordered rest = ordered.1
in-order-remove-by test one flows false ordered rest = (all-remove one.0 test flows ordered.0, rest)

pub in_order_remove : {X : Type 0} (test : Peer → Bool) (flows : List (Peer × X)) → AreSorted flows → AreSorted (remove_entry test flows)
unfolding IsStrictlySortedBy
in_order_remove test [] ordered = tt
in_order_remove test (one ∷ flows) ordered = in-order-remove-by test one flows (test one.0) ordered (in_order_remove test flows ordered.1)

pub in_order_set : {X : Type 0} (test : Peer → Bool) (flows : List (Peer × X)) (e : X) → AreSorted flows → AreSorted (set_value test flows e)
in_order_set test flows e ordered = subst (λ (peers : List Peer). IsStrictlySortedBy peer_cmp peers) (sym (keys-set_value test flows e)) ordered

-- what is found once a peer has an end
same-first : {X : Type 0} (here : Bool) (e : X) (other rest : Option X) → cond here (Some e) rest ≡ cond here (Some e) (cond here other rest)
same-first true e other rest = refl
same-first false e other rest = refl

in-turn : {X : Type 0} (here there : Bool) (e f : X) (rest : Option X) → (here ≡ true → there ≡ true → ⊥)
    → cond here (Some f) (cond there (Some e) rest) ≡ cond there (Some e) (cond here (Some f) rest)
in-turn true true e f rest apart = absurd (apart refl refl)
in-turn true false e f rest apart = refl
in-turn false there e f rest apart = refl

greater-apart : (q peer other : Peer) → peer_cmp peer other ≡ Greater → is_peer q other ≡ true → is_peer q peer ≡ true → ⊥
greater-apart q peer other is there here =
    let one : peer ≡ other = sym (one_peer q peer here) ∙ one_peer q other there in
    let self : is_peer peer peer ≡ true = peers_alike.refl peer in
    let not : is_peer peer other ≡ false = ap is_eq is in
    false≢true (sym not ∙ ap (λ (p : Peer). is_peer peer p) (sym one) ∙ self)

found-by : {X : Type 0} (q peer : Peer) (e : X) (one : Peer × X) (flows : List (Peer × X)) (o : Ordering) → peer_cmp peer one.0 ≡ o
    → value_of (insert_entry peer_cmp flows peer e) q ≡ cond (is_peer q peer) (Some e) (value_of flows q)
    → value_of (match_ordering o ((peer, e) ∷ one ∷ flows) ((one.0, e) ∷ flows) (one ∷ insert_entry peer_cmp flows peer e)) q
    ≡ cond (is_peer q peer) (Some e) (value_of (one ∷ flows) q)
found-by q peer e one flows Less is rest = refl
found-by q peer e one flows Equal is rest =
    same-first (is_peer q one.0) e (Some one.1) (value_of flows q)
    ∙ ap (λ (p : Peer). cond (is_peer q p) (Some e) (cond (is_peer q one.0) (Some one.1) (value_of flows q))) (sym (exact_peers peer one.0 is))
found-by q peer e one flows Greater is rest =
    ap (cond (is_peer q one.0) (Some one.1)) rest
    ∙ in-turn (is_peer q one.0) (is_peer q peer) e one.1 (value_of flows q) (greater-apart q peer one.0 is)

found-so : {X : Type 0} (q peer : Peer) (e : X) (flows : List (Peer × X))
    → value_of (insert_entry peer_cmp flows peer e) q ≡ cond (is_peer q peer) (Some e) (value_of flows q)
found-so q peer e [] = refl
found-so q peer e (one ∷ flows) = found-by q peer e one flows (peer_cmp peer one.0) refl (found-so q peer e flows)

pub found_insert : {X : Type 0} (q peer : Peer) (e : X) (flows : List (Peer × X))
    → value_of (insert_entry peer_cmp flows peer e) q ≡ cond (is_peer peer q) (Some e) (value_of flows q)
found_insert q peer e flows = found-so q peer e flows ∙ ap (λ (b : Bool). cond b (Some e) (value_of flows q)) (peers_alike.symm q peer)

pub own_insert : {X : Type 0} (peer : Peer) (e : X) (flows : List (Peer × X)) → value_of (insert_entry peer_cmp flows peer e) peer ≡ Some e
own_insert peer e flows = found_insert peer peer e flows ∙ ap (λ (b : Bool). cond b (Some e) (value_of flows peer)) (peers_alike.refl peer)
