-- The queue of tickets goes on with what is kept of a peer.
use Rattle.std.proofs.Common.{◌≡◌, refl, sym, ap, ◌∙◌, subst, ℕ, ◌+◌, ◌≤◌, ◌<◌, Bool, true, false, cond, not, T, List, [], ◌∷◌, length, Option, Some, None, is_some, OnSome, Ordering, Less, Equal, Greater, is_eq, nat_cmp, arith}
use Rattle.std.proofs.lemmas.Bool.{false≢true}
use Rattle.std.proofs.lemmas.Cmp.{alike_right, eq_by_cmp_equiv, nat_cmp_total, on_total, then_total}
use Rattle.std.proofs.lemmas.Map.Made.{is_some-lookup}
use Rattle.std.proofs.lemmas.Map.Lookups.{CmpEqualImpliesEq, exact_pairs, exact_unsigned}
use Rattle.std.specs.BTreeMap.{is_at}
use Rattle.std.specs.Cmp.{IsEquivalence, IsTotalOrder}
use Rattle.std.specs.FinMap.Entries.{find, find-put, find-where_key, is_sorted, is_sorted-put, is_sorted-where_key, same_entries}
use Rattle.std.specs.List.{filter}
use Rattle.std.specs.List.Sorted.{IsStrictlySortedBy}
use Rattle.std.specs.Map.{keys_of, lookup}
use Rattle.std.specs.Ordering.{eq_by_cmp, match_ordering, ordering_then}
use Rattle.std.specs.BTreeSet.{insert_key}
use Rattle.server_peers.proofs.Ordered.{filter_paired, put_paired, same_paired}
use Rattle.dccp_listener.proofs.OnePeer.{exact_peers, one_peer, peers_alike, peers_total}
use Rattle.server_peers.proofs.Among.{none_from, not_among}
use Rattle.dccp_listener.specs.Peers.{is_peer, peer_cmp}
use Rattle.server_peers.specs.Queues.{AreTicketsInOrder, IsQueued, moment_if, paired, queue_of, queued, ticket, ticket_cmp, unqueued, without}
use Rattle.dccp_listener.specs.declared.peer.Peer.{Peer}
use Rattle.server_peers.specs.declared.queue.Ticket.{Ticket}

pub exact_tickets : CmpEqualImpliesEq ticket_cmp
exact_tickets a b h =
    ap (λ (p : ℕ × (ℕ × Peer)). record { class = p.0; time = p.1.0; peer = p.1.1 })
    (exact_pairs nat_cmp (λ (x y : ℕ × Peer). ordering_then (nat_cmp x.0 y.0) (peer_cmp x.1 y.1)) exact_unsigned
    (exact_pairs nat_cmp peer_cmp exact_unsigned exact_peers) (a.class, (a.time, a.peer)) (b.class, (b.time, b.peer)) h)

pub tickets_total : IsTotalOrder ticket_cmp
tickets_total =
    then_total (on_total (λ (t : Ticket). t.class) nat_cmp_total)
    (then_total (on_total (λ (t : Ticket). t.time) nat_cmp_total) (on_total (λ (t : Ticket). t.peer) peers_total))

tickets-alike : IsEquivalence (eq_by_cmp ticket_cmp)
tickets-alike = eq_by_cmp_equiv tickets_total

-- tickets of two peers are two

then-apart : (x z : Ordering) → is_eq z ≡ false → is_eq (ordering_then x z) ≡ false
then-apart Less z is = refl
then-apart Equal z is = is
then-apart Greater z is = refl

apart : (a b : Ticket) → is_peer a.peer b.peer ≡ false → is_eq (ticket_cmp a b) ≡ false
apart a b is = then-apart (nat_cmp a.class b.class) (ordering_then (nat_cmp a.time b.time) (peer_cmp a.peer b.peer)) (then-apart (nat_cmp a.time b.time) (peer_cmp a.peer b.peer) is)

-- which tickets are in a queue

abbrev pub found : Ticket → List Ticket → Option (Unit {0})
found q queue = find ticket_cmp q (paired queue)

abbrev pub stands : Option (ℕ × ℕ) → Ticket → Option (Unit {0})
stands None q = None
stands (Some moment) q = cond (is_eq (ticket_cmp q (ticket moment q.peer))) (Some tt) None

module _ (q : Ticket) (peer : Peer) (queue : List Ticket) where
  put-found : (moment : ℕ × ℕ) → found q (insert_key ticket_cmp queue (ticket moment peer)) ≡ cond (is_eq (ticket_cmp q (ticket moment peer))) (Some tt) (found q queue)
  put-found moment =
      ap (λ (l : List (Ticket × Unit {0})). find ticket_cmp q l) (put_paired ticket_cmp (ticket moment peer) queue)
      ∙ find-put ticket_cmp tickets_total q (ticket moment peer) tt (paired queue)

  without-found : (moment : ℕ × ℕ) → found q (without (ticket moment peer) queue) ≡ cond (not (is_eq (ticket_cmp (ticket moment peer) q))) (found q queue) None
  without-found moment =
      ap (λ (l : List (Ticket × Unit {0})). find ticket_cmp q l) (filter_paired ticket_cmp (λ other. not (is_at (ticket_cmp (ticket moment peer)) other)) queue)
      ∙ find-where_key ticket_cmp (λ other. not (is_at (ticket_cmp (ticket moment peer)) other)) q
      (λ x same. ap (λ (o : Ordering). not (is_eq o)) (sym (alike_right tickets_total q x (ticket moment peer) same))) (paired queue)

  queued-found : (moment : Option (ℕ × ℕ)) → q.peer ≡ peer → found q queue ≡ None → found q (queued moment peer queue) ≡ stands moment q
  queued-found None is none = none
  queued-found (Some moment) is none =
      put-found moment ∙ ap (λ (x : Option (Unit {0})). cond (is_eq (ticket_cmp q (ticket moment peer))) (Some tt) x) none
      ∙ ap (λ (p : Peer). cond (is_eq (ticket_cmp q (ticket moment p))) (Some tt) None) (sym is)

  queued-passed : (moment : Option (ℕ × ℕ)) → is_peer q.peer peer ≡ false → found q (queued moment peer queue) ≡ found q queue
  queued-passed None is = refl
  queued-passed (Some moment) is = put-found moment ∙ ap (λ (b : Bool). cond b (Some tt) (found q queue)) (apart q (ticket moment peer) is)

  taken-by : (b : Bool) → cond (not b) (cond b (Some tt) (stands None q)) (stands None q) ≡ stands None q
  taken-by true = refl
  taken-by false = refl

  unqueued-found : (moment : Option (ℕ × ℕ)) → q.peer ≡ peer → found q queue ≡ stands moment q → found q (unqueued moment peer queue) ≡ None
  unqueued-found None is there = there
  unqueued-found (Some moment) is there =
      let same : is_eq (ticket_cmp q (ticket moment q.peer)) ≡ is_eq (ticket_cmp (ticket moment peer) q) =
      ap (λ (p : Peer). is_eq (ticket_cmp q (ticket moment p))) is ∙ tickets-alike.symm q (ticket moment peer)
      in
      without-found moment
      ∙ ap (λ (x : Option (Unit {0})). cond (not (is_eq (ticket_cmp (ticket moment peer) q))) x None) (there ∙ ap (λ (b : Bool). cond b (Some tt) None) same)
      ∙ taken-by (is_eq (ticket_cmp (ticket moment peer) q))

  unqueued-passed : (moment : Option (ℕ × ℕ)) → is_peer q.peer peer ≡ false → found q (unqueued moment peer queue) ≡ found q queue
  unqueued-passed None is = refl
  unqueued-passed (Some moment) is =
      without-found moment
      ∙ ap (λ (b : Bool). cond (not b) (found q queue) None) (apart (ticket moment peer) q (peers_alike.symm peer q.peer ∙ is))

-- the queue stays in order

pub queued_ordered : (moment : Option (ℕ × ℕ)) (peer : Peer) (queue : List Ticket) → AreTicketsInOrder queue → AreTicketsInOrder (queued moment peer queue)
queued_ordered None peer queue is = is
queued_ordered (Some moment) peer queue is =
    subst (λ (l : List (Ticket × Unit {0})). T (is_sorted ticket_cmp l)) (sym (put_paired ticket_cmp (ticket moment peer) queue))
    (is_sorted-put ticket_cmp tickets_total (ticket moment peer) tt (paired queue) is)

pub without_ordered : (it : Ticket) (queue : List Ticket) → AreTicketsInOrder queue → AreTicketsInOrder (without it queue)
without_ordered it queue is =
    subst (λ (l : List (Ticket × Unit {0})). T (is_sorted ticket_cmp l)) (sym (filter_paired ticket_cmp (λ other. not (is_at (ticket_cmp it) other)) queue))
    (is_sorted-where_key ticket_cmp (λ other. not (is_at (ticket_cmp it) other)) (paired queue) is)

pub unqueued_ordered : (moment : Option (ℕ × ℕ)) (peer : Peer) (queue : List Ticket) → AreTicketsInOrder queue → AreTicketsInOrder (unqueued moment peer queue)
unqueued_ordered None peer queue is = is
unqueued_ordered (Some moment) peer queue is = without_ordered (ticket moment peer) queue is

module _ {V : Type 0} (moment : V → Option (ℕ × ℕ)) where
  pub queue_ordered : (kept : List (Peer × V)) → AreTicketsInOrder (queue_of moment kept)
  queue_ordered [] = tt
  queue_ordered (one ∷ rest) = queued_ordered (moment one.1) one.0 (queue_of moment rest) (queue_ordered rest)

  -- whose tickets are in it

  none-after : (q : Peer) (one : Peer × V) (rest : List (Peer × V)) → IsStrictlySortedBy peer_cmp (keys_of (one ∷ rest)) → is_peer q one.0 ≡ true
      → lookup (is_peer q) rest ≡ None
  unfolding IsStrictlySortedBy
  none-after q one rest ordered is =
      ap (λ (p : Peer). lookup (is_peer p) rest) (one_peer q one.0 is)
      ∙ none_from (lookup (is_peer one.0) rest) (is_some-lookup (is_peer one.0) rest ∙ not_among one.0 (keys_of rest) ordered.0)

  tail-ordered : (one : Peer × V) (rest : List (Peer × V)) → IsStrictlySortedBy peer_cmp (keys_of (one ∷ rest)) → IsStrictlySortedBy peer_cmp (keys_of rest)
  unfolding IsStrictlySortedBy
  tail-ordered one rest ordered = ordered.1

  its-by : (one : Peer × V) (rest : List (Peer × V)) (q : Ticket) → IsStrictlySortedBy peer_cmp (keys_of (one ∷ rest)) → (here : Bool) → is_peer q.peer one.0 ≡ here
      → found q (queue_of moment rest) ≡ stands (moment_if moment (lookup (is_peer q.peer) rest)) q
      → found q (queued (moment one.1) one.0 (queue_of moment rest)) ≡ stands (moment_if moment (cond here (Some one.1) (lookup (is_peer q.peer) rest))) q
  its-by one rest q ordered true is later =
      queued-found q one.0 (queue_of moment rest) (moment one.1) (one_peer q.peer one.0 is)
      (later ∙ ap (λ (x : Option V). stands (moment_if moment x) q) (none-after q.peer one rest ordered is))
  its-by one rest q ordered false is later = queued-passed q one.0 (queue_of moment rest) (moment one.1) is ∙ later

  pub its_ticket : (kept : List (Peer × V)) (q : Ticket) → IsStrictlySortedBy peer_cmp (keys_of kept)
      → found q (queue_of moment kept) ≡ stands (moment_if moment (lookup (is_peer q.peer) kept)) q
  its_ticket [] q ordered = refl
  its_ticket (one ∷ rest) q ordered =
      its-by one rest q ordered (is_peer q.peer one.0) refl (its_ticket rest q (tail-ordered one rest ordered))

  module _ (kept after : List (Peer × V)) (peer : Peer) (was next : Option V) where
    goes-by : (q : Ticket) (here : Bool) → is_peer peer q.peer ≡ here → lookup (is_peer peer) kept ≡ was
        → found q (queue_of moment kept) ≡ stands (moment_if moment (lookup (is_peer q.peer) kept)) q
        → stands (moment_if moment (cond here next (lookup (is_peer q.peer) kept))) q
        ≡ found q (queued (moment_if moment next) peer (unqueued (moment_if moment was) peer (queue_of moment kept)))
    goes-by q true is had there =
        let same : q.peer ≡ peer = sym (one_peer peer q.peer is) in
        sym (queued-found q peer (unqueued (moment_if moment was) peer (queue_of moment kept)) (moment_if moment next) same
        (unqueued-found q peer (queue_of moment kept) (moment_if moment was) same
        (there ∙ ap (λ (p : Peer). stands (moment_if moment (lookup (is_peer p) kept)) q) same ∙ ap (λ (x : Option V). stands (moment_if moment x) q) had)))
    goes-by q false is had there =
        let two : is_peer q.peer peer ≡ false = peers_alike.symm q.peer peer ∙ is in
        sym there
        ∙ sym (queued-passed q peer (unqueued (moment_if moment was) peer (queue_of moment kept)) (moment_if moment next) two
        ∙ unqueued-passed q peer (queue_of moment kept) (moment_if moment was) two)

    -- The queue of what is kept, once that of one peer is another.
    pub requeued : IsStrictlySortedBy peer_cmp (keys_of kept) → IsStrictlySortedBy peer_cmp (keys_of after) → lookup (is_peer peer) kept ≡ was
        → ((q : Peer) → lookup (is_peer q) after ≡ cond (is_peer peer q) next (lookup (is_peer q) kept))
        → queue_of moment after ≡ queued (moment_if moment next) peer (unqueued (moment_if moment was) peer (queue_of moment kept))
    requeued ordered then-ordered had up =
        same_paired (queue_of moment after) (queued (moment_if moment next) peer (unqueued (moment_if moment was) peer (queue_of moment kept)))
        (same_entries ticket_cmp tickets_total exact_tickets (paired (queue_of moment after))
        (paired (queued (moment_if moment next) peer (unqueued (moment_if moment was) peer (queue_of moment kept))))
        (queue_ordered after)
        (queued_ordered (moment_if moment next) peer (unqueued (moment_if moment was) peer (queue_of moment kept))
        (unqueued_ordered (moment_if moment was) peer (queue_of moment kept) (queue_ordered kept)))
        (λ q. its_ticket after q then-ordered ∙ ap (λ (x : Option V). stands (moment_if moment x) q) (up q.peer)
        ∙ goes-by q (is_peer peer q.peer) refl had (its_ticket kept q ordered)))

  -- there are no more tickets than peers
  few-by : (it : Ticket) (one : Ticket) (rest : List Ticket) (o : Ordering) → length (insert_key ticket_cmp rest it) ≤ length rest + 1
      → length (match_ordering o (it ∷ one ∷ rest) (one ∷ rest) (one ∷ insert_key ticket_cmp rest it)) ≤ length (one ∷ rest) + 1
  few-by it one rest Less later = omega arith
  few-by it one rest Equal later = omega arith
  few-by it one rest Greater later = omega (arith, later)

  few-put : (it : Ticket) (queue : List Ticket) → length (insert_key ticket_cmp queue it) ≤ length queue + 1
  few-put it [] = omega arith
  few-put it (one ∷ rest) = few-by it one rest (ticket_cmp it one) (few-put it rest)

  few-queued : (at : Option (ℕ × ℕ)) (peer : Peer) (queue : List Ticket) → length (queued at peer queue) ≤ length queue + 1
  few-queued None peer queue = omega arith
  few-queued (Some at) peer queue = few-put (ticket at peer) queue

  pub no_more : (kept : List (Peer × V)) → length (queue_of moment kept) ≤ length kept
  no_more [] = omega arith
  no_more (one ∷ rest) = omega (arith, few-queued (moment one.1) one.0 (queue_of moment rest), no_more rest)

few-kept : (p : Ticket → Bool) (one : Ticket) (rest : List Ticket) (b : Bool) → length (filter p rest) ≤ length rest
    → length (cond b (one ∷ filter p rest) (filter p rest)) ≤ length (one ∷ rest)
few-kept p one rest true later = omega (arith, later)
few-kept p one rest false later = omega (arith, later)

pub few_left : (p : Ticket → Bool) (queue : List Ticket) → length (filter p queue) ≤ length queue
few_left p [] = omega arith
few_left p (one ∷ rest) = few-kept p one rest (p one) (few_left p rest)

-- The queue is that of what is kept, once what is kept of one peer is another and its ticket has moved.
pub goes_on : {V : Type 0} (moment : V → Option (ℕ × ℕ)) (kept after : List (Peer × V)) (queue moved : List Ticket) (room more : ℕ) (peer : Peer) (was next : Option V)
    → IsQueued moment kept queue room → IsStrictlySortedBy peer_cmp (keys_of after) → lookup (is_peer peer) kept ≡ was
    → ((q : Peer) → lookup (is_peer q) after ≡ cond (is_peer peer q) next (lookup (is_peer q) kept))
    → moved ≡ queued (moment_if moment next) peer (unqueued (moment_if moment was) peer queue)
    → (1 ≤ length after → length after < more) → IsQueued moment after moved more
goes_on moment kept after queue moved room more peer was next is ordered had up moves enough =
    record {
      is_queue =
          moves ∙ ap (λ (q : List Ticket). queued (moment_if moment next) peer (unqueued (moment_if moment was) peer q)) is.is_queue
          ∙ sym (requeued moment kept after peer was next is.ordered ordered had up);
      ordered = ordered;
      room = enough;
    }

module _ {V : Type 0} (moment : V → Option (ℕ × ℕ)) (kept : List (Peer × V)) (peer : Peer) (was : V) (had : lookup (is_peer peer) kept ≡ Some was) where
  itself-by : (q : Peer) (here : Bool) → is_peer peer q ≡ here → lookup (is_peer q) kept ≡ cond here (Some was) (lookup (is_peer q) kept)
  itself-by q true is = ap (λ (p : Peer). lookup (is_peer p) kept) (sym (one_peer peer q is)) ∙ had
  itself-by q false is = refl

  -- The queue stays where what is kept of one peer is another of the same moment.
  pub goes_on_as_it_is : (after : List (Peer × V)) (queue : List Ticket) (room : ℕ) (next : V) → IsQueued moment kept queue room
      → IsStrictlySortedBy peer_cmp (keys_of after) → ((q : Peer) → lookup (is_peer q) after ≡ cond (is_peer peer q) (Some next) (lookup (is_peer q) kept))
      → moment was ≡ moment next → (1 ≤ length after → length after < room) → IsQueued moment after queue room
  goes_on_as_it_is after queue room next is ordered up same enough =
      goes_on moment kept after queue queue room room peer (Some was) (Some next) is ordered had up
      (is.is_queue ∙ requeued moment kept kept peer (Some was) (Some was) is.ordered is.ordered had (λ q. itself-by q (is_peer peer q) refl)
      ∙ ap (λ (m : Option (ℕ × ℕ)). queued m peer (unqueued (moment was) peer (queue_of moment kept))) same
      ∙ ap (λ (l : List Ticket). queued (moment next) peer (unqueued (moment was) peer l)) (sym is.is_queue))
      enough

pub if_some : {X P : Type 0} (x : Option X) → P → OnSome x P
if_some None is = tt
if_some (Some x) is = is

-- what is kept of a peer is something
pub is_some_kept : {V : Type 0} (peer : Peer) (kept : List (Peer × V)) → is_some (lookup (is_peer peer) kept) ≡ true → 1 ≤ length kept
is_some_kept peer [] is = absurd (false≢true is)
is_some_kept peer (one ∷ rest) is = omega arith

-- there is room for its ticket
pub has_room : {V : Type 0} (moment : V → Option (ℕ × ℕ)) (kept : List (Peer × V)) (queue : List Ticket) (room : ℕ) → IsQueued moment kept queue room → 1 ≤ length kept
    → length queue < room
has_room moment kept queue room is some = omega (arith, ap (λ (q : List Ticket). length q) is.is_queue, no_more moment kept, is.room some)

pub stays_ordered : {V : Type 0} (moment : V → Option (ℕ × ℕ)) (kept : List (Peer × V)) (queue : List Ticket) (room : ℕ) → IsQueued moment kept queue room
    → AreTicketsInOrder queue
stays_ordered moment kept queue room is = subst AreTicketsInOrder (sym is.is_queue) (queue_ordered moment kept)
