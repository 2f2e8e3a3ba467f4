-- The tickets of peers: the order in which something is due for what is kept of them (own).
use Rattle.std.specs.Prelude.{◌≡◌, ◌≤◌, ◌<◌, ◌==◌, ◌/◌, ◌%◌, ◌^◌, nat_lt, ℕ, true, false, not, List, [], ◌∷◌, Option, Some, None, T, length, map, if◌then◌else◌}
use Rattle.std.specs.BTreeMap.{is_at}
use Rattle.std.specs.BTreeSet.{insert_key}
use Rattle.std.specs.FinMap.Entries.{is_sorted}
use Rattle.std.specs.Int.{to_be_bytes, w32}
use Rattle.std.specs.List.{filter}
use Rattle.std.specs.List.Sorted.{IsPartitionPoint, IsStrictlySortedBy}
use Rattle.std.specs.Map.{keys_of}
use Rattle.std.specs.Ordering.{nat_cmp, ordering_then}
use Rattle.std.specs.declared.cmp.Ordering.{Ordering}
use Rattle.dccp_listener.specs.Peers.{peer_cmp}
use Rattle.dccp_listener.specs.declared.peer.Peer.{Peer}
use Rattle.server_peers.specs.declared.queue.Ticket.{Ticket}

-- by class, then by time, then by peer
abbrev pub ticket_cmp : Ticket → Ticket → Ordering
ticket_cmp a b = ordering_then (nat_cmp a.class b.class) (ordering_then (nat_cmp a.time b.time) (peer_cmp a.peer b.peer))

-- the ticket of a peer, at a time of a class
abbrev pub ticket : ℕ × ℕ → Peer → Ticket
ticket moment peer = record { class = moment.0; time = moment.1; peer = peer }

-- A number as a ticket: its low 16 bits are the port, then come 32 of the address, 64 of the time, and the class. Numbers are in the order of
-- their tickets.
abbrev pub ticket_at : ℕ → Ticket
ticket_at n =
    record {
      class = n / 2 ^ 48 / 2 ^ 64;
      time = n / 2 ^ 48 % 2 ^ 64;
      peer = record { address = to_be_bytes w32 (n % 2 ^ 48 / 65536); port = n % 2 ^ 48 % 65536 };
    }

-- the tickets of numbers
abbrev pub tickets_at : List ℕ → List Ticket
tickets_at numbers = map ticket_at numbers

-- the queue with the ticket of a peer, if it has a moment
abbrev pub queued : Option (ℕ × ℕ) → Peer → List Ticket → List Ticket
queued None peer queue = queue
queued (Some moment) peer queue = insert_key ticket_cmp queue (ticket moment peer)

-- all tickets except this one
abbrev pub without : Ticket → List Ticket → List Ticket
without it queue = filter (λ other. not (is_at (ticket_cmp it) other)) queue

-- the queue without the ticket of a peer
abbrev pub unqueued : Option (ℕ × ℕ) → Peer → List Ticket → List Ticket
unqueued None peer queue = queue
unqueued (Some moment) peer queue = without (ticket moment peer) queue

-- the tickets of all peers that have a moment, in their order
abbrev pub queue_of : {V : Type 0} → (V → Option (ℕ × ℕ)) → List (Peer × V) → List Ticket
queue_of moment [] = []
queue_of moment (one ∷ rest) = queued (moment one.1) one.0 (queue_of moment rest)

-- the moment of what is kept of a peer, if something is
abbrev pub moment_if : {V : Type 0} → (V → Option (ℕ × ℕ)) → Option V → Option (ℕ × ℕ)
moment_if moment None = None
moment_if moment (Some v) = moment v

-- a ticket, if it is of a class
abbrev pub of_class : ℕ → Ticket → Option Ticket
of_class class it = if it.class == class then Some it else None

-- the first ticket of a class
abbrev pub first_in : ℕ → List Ticket → Option Ticket
first_in class [] = None
first_in class (one ∷ rest) = if one.class == class then Some one else first_in class rest

-- the place before which all tickets are of lower classes, and from which on none is
abbrev pub BeginsAt : ℕ → List Ticket → ℕ → Type 0
BeginsAt class queue i = IsPartitionPoint (λ (it : Ticket). nat_lt it.class class ≡ true) (λ (it : Ticket). nat_lt it.class class ≡ false) queue i

-- how many there are of a class
abbrev pub count_in : ℕ → List Ticket → ℕ
count_in class queue = length (filter (λ it. it.class == class) queue)

-- tickets as the keys of a map without values
abbrev pub paired : {K : Type 0} → List K → List (K × Unit {0})
paired [] = []
paired (one ∷ rest) = (one, tt) ∷ paired rest

-- each ticket comes before those after it
abbrev pub AreTicketsInOrder : List Ticket → Type 0
AreTicketsInOrder queue = T (is_sorted ticket_cmp (paired queue))

-- The queue is that of all that is kept, whose peers are in order; and there is room for a further ticket, unless
-- nothing is kept.
pub record IsQueued {V : Type 0} (moment : V → Option (ℕ × ℕ)) (kept : List (Peer × V)) (queue : List Ticket) (places : ℕ) : Type 0 where
  pub is_queue : queue ≡ queue_of moment kept
  pub ordered : IsStrictlySortedBy peer_cmp (keys_of kept)
  pub room : 1 ≤ length kept → length kept < places
