-- A bounded inbox: the data that it holds, what was dropped, and whether the application still listens (own; RFC 4340,
-- sections 11.6 and 11.7).
use Rattle.std.specs.Prelude.{◌≡◌, ℕ, ◌*◌, ◌≤◌, nat_le, nat_lt, not, ◌&&◌, Bool, true, false, List, [], ◌∷◌, ◌++◌, length, drop, Option, Some, None, if◌then◌else◌}
use Rattle.circular_buffer.specs.Buffer.{Buffer, keep_last}
use Rattle.data_dropped.specs.Drops.{HaveCodes}
use Rattle.data_dropped.specs.declared.answers.Arrival.{Arrival}
use Rattle.data_dropped.specs.declared.answers.Arrival.TheVariants.{Kept, Dropped}
use Rattle.data_dropped.specs.declared.drops.DropEntry.{DropEntry}

-- the data of a packet under its number
pub record KeptData : Type 0 where
  pub number : ℕ
  pub payload : List ℕ

-- The data that are held, the oldest first; the last 2,048 drops, the oldest first; whether the application has stopped
-- listening; how many items may be held; and how many bytes an item may have.
pub record InboxState : Type 0 where
  pub items : List KeptData
  pub drops : List DropEntry
  pub stopped : Bool
  pub capacity : ℕ
  pub most : ℕ

-- an inbox for this many items of up to this many bytes, before any call
abbrev pub inbox_of : ℕ → ℕ → InboxState
inbox_of most capacity = record { items = []; drops = []; stopped = false; capacity = capacity; most = most }

-- an inbox of this capacity whose items have up to 1,024 bytes, as many as an end sends at once (own)
abbrev pub empty_inbox : ℕ → InboxState
empty_inbox capacity = inbox_of 1024 capacity

-- What always holds of an inbox: its capacity is 1 to 1,024 items, and it holds no more; it has room for 2,048 drops,
-- each with a Drop Code of three bits; and an item has no more bytes than a datagram brings.
pub record IsInbox (items : Buffer KeptData) (drops : Buffer DropEntry) (most : ℕ) : Type 0 where
  pub within : length items.items ≤ items.capacity
  pub some : 1 ≤ items.capacity
  pub few : items.capacity ≤ 1024
  pub room : drops.capacity ≡ 2048
  pub codes : HaveCodes drops.items
  pub short : most ≤ 2032

-- there is room for one item more, and the application listens
abbrev pub takes_more : InboxState → Bool
takes_more held = not held.stopped && nat_lt (length held.items) held.capacity

-- Drop Code 1: the application is no longer listening (RFC 4340, section 11.7)
abbrev pub not_listening : ℕ
not_listening = 1

-- Drop Code 2: the receive buffer is full
abbrev pub buffer_full : ℕ
buffer_full = 2

-- why data are dropped now
abbrev pub reason : InboxState → ℕ
reason held = if held.stopped then not_listening else buffer_full

-- the inbox with one more item, after the others
abbrev pub keeping : InboxState → ℕ → List ℕ → InboxState
keeping held n payload = record held { items = held.items ++ record { number = n; payload = payload } ∷ [] }

-- the inbox with one more drop; of all drops the last 2,048 count (own)
abbrev pub dropping : InboxState → ℕ → InboxState
dropping held n = record held { drops = keep_last 2048 (held.drops ++ record { number = n; code = reason held } ∷ []) }

-- data of this number that arrived, by whether there is room
abbrev pub held_if : Bool → InboxState → ℕ → List ℕ → InboxState
held_if true held n payload = keeping held n payload
held_if false held n payload = dropping held n

-- what is answered to data, by whether there is room
abbrev pub answer_if : Bool → InboxState → Arrival
answer_if true held = Kept
answer_if false held = Dropped (reason held)

-- the inbox once data arrived that an item holds
abbrev pub after_arrival : InboxState → ℕ → List ℕ → InboxState
after_arrival held n payload = held_if (takes_more held) held n payload

-- what it answers to them
abbrev pub arrival_answer : InboxState → Arrival
arrival_answer held = answer_if (takes_more held) held

-- the data fit an item
abbrev pub fits_item : InboxState → List ℕ → Bool
fits_item held payload = nat_le (length payload) held.most

-- the number and the length of the first item
abbrev pub first_taken : List KeptData → Option (ℕ × ℕ)
first_taken [] = None
first_taken (item ∷ items) = Some (item.number, length item.payload)

-- the first item's data over the front of these bytes
abbrev pub first_over : List KeptData → List ℕ → List ℕ
first_over [] old = old
first_over (item ∷ items) old = item.payload ++ drop (length item.payload) old

-- the inbox without its first item
abbrev pub taking : InboxState → InboxState
taking held = record held { items = drop 1 held.items }

-- the application has stopped listening
abbrev pub stopping : InboxState → InboxState
stopping held = record held { stopped = true }

-- three quarters of the room are taken (own; RFC 4340, section 11.6, lets the receiver decide when it is slow)
abbrev pub is_slow : InboxState → Bool
is_slow held = nat_le (3 * held.capacity) (4 * length held.items)
