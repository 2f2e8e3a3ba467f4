-- The calls of an inbox, one by one, and the results (own).
use Rattle.std.specs.Prelude.{◌≡◌, ℕ, ◌≤◌, Bool, true, false, List, [], ◌∷◌, ◌++◌, length, take}
use Rattle.circular_buffer.specs.Buffer.{keep_last}
use Rattle.data_dropped.specs.Drops.{HaveCodes}
use Rattle.data_dropped.specs.Inbox.{InboxState, KeptData, after_arrival, arrival_answer, dropping, empty_inbox, reason, stopping, taking}
use Rattle.data_dropped.specs.declared.answers.Arrival.{Arrival}
use Rattle.data_dropped.specs.declared.answers.Arrival.TheVariants.{Kept, Dropped}
use Rattle.data_dropped.specs.declared.drops.DropEntry.{DropEntry}

-- a call of an inbox: data arrive that an item holds, or longer ones; the first item is taken; the application stops
-- listening
pub data InboxCall : Type 0 where
  DataArrive : (n : ℕ) (payload : List ℕ) → InboxCall
  LongDataArrive : (n : ℕ) → InboxCall
  Takes Stops : InboxCall

-- an inbox, all data that were ever answered Kept and all that were ever taken, in order, and all drops ever, none of
-- which leaves the list
pub record History : Type 0 where
  pub held : InboxState
  pub kept : List KeptData
  pub taken : List KeptData
  pub dropped : List DropEntry

-- before all calls
abbrev pub no_history : ℕ → History
no_history capacity = record { held = empty_inbox capacity; kept = []; taken = []; dropped = [] }

-- the data that this answer keeps
abbrev pub kept_by : Arrival → ℕ → List ℕ → List KeptData
kept_by Kept n payload = record { number = n; payload = payload } ∷ []
kept_by (Dropped code) n payload = []

-- the drop that it reports
abbrev pub dropped_by : Arrival → ℕ → List DropEntry
dropped_by Kept n = []
dropped_by (Dropped code) n = record { number = n; code = code } ∷ []

-- an answer to data: what it says is noted, and the inbox is then this one
abbrev pub history_answered : History → Arrival → ℕ → List ℕ → InboxState → History
history_answered h answer n payload held =
    record { held = held; kept = h.kept ++ kept_by answer n payload; taken = h.taken; dropped = h.dropped ++ dropped_by answer n }

-- after one more call
abbrev pub history_after : History → InboxCall → History
history_after h (DataArrive n payload) = history_answered h (arrival_answer h.held) n payload (after_arrival h.held n payload)
history_after h (LongDataArrive n) = history_answered h (Dropped (reason h.held)) n [] (dropping h.held n)
history_after h Takes = record h { held = taking h.held; taken = h.taken ++ take 1 h.held.items }
history_after h Stops = record h { held = stopping h.held }

-- after these calls, in order
abbrev pub history_after_all : History → List InboxCall → History
history_after_all h [] = h
history_after_all h (call ∷ calls) = history_after_all (history_after h call) calls

-- the application stopped listening by this call
abbrev pub is_stop : InboxCall → Bool
is_stop (DataArrive n payload) = false
is_stop (LongDataArrive n) = false
is_stop Takes = false
is_stop Stops = true

-- What holds after a list of calls: what was kept is what was taken, followed by what is held, whole, once and in order; no more is held than
-- the capacity; whether it was stopped; and the drops that count are the last 2,048 of all, each with a code of three bits.
pub record IsAccounted (capacity : ℕ) (stopped : Bool) (h : History) : Type 0 where
  pub whole : h.kept ≡ h.taken ++ h.held.items
  pub within : length h.held.items ≤ capacity
  pub same_capacity : h.held.capacity ≡ capacity
  pub was_stopped : h.held.stopped ≡ stopped
  pub last_drops : h.held.drops ≡ keep_last 2048 h.dropped
  pub codes : HaveCodes h.dropped
