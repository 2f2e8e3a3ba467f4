-- Worked calls of an inbox, one after another, each with its result, computed from the definitions. The bytes of a report follow RFC 4340,
-- section 11.7, and were worked out by hand.
use Rattle.std.proofs.Common.{◌≡◌, refl, ℕ, ◌+◌, ◌-◌, zero, suc, Bool, true, false, List, [], ◌∷◌, ◌++◌, replicate, length, drop, map, Option, None, Some, codes}
use Rattle.data_dropped.specs.Drops.{code_table, drop_byte, drop_bytes, drop_code, most_numbers, tells_all}
use Rattle.data_dropped.specs.EndHistory.{EndCalls, EndReceives, EndStops, EndTakes, is_end_stop}
use Rattle.data_dropped.specs.History.{DataArrive, LongDataArrive, Stops, Takes, is_stop}
use Rattle.data_dropped.specs.Intakes.{count_held, first_read, intake_of, most_said, read_over}
use Rattle.dccp_endpoint.specs.Inputs.{Input}
use Rattle.data_dropped.specs.Inbox.{InboxState, KeptData, after_arrival, arrival_answer, dropping, empty_inbox, first_over, first_taken, fits_item, inbox_of, is_slow, reason, stopping, taking}
use Rattle.data_dropped.specs.declared.answers.Arrival.{Arrival}
use Rattle.data_dropped.specs.declared.answers.Arrival.TheVariants.{Kept, Dropped}
use Rattle.data_dropped.specs.declared.drops.DropEntry.{DropEntry}

-- A call: data arrive under a number, or longer ones than an inbox takes; this many arrive, each a step above the last, and are dropped with one
-- code; an item is taken; the application stops; whether it is slow; and the report at a number.
data Call : Type 0 where
  Arrive : (number : ℕ) (payload : List ℕ) → Call
  Long : (number : ℕ) → Call
  ArriveEach : (first count step : ℕ) → Call
  Take : Call
  Stop : Call
  Slow : Call
  Write : (ack : ℕ) → Call

-- What comes of it. Of a report: its bytes, and whether they are whole.
data Answer : Type 0 where
  Came : (arrival : Arrival) → Answer
  TookOver : (number count : ℕ) (array : List ℕ) → Answer
  TookNone : Answer
  Stopped : Answer
  IsSlow : Bool → Answer
  Wrote : (bytes : List ℕ) (whole : Bool) → Answer

-- this many arrive, each a step above the last
abbrev each : InboxState → ℕ → ℕ → ℕ → InboxState
each held first zero step = held
each held first (suc count) step = each (after_arrival held first []) (first + step) count step

-- this many bytes of an array of 8 times 238, of which the first are these
abbrev over : List ℕ → List ℕ
over payload = payload ++ replicate (8 - length payload) 238

-- the first item, laid over such an array: the rest of it stays
abbrev taken : List KeptData → Option (ℕ × ℕ) → Answer
taken items None = TookNone
taken items (Some (number, count)) = TookOver number count (first_over items (over []))

-- the inbox after a call, and what comes of it
abbrev after : InboxState → Call → InboxState
after held (Arrive number payload) = after_arrival held number payload
after held (Long number) = dropping held number
after held (ArriveEach first count step) = each held first count step
after held Take = taking held
after held Stop = stopping held
after held Slow = held
after held (Write ack) = held

-- this many times a number without a drop and one with
abbrev in_turn : ℕ → List ℕ
in_turn zero = []
in_turn (suc count) = 0 ∷ 160 ∷ in_turn count

abbrev answer : InboxState → Call → Answer
answer held (Arrive number payload) = Came (arrival_answer held)
answer held (Long number) = Came (Dropped (reason held))
answer held (ArriveEach first count step) = Came (arrival_answer held)
answer held Take = taken held.items (first_taken held.items)
answer held Stop = Stopped
answer held Slow = IsSlow (is_slow held)
answer held (Write ack) = Wrote (drop_bytes held.drops ack) (tells_all held.drops ack)

abbrev answers : InboxState → List Call → List Answer
answers held [] = []
answers held (call ∷ rest) = answer held call ∷ answers (after held call) rest

-- calls of a new inbox of this many places have these answers
abbrev Comes : ℕ → List (Call × Answer) → Type 0
Comes capacity rows = answers (empty_inbox capacity) (map (λ row. row.0) rows) ≡ map (λ row. row.1) rows

-- 1 and 2 are held, and 3 to 19 dropped: 20 without a drop, and then 17 numbers with code 2.
drop_report :
    Comes 2
    ((Arrive 1 (codes "a"), Came Kept)
    ∷ (Arrive 2 (codes "b"), Came Kept)
    ∷ (ArriveEach 3 17 1, Came (Dropped 2))
    ∷ (Write 20, Wrote (0 ∷ 175 ∷ 160 ∷ []) true)
    ∷ (Slow, IsSlow true)
    ∷ (Take, TookOver 1 1 (over (codes "a")))
    ∷ (Take, TookOver 2 1 (over (codes "b")))
    ∷ (Slow, IsSlow false)
    ∷ (Write 20, Wrote (0 ∷ 175 ∷ 160 ∷ []) true)
    ∷ [])
unfolding code_table
drop_report = refl

-- What is held stays when the application stops, and can still be taken; what arrives then is dropped with 1, room or
-- not. The later drop of 7 counts. Neither a report below the drops nor one that they are out of reach of has a byte.
a_stopped_inbox :
    Comes 2
    ((Take, TookNone)
    ∷ (Arrive 5 [], Came Kept)
    ∷ (Arrive 6 (codes "kept"), Came Kept)
    ∷ (Arrive 7 (codes "no room"), Came (Dropped 2))
    ∷ (Write 7, Wrote (160 ∷ []) true)
    ∷ (Stop, Stopped)
    ∷ (Take, TookOver 5 0 (over []))
    ∷ (Arrive 7 (codes "again"), Came (Dropped 1))
    ∷ (Write 7, Wrote (144 ∷ []) true)
    ∷ (Long 8, Came (Dropped 1))
    ∷ (Write 8, Wrote (145 ∷ []) true)
    ∷ (Write 6, Wrote [] true)
    ∷ (Take, TookOver 6 4 (over (codes "kept")))
    ∷ (Take, TookNone)
    ∷ [])
unfolding code_table
a_stopped_inbox = refl

-- An inbox that is full and stopped is slow, and drops with 1, what is too long too.
a_full_and_stopped_inbox :
    Comes 1
    ((Arrive 1 (codes "a"), Came Kept)
    ∷ (Slow, IsSlow true)
    ∷ (Stop, Stopped)
    ∷ (Slow, IsSlow true)
    ∷ (Arrive 2 (codes "b"), Came (Dropped 1))
    ∷ (Long 3, Came (Dropped 1))
    ∷ (Write 3, Wrote (145 ∷ []) true)
    ∷ (Take, TookOver 1 1 (over (codes "a")))
    ∷ (Slow, IsSlow false)
    ∷ [])
unfolding code_table
a_full_and_stopped_inbox = refl

-- Three of four are slow, and long data are dropped though there is room.
slow_from_three_quarters_on :
    Comes 4
    ((Arrive 1 (codes "a"), Came Kept)
    ∷ (Arrive 2 (codes "b"), Came Kept)
    ∷ (Slow, IsSlow false)
    ∷ (Long 3, Came (Dropped 2))
    ∷ (Slow, IsSlow false)
    ∷ (Arrive 4 (codes "d"), Came Kept)
    ∷ (Slow, IsSlow true)
    ∷ (Write 4, Wrote (0 ∷ 160 ∷ []) true)
    ∷ [])
unfolding code_table
slow_from_three_quarters_on = refl

-- A byte covers 128 numbers without a drop, and 16 with one; and the numbers go round the circle.
blocks_of_numbers :
    Comes 1
    ((Arrive 281474976710655 [], Came Kept)
    ∷ (Arrive 0 [], Came (Dropped 2))
    ∷ (Write 1, Wrote (0 ∷ 160 ∷ []) true)
    ∷ (Write 128, Wrote (127 ∷ 160 ∷ []) true)
    ∷ (Write 129, Wrote (127 ∷ 0 ∷ 160 ∷ []) true)
    ∷ (Arrive 281474976710655 [], Came (Dropped 2))
    ∷ (Write 0, Wrote (161 ∷ []) true)
    ∷ (ArriveEach 1 15 1, Came (Dropped 2))
    ∷ (Write 15, Wrote (175 ∷ 160 ∷ []) true)
    ∷ [])
unfolding code_table
blocks_of_numbers = refl

-- Every other number was dropped: two bytes each, of which 253 have room.
cut_at_253_bytes :
    Comes 1
    ((Arrive 0 [], Came Kept)
    ∷ (ArriveEach 1 126 2, Came (Dropped 2))
    ∷ (Write 252, Wrote (in_turn 126) true)
    ∷ (ArriveEach 253 2 2, Came (Dropped 2))
    ∷ (Write 256, Wrote (in_turn 126 ++ 0 ∷ []) false)
    ∷ [])
unfolding code_table
cut_at_253_bytes = refl

-- 127 numbers were dropped, and those between them were not: 253 bytes are whole, and of one more the last is cut off.
whole_at_253_bytes :
    Comes 1
    ((Arrive 0 [], Came Kept)
    ∷ (ArriveEach 1 127 2, Came (Dropped 2))
    ∷ (Write 253, Wrote (160 ∷ in_turn 126) true)
    ∷ (Write 254, Wrote (in_turn 126 ++ 0 ∷ []) false)
    ∷ [])
unfolding code_table
whole_at_253_bytes = refl

-- The report reaches 2,048 numbers; the 2,049th drop drives the oldest out.
abbrev drops_with : ℕ → List DropEntry
drops_with others = record { number = 1; code = 2 } ∷ replicate others (record { number = 2; code = 2 })

abbrev full : ℕ → InboxState
full others = record (empty_inbox 1) { items = record { number = 0; payload = [] } ∷ []; drops = drops_with others }

the_last_2048_drops :
    (drop_bytes (drops_with 0) 2048 ≡ replicate 15 127 ++ 126 ∷ 160 ∷ [])
    × (drop_bytes (drops_with 0) 2049 ≡ [])
    × (tells_all (drops_with 0) 2049 ≡ true)
    × (arrival_answer (full 2046) ≡ Dropped 2)
    × (drop_code (after_arrival (full 2046) 5000 []).drops 1 ≡ Some 2)
    × (drop_code (after_arrival (full 2047) 5000 []).drops 1 ≡ None)
    × (drop_code (dropping (full 2046) 5000).drops 1 ≡ Some 2)
    × (drop_code (dropping (full 2047) 5000).drops 1 ≡ None)
    × (length (dropping (full 2047) 5000).drops ≡ 2048)
unfolding code_table
the_last_2048_drops = (refl, refl, refl, refl, refl, refl, refl, refl, refl)

-- a byte of 16 numbers with a drop, and the 17th has another; and each number its own code
each_byte :
    (drop_byte (Some 2) 16 ≡ 175)
    × (drop_byte (Some 7) 1 ≡ 240)
    × (drop_byte None 128 ≡ 127)
    × (most_numbers None ≡ 128)
    × (most_numbers (Some 0) ≡ 16)
each_byte = (refl, refl, refl, refl, refl)

-- three quarters of 1,024 are 768 items; an item holds 1,024 bytes
abbrev holding : ℕ → InboxState
holding count = record (empty_inbox 1024) { items = replicate count (record { number = 1; payload = [] }) }

edges_of_an_inbox :
    (is_slow (holding 767) ≡ false)
    × (is_slow (holding 768) ≡ true)
    × (fits_item (empty_inbox 1) (replicate 1024 0) ≡ true)
    × (fits_item (empty_inbox 1) (replicate 1025 0) ≡ false)
edges_of_an_inbox = (refl, refl, refl, refl)

-- A datagram of 2,044 bytes brings 2,032 of data after its least header of 12 (RFC 4340, section 5.1). For 0 packets there is no inbox.
edges_of_an_intake :
    (fits_item (inbox_of 2032 1) (replicate 2032 0) ≡ true)
    × (fits_item (inbox_of 2032 1) (replicate 2033 0) ≡ false)
    × (intake_of 0 ≡ None)
    × (intake_of 7 ≡ Some (inbox_of 2032 7))
edges_of_an_intake = (refl, refl, refl, refl)

-- Data of two packets wait. An inbox adds 256 bytes at most: options of 255 and of 1. The first data are read over the front of what is there.
abbrev two_wait : Option InboxState
two_wait = Some (record (inbox_of 2032 2) { items = record { number = 7; payload = 1 ∷ 2 ∷ [] } ∷ record { number = 8; payload = 3 ∷ [] } ∷ [] })

what_waits_to_be_read :
    (most_said None ≡ 0) × (most_said two_wait ≡ 256) × (count_held None ≡ 0) × (count_held two_wait ≡ 2)
    × (first_read None ≡ None) × (first_read two_wait ≡ Some (7, 2))
    × (read_over None (9 ∷ 9 ∷ 9 ∷ []) ≡ 9 ∷ 9 ∷ 9 ∷ []) × (read_over two_wait (9 ∷ 9 ∷ 9 ∷ []) ≡ 1 ∷ 2 ∷ 9 ∷ [])
what_waits_to_be_read = (refl, refl, refl, refl, refl, refl, refl, refl)

-- One call of each kind, and which of them stop: after that the report may say that nobody listens.
which_calls_stop :
    (map is_stop (DataArrive 7 [] ∷ LongDataArrive 7 ∷ Takes ∷ Stops ∷ []) ≡ false ∷ false ∷ false ∷ true ∷ [])
    × ((given : Input) → map is_end_stop (EndCalls given ∷ EndReceives [] ∷ EndTakes ∷ EndStops ∷ []) ≡ false ∷ false ∷ false ∷ true ∷ [])
which_calls_stop = (refl, λ given. refl)
