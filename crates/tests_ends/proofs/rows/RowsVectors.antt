-- Worked marks and Ack Vectors, computed from the definitions: what is received, what a vector reports of it, and what an end's Acks carry.
use Rattle.std.proofs.Common.{◌≡◌, refl, ℕ, ◌+◌, zero, suc, Bool, true, false, List, [], ◌∷◌, ◌++◌, Some, None}
use Rattle.ack_vectors.specs.Kept.{ReceivedState, acked, marked_by, newest_whole, recorded}
use Rattle.ack_vectors.specs.Kept as kept
use Rattle.ack_vectors.specs.Vector.{is_whole_under, vector_under}
use Rattle.ack_vectors.specs.declared.room.Vectors.TheVariants.{One}
use Rattle.dccp_states.specs.declared.phase.Phase.TheVariants as phase
use Rattle.run_list.specs.MarkedSet.{answer_to, has}
use Rattle.run_list.specs.declared.answers.Marked.TheVariants.{New, Again, BelowFloor}
use Rattle.dccp_endpoint.specs.Calling.{fires, opens}
use Rattle.dccp_endpoint.specs.Drafts.{framed}
use Rattle.dccp_endpoint.specs.End.{EndState}
use Rattle.dccp_endpoint.specs.Receiving.{receives}
use Rattle.dccp_endpoint.specs.Steps.{Step}
use Rattle.dccp_states.specs.declared.calls.Timer.TheVariants as timers
use Rattle.dccp_states.specs.declared.outcome.Outcome.{Outcome}
use Rattle.dccp_states.specs.declared.outcome.Outcome.TheVariants.{Took}
use Rattle.tests_ends.proofs.rows.RowsOffers.{usual_open, usual_part_open, usual_vector}
use Rattle.tests_ends.proofs.rows.RowsSeen.{arrives, open_client, requesting, response, seen, sent}

-- these numbers were taken, in this order
abbrev took : ReceivedState → List ℕ → ReceivedState
took old [] = old
took old (number ∷ rest) = took (marked_by old number) rest

-- this many numbers, from one up
abbrev from : ℕ → ℕ → List ℕ
from zero number = []
from (suc count) number = number ∷ from count (1 + number)

-- the vector in one option at an acknowledgement, and whether it is whole
abbrev told : ReceivedState → ℕ → List ℕ × Bool
told old ack = (vector_under (has old.set.numbers) old.set.floor ack One, is_whole_under (has old.set.numbers) old.set.floor ack One)

-- 88 to 98 and 100 were taken: 0 for 100, 3 for 99, and 0 for eleven numbers
vector-of-received : told (took (kept.fresh 88) (from 11 88 ++ 100 ∷ [])) 100 ≡ (0 ∷ 192 ∷ 10 ∷ [], true)
vector-of-received = refl

-- a run of 64 has one byte, and one more number a second
full-run-of-64 :
    (told (took (kept.fresh 1) (from 64 1)) 64 ≡ (63 ∷ [], true))
    × (told (took (kept.fresh 1) (from 65 1)) 65 ≡ (63 ∷ 0 ∷ [], true))
full-run-of-64 = (refl, refl)

-- The number 12 is missing. The vector of 13 went out under the number 50, and the floor rises after it once 50 is acknowledged.
abbrev missing_12 : ReceivedState
missing_12 = took (kept.fresh 10) (10 ∷ 11 ∷ 13 ∷ [])

abbrev vector_went_out : ReceivedState
vector_went_out = recorded missing_12 50 13 true

floor-rises-by-record :
    (answer_to (took (kept.fresh 10) (10 ∷ 11 ∷ [])).set 13 ≡ New)
    × (answer_to missing_12.set 11 ≡ Again)
    × (told missing_12 13 ≡ (0 ∷ 192 ∷ 1 ∷ [], true))
    × (newest_whole 49 vector_went_out.records ≡ None)
    × ((acked vector_went_out 49).set.floor ≡ 10)
    × ((acked vector_went_out 50).set.floor ≡ 14)
    × (answer_to (acked vector_went_out 50).set 12 ≡ BelowFloor)
    × (answer_to (acked vector_went_out 50).set 15 ≡ New)
    × (told (took (acked vector_went_out 50) (15 ∷ [])) 15 ≡ (0 ∷ 192 ∷ [], true))
floor-rises-by-record = (refl, refl, refl, refl, refl, refl, refl, refl, refl)

-- The client's Ack of the handshake has the number 1001 and reports 2000. The server's Ack acknowledges it: then the client's floor is 2001. A
-- SyncAck that acknowledges it raises no floor.
abbrev told_client : EndState
told_client = (arrives usual_part_open usual_vector).after

abbrev synced_client : EndState
synced_client = (arrives usual_part_open "13899c400600174013000000000007d100000000000003e9").after

floor-of-client :
    (usual_part_open.received.records ≡ record { number = 1001; ack = 2000; whole = true } ∷ [])
    × (usual_part_open.received.set ≡ record { floor = 2000; numbers = 2000 ∷ [] })
    × (usual_part_open.owed ≡ false)
    × (told_client.received.set ≡ record { floor = 2001; numbers = 2001 ∷ [] })
    × (told_client.owed ≡ true)
    × (told_client.marked ≡ 2)
    × (seen (arrives usual_part_open "13899c400600174013000000000007d100000000000003e9") ≡ (Took None, None, phase.Open))
    × (synced_client.received.set ≡ record { floor = 2000; numbers = 2001 ∷ 2000 ∷ [] })
unfolding receives opens framed
floor-of-client = (refl, refl, refl, refl, refl, refl, refl, refl)

-- The usual connection with data. The server's Ack recorded 1001, and the client's DataAck 1002 acknowledges it, so the floor is 1002. Data 1003
-- is late: Data 1004 is the second data packet that is delivered, and by the Ack Ratio of 2 the Ack goes out that reports 1004, not of 1003, and
-- of 1002. DataAck 1005 acknowledges it, and the floor is 1005. Data 1003 lies below it, is taken, and is not delivered.
abbrev pub heard_1002 : Step Outcome
heard_1002 = arrives usual_open "9c4013890700503609000000000003ea00000000000007d126030000aa"

abbrev pub heard_1004 : Step Outcome
heard_1004 = arrives heard_1002.after "9c4013890400631405000000000003eccc"

abbrev pub heard_1005 : Step Outcome
heard_1005 = arrives heard_1004.after "9c40138907001c3209000000000003ed00000000000007d226030100dd"

abbrev pub heard_1003 : Step Outcome
heard_1003 = arrives heard_1005.after "9c4013890400741505000000000003ebbb"

usual-connection-with-data :
    (usual_open.received.records ≡ record { number = 2001; ack = 1001; whole = true } ∷ [])
    × (seen heard_1002 ≡ (Took (Some (28, 29)), None, phase.Open))
    × (heard_1002.after.received.set ≡ record { floor = 1002; numbers = 1002 ∷ [] })
    × (heard_1002.after.unacked ≡ 1)
    × (seen heard_1004 ≡ (Took (Some (16, 17)), sent "13899c400800fa6e07000000000007d200000000000003ec260500c000000000", phase.Open))
    × (heard_1004.after.unacked ≡ 0)
    × (heard_1004.after.owed ≡ false)
    × (seen heard_1005 ≡ (Took (Some (28, 29)), None, phase.Open))
    × (heard_1005.after.received.set ≡ record { floor = 1005; numbers = 1005 ∷ [] })
    × (seen heard_1003 ≡ (Took None, None, phase.Open))
    × (heard_1003.after.marked ≡ 5)
    × (seen (fires heard_1003.after timers.Ack false) ≡ (true, sent "13899c400700fc3207000000000007d300000000000003ed26030000", phase.Open))
unfolding receives opens fires framed
usual-connection-with-data = (refl, refl, refl, refl, refl, refl, refl, refl, refl, refl, refl, refl)

-- Without Ack Vectors: data are delivered once, also those that open PARTOPEN; the second data packet is answered with an Ack, and no
-- record is made.
abbrev heard_2002 : Step Outcome
heard_2002 = arrives open_client "13899c400400812e05000000000007d2aa"

abbrev heard_2003 : Step Outcome
heard_2003 = arrives heard_2002.after "13899c400400812d05000000000007d3aa"

data-without-vectors :
    (seen (arrives (arrives requesting response).after "13899c400400812e05000000000007d2aa") ≡ (Took (Some (16, 17)), None, phase.Open))
    × (seen heard_2002 ≡ (Took (Some (16, 17)), None, phase.Open))
    × (heard_2002.after.unacked ≡ 1)
    × (seen (arrives heard_2002.after "13899c400400812e05000000000007d2aa") ≡ (Took None, None, phase.Open))
    × ((arrives heard_2002.after "13899c400400812e05000000000007d2aa").after.unacked ≡ 1)
    × ((arrives heard_2002.after "13899c400400812e05000000000007d2aa").after.marked ≡ 3)
    × ((arrives heard_2002.after "13899c400400812e05000000000007d2aa").after.received.set ≡ record { floor = 2000; numbers = 2002 ∷ 2001 ∷ 2000 ∷ [] })
    × (seen heard_2003 ≡ (Took (Some (16, 17)), sent "9c4013890600233d07000000000003ea00000000000007d3", phase.Open))
    × (heard_2003.after.unacked ≡ 0)
    × (heard_2003.after.received.records ≡ [])
unfolding receives opens framed
data-without-vectors = (refl, refl, refl, refl, refl, refl, refl, refl, refl, refl)
