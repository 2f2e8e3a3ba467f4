-- Worked data, computed from the definitions: what `send` puts out, what it is refused for, and what is reported to the congestion control.
use Rattle.std.proofs.Common.{◌≡◌, refl, ℕ, Bool, true, false, List, [], ◌∷◌, replicate, Some, None, Ok, Err}
use Rattle.dccp_states.specs.declared.phase.Phase.TheVariants as phase
use Rattle.dccp_endpoint.specs.Calling.{Called, fires, opens, sends_payload, sends_unless}
use Rattle.dccp_endpoint.specs.Drafts.{framed}
use Rattle.dccp_endpoint.specs.End.{EndState}
use Rattle.dccp_endpoint.specs.Receiving.{receives}
use Rattle.dccp_endpoint.specs.Steps.{Step, idle}
use Rattle.dccp_states.specs.declared.calls.SendFault.{SendFault}
use Rattle.dccp_states.specs.declared.calls.SendFault.TheVariants.{NotNegotiated, NotOpen, TooLong, WindowFull}
use Rattle.dccp_states.specs.declared.calls.Timer.TheVariants as timers
use Rattle.dccp_states.specs.declared.outcome.Outcome.{Outcome}
use Rattle.dccp_states.specs.declared.outcome.Outcome.TheVariants.{Took}
use Rattle.tests_ends.proofs.rows.RowsOffers.{offering_2, usual_ack, usual_open, usual_part_open, usual_responding, usual_response, usual_requesting, usual_vector}
use Rattle.tests_ends.proofs.rows.RowsSeen.{Reported, Sent, TimedOut, arrives, calls_at, open_client, seen, sends, sent, server_ack}
use Rattle.tests_ends.proofs.rows.RowsVectors.{heard_1002, heard_1003, heard_1004, heard_1005}

-- The usual connection with data, at the client. It owes an acknowledgement of the server's Ack, so its first data go out on a DataAck, and the
-- next on Data. The server's Ack reports that 1004 and 1002 came, and not 1003; it is due one, too.
abbrev pub usual_client : EndState
usual_client = (arrives usual_part_open usual_vector).after

abbrev sent_aa : Called SendFault
sent_aa = sends usual_client "aa"

abbrev sent_bb : Called SendFault
sent_bb = sends sent_aa.after "bb"

abbrev sent_cc : Called SendFault
sent_cc = sends sent_bb.after "cc"

abbrev told_1004 : Step Outcome
told_1004 = arrives sent_cc.after "13899c400800fa6e07000000000007d200000000000003ec260500c000000000"

abbrev sent_dd : Called SendFault
sent_dd = sends told_1004.after "dd"

abbrev few : List ℕ
few = 1005 ∷ 1004 ∷ 1003 ∷ 1002 ∷ 1001 ∷ []

usual-connection-of-client :
    (calls_at (2000 ∷ []) (arrives usual_requesting usual_response) ≡ [])
    × (calls_at (1002 ∷ 1001 ∷ 1000 ∷ 999 ∷ []) (arrives usual_part_open usual_vector) ≡ Reported (None ∷ Some 0 ∷ Some 0 ∷ None ∷ []) 2 ∷ [])
    × (seen sent_aa ≡ (Ok tt, sent "9c4013890700503609000000000003ea00000000000007d126030000aa", phase.Open))
    × (calls_at few sent_aa ≡ Sent 1002 ∷ [])
    × (sent_aa.after.owed ≡ false)
    × (sent_aa.after.received.records ≡ record { number = 1001; ack = 2000; whole = true } ∷ record { number = 1002; ack = 2001; whole = true } ∷ [])
    × (seen sent_bb ≡ (Ok tt, sent "9c4013890400741505000000000003ebbb", phase.Open))
    × (calls_at few sent_bb ≡ Sent 1003 ∷ [])
    × (seen sent_cc ≡ (Ok tt, sent "9c4013890400631405000000000003eccc", phase.Open))
    × (calls_at few sent_cc ≡ Sent 1004 ∷ [])
    × (seen told_1004 ≡ (Took None, None, phase.Open))
    × (calls_at few told_1004 ≡ Reported (None ∷ Some 0 ∷ Some 3 ∷ Some 0 ∷ None ∷ []) 2 ∷ [])
    × (seen sent_dd ≡ (Ok tt, sent "9c40138907001c3209000000000003ed00000000000007d226030100dd", phase.Open))
    × (calls_at few sent_dd ≡ Sent 1005 ∷ [])
unfolding receives opens sends_payload framed
usual-connection-of-client = (refl, refl, refl, refl, refl, refl, refl, refl, refl, refl, refl, refl, refl, refl)

-- At the server the Acks and DataAcks of the client report, and its Data do not.
usual-connection-of-server :
    (calls_at (2001 ∷ 2000 ∷ 1999 ∷ []) (arrives usual_responding usual_ack) ≡ Reported (None ∷ Some 0 ∷ None ∷ []) 2 ∷ [])
    × (calls_at (2002 ∷ 2001 ∷ 2000 ∷ []) heard_1002 ≡ Reported (None ∷ Some 0 ∷ None ∷ []) 2 ∷ [])
    × (calls_at (2002 ∷ 2001 ∷ 2000 ∷ []) heard_1004 ≡ [])
    × (calls_at (2002 ∷ 2001 ∷ 2000 ∷ []) heard_1005 ≡ Reported (Some 0 ∷ Some 0 ∷ None ∷ []) 2 ∷ [])
    × (calls_at (2002 ∷ 2001 ∷ 2000 ∷ []) heard_1003 ≡ [])
    × (seen (sends usual_open "ee") ≡ (Ok tt, sent "13899c4004003d2e05000000000007d2ee", phase.Open))
    × (calls_at [] (sends usual_open "ee") ≡ Sent 2002 ∷ [])
unfolding receives opens sends_payload framed
usual-connection-of-server = (refl, refl, refl, refl, refl, refl, refl)

-- Each reason comes before the next: the phase, the length, the Ack Vectors that CCID 2 needs, and the window. Data of 1,024 bytes go out.
abbrev pub too_long : List ℕ
too_long = replicate 1025 0

abbrev pub longest : List ℕ
longest = replicate 1024 0

refused-sends :
    (seen (sends_payload usual_part_open too_long false) ≡ (Err NotOpen, None, phase.PartOpen))
    × (seen (sends_payload open_client too_long false) ≡ (Err TooLong, None, phase.Open))
    × (seen (sends_payload open_client (170 ∷ []) false) ≡ (Err NotNegotiated, None, phase.Open))
    × (seen (sends_payload open_client (170 ∷ []) true) ≡ (Err NotNegotiated, None, phase.Open))
    × (seen (sends_payload usual_client (170 ∷ []) false) ≡ (Err WindowFull, None, phase.Open))
    × ((sends_payload usual_client longest true).answer ≡ Ok tt)
    × (calls_at [] (sends_payload usual_client longest true) ≡ Sent 1002 ∷ [])
unfolding receives opens sends_payload framed
refused-sends = (refl, refl, refl, refl, refl, refl, refl)

-- A refused call changes nothing.
refused-changes-nothing : (e : EndState) (payload : List ℕ) (acknowledges : Bool) (fault : SendFault)
    → sends_unless e payload acknowledges (Some fault) ≡ idle e (Err fault)
refused-changes-nothing e payload acknowledges fault = refl

-- With another CCID no Ack Vectors are needed. The client negotiated 248.
abbrev open_248 : EndState
open_248 = (arrives (arrives offering_2 "13899c400900070b03000000000007d000000000000003e80000002a230601f8f8020000").after server_ack).after

data-without-vectors-of-248 :
    (seen (sends open_248 "aa") ≡ (Ok tt, sent "9c4013890600773d09000000000003ea00000000000007d1aa", phase.Open))
    × (calls_at [] (sends open_248 "aa") ≡ Sent 1002 ∷ [])
    × (seen (sends_payload open_248 (170 ∷ []) false) ≡ (Err WindowFull, None, phase.Open))
unfolding receives opens sends_payload framed
data-without-vectors-of-248 = (refl, refl, refl)

-- The timer applies in OPEN, where something is in flight.
timer-of-data :
    (seen (fires usual_client timers.Rto true) ≡ (true, None, phase.Open))
    × (calls_at [] (fires usual_client timers.Rto true) ≡ TimedOut ∷ [])
    × (seen (fires usual_client timers.Rto false) ≡ (false, None, phase.Open))
    × (calls_at [] (fires usual_client timers.Rto false) ≡ [])
    × (seen (fires usual_part_open timers.Rto true) ≡ (false, None, phase.PartOpen))
    × (calls_at [] (fires usual_part_open timers.Rto true) ≡ [])
    × (seen (fires (record usual_client { phase = phase.CloseReq }) timers.Rto true) ≡ (false, None, phase.CloseReq))
    × (calls_at [] (fires (record usual_client { phase = phase.CloseReq }) timers.Rto true) ≡ [])
unfolding receives opens fires framed
timer-of-data = (refl, refl, refl, refl, refl, refl, refl, refl)
