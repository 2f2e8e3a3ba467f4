-- Worked packets, computed from the definitions: the standard's numbers and the RFC 1071 sum by hand, as bytes.
use Rattle.std.proofs.Common.{◌≡◌, refl, true, false, [], ◌∷◌, None, Ok, Err}
use Rattle.dccp_packets.specs.Outgoing.{bytes_sent}
use Rattle.dccp_packets.specs.declared.reading.Malformed.TheVariants as malformed
use Rattle.dccp_sum.specs.declared.packet_sum.SumFault.TheVariants as sums
use Rattle.dccp_states.specs.declared.phase.Phase.TheVariants as phase
use Rattle.dccp_states.specs.declared.phase.Role.TheVariants.{Client}
use Rattle.dccp_endpoint.specs.Drafts.{framed}
use Rattle.dccp_endpoint.specs.End.{EndState, new_end}
use Rattle.dccp_endpoint.specs.Receiving.{receives}
use Rattle.dccp_endpoint.specs.Calling.{aborts, closes, fires, opens}
use Rattle.dccp_states.specs.declared.calls.AbortFault.TheVariants.{NotLive}
use Rattle.dccp_states.specs.declared.calls.CloseFault.TheVariants.{NotOpen}
use Rattle.dccp_states.specs.declared.calls.Timer.TheVariants as timers
use Rattle.dccp_endpoint.specs.Steps.{Step}
use Rattle.tests_ends.proofs.rows.RowsSeen.{arrives, client_ack, close, closed, initial_rows, listening, open_client, open_server, plain, request, requesting, responding, response, response_again, seen, sent, server_ack, shown}
use Rattle.dccp_states.specs.declared.outcome.Outcome.{Outcome}
use Rattle.dccp_states.specs.declared.outcome.Outcome.TheVariants.{Dropped, SentReset, Synced, Took, WasReset}
use Rattle.dccp_states.specs.declared.outcome.Why.TheVariants as why

-- Two ends that offer nothing: Request, Response, Ack and Ack, and nothing was negotiated.
handshake :
    (seen (opens (new_end (plain Client))) ≡ (Ok tt, sent request, phase.Request))
    × (seen (arrives listening request) ≡ (Took None, sent response, phase.Respond))
    × (seen (arrives requesting response) ≡ (Took None, sent client_ack, phase.PartOpen))
    × (seen (arrives responding client_ack) ≡ (Took None, sent server_ack, phase.Open))
    × (seen (arrives (arrives requesting response).after server_ack) ≡ (Took None, None, phase.Open))
    × (shown open_client ≡ initial_rows)
    × (shown open_server ≡ initial_rows)
unfolding receives opens framed
handshake = (refl, refl, refl, refl, refl, refl, refl)

-- what step 1 drops, a Reset without a connection, No Connection, and Bad Service Code at a server
dropped-in-listen :
    (seen (arrives listening "0102") ≡ (Dropped (why.Malformed malformed.Short), None, phase.Listen))
    × (seen (arrives listening "9c401389050031ed01000000000003e80000002a") ≡ (Dropped (why.Sum sums.Wrong), None, phase.Listen))
    × (seen (arrives listening "9c4013890503000001000000000003e80000002a01020304050607") ≡ (Dropped (why.Sum sums.CoverageTooLarge), None, phase.Listen))
    × (seen (arrives listening "9c411389050031eb01000000000003e80000002a") ≡ (Dropped why.OtherFlow, None, phase.Listen))
    × (seen (arrives listening "9c40138904002647060003ea000007d1") ≡ (Dropped why.ShortOff, None, phase.Listen))
    × (seen (arrives listening "9c4013890700183d0f000000000003e900000000000007d002000000") ≡ (Dropped why.StrayReset, None, phase.Listen))
    × (seen (arrives listening client_ack)
    ≡ (SentReset 3 (0 ∷ 0 ∷ 0 ∷ []), sent "13899c400700173c0f000000000007d100000000000003e903000000", phase.Listen))
    × (seen (arrives listening "9c401389050031eb01000000000003e80000002b")
    ≡ (SentReset 8 (0 ∷ 0 ∷ 0 ∷ []), sent "13899c4007001a0e0f0000000000000000000000000003e808000000", phase.Listen))
unfolding receives framed
dropped-in-listen = (refl, refl, refl, refl, refl, refl, refl, refl)

-- the options of a Request: Mandatory twice, one that is not understood under Mandatory, and two that are skipped
options-in-request :
    (seen (arrives listening "9c401389060030e701000000000003e80000002a00000001")
    ≡ (SentReset 5 (1 ∷ 0 ∷ 0 ∷ []), sent "13899c400700153d0f000000000007d000000000000003e805010000", phase.Closed))
    × (seen (arrives listening "9c4013890700217a01000000000003e80000002a0163040709000000")
    ≡ (SentReset 6 (99 ∷ 7 ∷ 9 ∷ []), sent "13899c4007000cd20f000000000007d000000000000003e806630709", phase.Closed))
    × (seen (arrives listening "9c40138906002fe801000000000003e80000002a01000000") ≡ (Took None, sent response, phase.Respond))
    × (seen (arrives listening "9c401389060010e701000000000003e80000002a20010000") ≡ (Took None, sent response, phase.Respond))
unfolding receives framed
options-in-request = (refl, refl, refl, refl)

-- a Sync whose numbers are not valid, an Ack outside the window, early data, an option of the negotiation, and a Reset
packets-in-respond :
    (seen (arrives responding "9c4013890600193c11000000000003e900000000000007d5") ≡ (Dropped why.BadSync, None, phase.Respond))
    × (seen (arrives responding "9c40138906001f5a07000000000007d000000000000007d0")
    ≡ (Synced 2000, sent "13899c400600155911000000000007d100000000000007d0", phase.Respond))
    × (seen (arrives responding "9c4013890400851705000000000003e9aa")
    ≡ (Synced 1001, sent "13899c400600194011000000000007d100000000000003e9", phase.Respond))
    × (seen (arrives responding "9c4013890800083107000000000003e900000000000007d020050102f8000000")
    ≡ (Took None, sent "13899c400800fa3707000000000007d100000000000003e92306010202f80000", phase.Open))
    × (seen (arrives responding "9c4013890700183d0f000000000003e900000000000007d002000000") ≡ (WasReset 2, None, phase.TimeWait))
unfolding receives framed
packets-in-respond = (refl, refl, refl, refl, refl)

-- Data gets Packet Error; a Response for another service, a Reset of another Request, and a Reset
packets-in-request :
    (seen (arrives requesting "13899c4004002b3205000000000007d0")
    ≡ (SentReset 4 (2 ∷ 0 ∷ 0 ∷ []), sent "9c4013890700163b0f000000000003e900000000000007d004020000", phase.Request))
    × (seen (arrives requesting "13899c400700261303000000000007d000000000000003e80000002b")
    ≡ (SentReset 8 (0 ∷ 0 ∷ 0 ∷ []), sent "9c4013890700123d0f000000000003e900000000000007d008000000", phase.Closed))
    × (seen (arrives requesting "13899c400700183f0f000000000007d000000000000003e702000000") ≡ (Dropped why.StrayReset, None, phase.Request))
    × (seen (arrives requesting "13899c400700183e0f000000000007d000000000000003e802000000") ≡ (WasReset 2, None, phase.TimeWait))
unfolding receives opens framed
packets-in-request = (refl, refl, refl, refl)

-- a Request that comes twice, and the older Response after the newer; the Request goes out again under the next number, and the first
-- of the two comes last
abbrev newer_answered : EndState
newer_answered = (arrives requesting response_again).after

repeated-request :
    (seen (arrives responding request) ≡ (Took None, sent response_again, phase.Respond))
    × (seen (arrives requesting response_again) ≡ (Took None, sent "9c4013890600234007000000000003e900000000000007d1", phase.PartOpen))
    × (seen (arrives newer_answered response) ≡ (Synced 2000, sent "9c4013890600194011000000000003ea00000000000007d0", phase.PartOpen))
    × (seen (arrives (arrives responding request).after "9c4013890600194011000000000003ea00000000000007d0")
    ≡ (Took None, sent "13899c400600173e13000000000007d200000000000003ea", phase.Open))
    × (seen (arrives (arrives newer_answered response).after "13899c400600173e13000000000007d200000000000003ea") ≡ (Took None, None, phase.Open))
    × (seen (fires requesting timers.Request false) ≡ (true, sent "9c401389050031eb01000000000003e90000002a", phase.Request))
    × (seen (arrives (arrives listening "9c401389050031eb01000000000003e90000002a").after request)
    ≡ (Synced 1000, sent "13899c400600194111000000000007d100000000000003e8", phase.Respond))
unfolding receives opens fires framed
repeated-request = (refl, refl, refl, refl, refl, refl, refl)

-- a client closes: Close, Reset 1, TIMEWAIT, CLOSED; and then nothing is left to close or to abort
abbrev torn_client : EndState
torn_client = (arrives (closes open_client).after closed).after

client-closes :
    (seen (closes open_client) ≡ (Ok tt, sent close, phase.Closing))
    × (seen (arrives open_server close) ≡ (SentReset 1 (0 ∷ 0 ∷ 0 ∷ []), sent closed, phase.Closed))
    × (seen (arrives (closes open_client).after closed) ≡ (WasReset 1, None, phase.TimeWait))
    × (seen (fires torn_client timers.TimeWait false) ≡ (true, None, phase.Closed))
    × (seen (aborts torn_client) ≡ (Err NotLive, None, phase.TimeWait))
    × (seen (closes (arrives open_server close).after) ≡ (Err NotOpen, None, phase.Closed))
unfolding receives opens closes aborts fires framed
client-closes = (refl, refl, refl, refl, refl, refl)

-- a server closes: CloseReq, Close, Reset 1; CloseReq goes out again by the timer
server-closes :
    (seen (closes open_server) ≡ (Ok tt, sent "13899c4006001f3f0b000000000007d200000000000003e9", phase.CloseReq))
    × (seen (arrives open_client "13899c4006001f3f0b000000000007d200000000000003e9")
    ≡ (Took None, sent "9c40138906001d3e0d000000000003ea00000000000007d2", phase.Closing))
    × (seen (arrives (closes open_server).after "9c40138906001d3e0d000000000003ea00000000000007d2")
    ≡ (SentReset 1 (0 ∷ 0 ∷ 0 ∷ []), sent "13899c40070019390f000000000007d300000000000003ea01000000", phase.Closed))
    × (seen (fires (closes open_server).after timers.Close false) ≡ (true, sent "13899c4006001f3e0b000000000007d300000000000003e9", phase.CloseReq))
unfolding receives opens closes fires framed
server-closes = (refl, refl, refl, refl)

-- an abort sends a Reset 2, and nothing before a frame came from the other end
aborted :
    (seen (aborts open_client) ≡ (Ok tt, sent "9c4013890700183b0f000000000003ea00000000000007d102000000", phase.Closed))
    × (seen (aborts responding) ≡ (Ok tt, sent "13899c400700183d0f000000000007d100000000000003e802000000", phase.Closed))
    × (seen (aborts requesting) ≡ (Ok tt, None, phase.Closed))
unfolding receives opens aborts framed
aborted = (refl, refl, refl)

-- numbers go from 2^48 - 1 on to 0
abbrev late_client : EndState
late_client = (opens (new_end (record (plain Client) { iss = 281474976710654 }))).after

abbrev late_answered : Step Outcome
late_answered = arrives late_client "13899c40070029fd03000000000007d00000fffffffffffe0000002a"

number-wrap :
    (bytes_sent late_answered.frame ≡ sent "9c4013890600272a0700ffffffffffff00000000000007d0")
    × (seen (fires (arrives late_answered.after "13899c400600272907000000000007d10000ffffffffffff").after timers.Ack false)
    ≡ (true, sent "9c40138906002729070000000000000000000000000007d1", phase.Open))
unfolding receives opens fires framed
number-wrap = (refl, refl)
