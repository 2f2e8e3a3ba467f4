-- The numbers that are kept with frames beside the bytes that spell them, and the number that was taken last, worked out by hand.
use Rattle.std.proofs.Common.{◌≡◌, refl, ℕ, Option, None, Some, false}
use Prim.Native.String.{String}
use Rattle.dccp_packets.specs.Outgoing.{Outgoing}
use Rattle.dccp_endpoint.specs.Calling.{fires, opens, sends_payload}
use Rattle.dccp_endpoint.specs.Drafts.{framed}
use Rattle.dccp_endpoint.specs.End.{EndState, last_taken, new_end}
use Rattle.dccp_endpoint.specs.Receiving.{receives}
use Rattle.dccp_states.specs.declared.calls.Timer.TheVariants as timers
use Rattle.dccp_states.specs.declared.outcome.Outcome.TheVariants.{Synced, Took}
use Rattle.dccp_states.specs.declared.phase.Phase.TheVariants as phase
use Rattle.dccp_states.specs.declared.phase.Role.TheVariants.{Client, Server}
use Rattle.feature_lists.specs.declared.features.Feature.TheVariants.{SendAckVector, ShortSeqnos}
use Rattle.feature_lists.specs.declared.features.Place.TheVariants.{There}
use Rattle.tests_ends.proofs.rows.RowsSeen.{arrives, client_ack, close, listening, open_server, plain, request, requesting, response, seen, sends, sent}
use Rattle.tests_ends.proofs.rows.RowsShort.{holding, short_ack}
use Rattle.tests_ends.proofs.rows.RowsShortSent.{acknowledges, sending}

-- the numbers that are kept with what goes out
abbrev told : Option Outgoing → Option (ℕ × Option ℕ)
told None = None
told (Some sent) = Some (sent.number, sent.ack)

-- Whole numbers, whether the frame is short or long: of the server's second packet, 2^24 and what is after it, and an acknowledged 2^24. A Data
-- and a Request acknowledge nothing. A Reset of no connection has the number after the acknowledged one, and a Sync acknowledges the packet that
-- is not valid. No number is returned if nothing goes out.
told_numbers :
    (told (acknowledges sending).frame ≡ Some (2002, Some 1001))
    × (told (acknowledges open_server).frame ≡ Some (2002, Some 1001))
    × (told (acknowledges (record sending { marks = record sending.marks { gss = 16777215 } })).frame ≡ Some (16777216, Some 1001))
    × (told (acknowledges (record sending { marks = record sending.marks { gsr = 16777216 } })).frame ≡ Some (2002, Some 16777216))
    × (told (sends (holding SendAckVector There 1 sending) "aa").frame ≡ Some (2002, None))
    × (told (opens (new_end (plain Client))).frame ≡ Some (1000, None))
    × (told (arrives listening request).frame ≡ Some (2000, Some 1000))
    × (told (arrives listening client_ack).frame ≡ Some (2001, Some 1001))
    × (told (arrives sending "9c4013890600214b07000000000005de00000000000007d1").frame ≡ Some (2002, Some 1502))
    × (told (arrives sending close).frame ≡ Some (2002, Some 1002))
    × (told (fires sending timers.Request false).frame ≡ None)
unfolding receives fires opens sends_payload framed
told_numbers = (refl, refl, refl, refl, refl, refl, refl, refl, refl, refl, refl)

-- the server's end once this Request and this Ack of its Response have come
abbrev opened : String → String → EndState
opened request ack = (arrives (arrives listening request).after ack).after

-- The number that opened is the last of the circle, and then the first. A Request with the next number is unexpected, and one with the number
-- before is skipped, though it is the greater one of the two.
opened_around_the_end :
    ((opened "9c401389050035d50100fffffffffffe0000002a" "9c4013890600272a0700ffffffffffff00000000000007d0").marks.osr ≡ 281474976710655)
    × (seen (arrives (opened "9c401389050035d50100fffffffffffe0000002a" "9c4013890600272a0700ffffffffffff00000000000007d0")
    "9c401389050035d401000000000000000000002a") ≡ (Synced 0, sent "13899c4006001d2811000000000007d20000000000000000", phase.Open))
    × ((opened "9c401389050035d40100ffffffffffff0000002a" "9c4013890600272a070000000000000000000000000007d0").marks.osr ≡ 0)
    × (seen (arrives (opened "9c401389050035d40100ffffffffffff0000002a" "9c4013890600272a070000000000000000000000000007d0")
    "9c401389050035d40100ffffffffffff0000002a") ≡ (Took None, None, phase.Open))
unfolding receives framed
opened_around_the_end = (refl, refl, refl, refl)

-- The number of a packet that was taken, also where its form is short, and where it is older than another; not that of one that is not valid, that
-- is unexpected in its phase, though it raises GSR, or that meets no connection.
taken_last :
    (last_taken (new_end (plain Server)) ≡ 0)
    × (last_taken open_server ≡ 1001)
    × (last_taken (arrives requesting response).after ≡ 2000)
    × (last_taken (arrives (holding ShortSeqnos There 1 open_server) short_ack).after ≡ 1002)
    × (last_taken (arrives (arrives (holding ShortSeqnos There 1 open_server) short_ack).after client_ack).after ≡ 1001)
    × (last_taken (arrives sending "9c4013890600214b07000000000005de00000000000007d1").after ≡ 1001)
    × ((arrives open_server "9c401389050031ea01000000000003ea0000002a").after.marks.gsr ≡ 1002)
    × (last_taken (arrives open_server "9c401389050031ea01000000000003ea0000002a").after ≡ 1001)
    × (last_taken (arrives listening client_ack).after ≡ 0)
    × (last_taken (arrives open_server close).after ≡ 1002)
unfolding receives opens framed
taken_last = (refl, refl, refl, refl, refl, refl, refl, refl, refl, refl)
