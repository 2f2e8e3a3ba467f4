-- Worked packets with short numbers: when they are taken, which numbers they mean, and what they do. These ends have the value 1 of Allow Short
-- Sequence Numbers.
use Rattle.std.proofs.Common.{◌≡◌, refl, ℕ, ◌^◌, [], ◌∷◌, Some, None}
use Rattle.std.specs.Prelude.{slice_set}
use Prim.Native.String.{String}
use Rattle.dccp_states.specs.declared.phase.Phase.{Phase}
use Rattle.dccp_states.specs.declared.phase.Phase.TheVariants as phase
use Rattle.dccp_states.specs.declared.phase.Role.TheVariants.{Server}
use Rattle.dccp_sum.specs.declared.packet_sum.SumFault.TheVariants.{Wrong}
use Rattle.feature_lists.specs.declared.features.Feature.{Feature}
use Rattle.feature_lists.specs.declared.features.Feature.TheVariants.{AckRatio, SequenceWindow, ShortSeqnos}
use Rattle.feature_lists.specs.declared.features.Place.{Place}
use Rattle.feature_lists.specs.declared.features.Place.TheVariants.{Here, There}
use Rattle.feature_machine.specs.Lists.{index_of}
use Rattle.feature_machine.specs.Negotiating.{row_at}
use Rattle.feature_machine.specs.declared.stands.Stand.{Stand}
use Rattle.feature_machine.specs.declared.stands.Stand.TheVariants.{Changing, Stable, Unstable}
use Rattle.dccp_endpoint.specs.Drafts.{framed}
use Rattle.dccp_endpoint.specs.End.{EndState, new_end, with_rows}
use Rattle.dccp_endpoint.specs.Receiving.{receives}
use Rattle.dccp_endpoint.specs.Steps.{Step, in_phase}
use Rattle.tests_ends.proofs.rows.RowsSeen.{arrives, open_server, plain, request, seen, sent}
use Rattle.dccp_states.specs.declared.outcome.Outcome.{Outcome}
use Rattle.dccp_states.specs.declared.outcome.Outcome.TheVariants.{Dropped, Synced, Took}
use Rattle.dccp_states.specs.declared.outcome.Why.TheVariants as why

-- the end with this value of a feature at a place
abbrev pub holding : Feature → Place → ℕ → EndState → EndState
holding feature place value e =
    with_rows e (slice_set e.rows (index_of feature place) (record (row_at e.rows feature place) { value = value }))

-- the server of the plain handshake, at which short numbers are taken
abbrev taking : EndState
taking = holding ShortSeqnos There 1 open_server

-- the server that begins with this number, once this Request and this Ack have come
abbrev taking_from : ℕ → String → String → EndState
taking_from iss request ack =
    holding ShortSeqnos There 1 (arrives (arrives (new_end (record (plain Server) { iss = iss })) request).after ack).after

-- An Ack of the client's with the short numbers 1002 and 2001.
abbrev pub short_ack : String
short_ack = "9c40138904002647060003ea000007d1"

-- the step in which it comes, in a phase
abbrev in_which : Phase → Step Outcome
in_which p = arrives (in_phase taking p) short_ack

-- Short numbers are taken by the value at the peer, and not by the value here, once a first number was received and while there is a
-- connection.
where-short-numbers-are-taken :
    (seen (arrives taking short_ack) ≡ (Took None, None, phase.Open))
    × ((arrives taking short_ack).after.marks.gsr ≡ 1002)
    × ((arrives taking short_ack).after.marks.gar ≡ 2001)
    × (seen (arrives open_server short_ack) ≡ (Dropped why.ShortOff, None, phase.Open))
    × (seen (arrives (holding ShortSeqnos Here 1 open_server) short_ack) ≡ (Dropped why.ShortOff, None, phase.Open))
    × (seen (in_which phase.Closed) ≡ (Dropped why.ShortOff, None, phase.Closed))
    × (seen (in_which phase.Listen) ≡ (Dropped why.ShortOff, None, phase.Listen))
    × (seen (in_which phase.Request) ≡ (Dropped why.ShortOff, None, phase.Request))
    × (seen (in_which phase.Respond) ≡ (Took None, sent "13899c400600233e07000000000007d200000000000003ea", phase.Open))
    × (seen (in_which phase.PartOpen) ≡ (Took None, None, phase.Open))
    × (seen (in_which phase.CloseReq) ≡ (Took None, None, phase.CloseReq))
    × (seen (in_which phase.Closing) ≡ (Took None, None, phase.Closing))
    × (seen (in_which phase.TimeWait) ≡ (Dropped why.ShortOff, None, phase.TimeWait))
unfolding receives framed
where-short-numbers-are-taken = (refl, refl, refl, refl, refl, refl, refl, refl, refl, refl, refl, refl, refl)

-- the server that takes them, with another stand of that value
abbrev standing : Stand → EndState
standing stand =
    with_rows taking (slice_set taking.rows (index_of ShortSeqnos There) (record (row_at taking.rows ShortSeqnos There) { stand = stand }))

-- Only the value decides that they are taken, also if a change of it is under way, or one is to follow.
short-numbers-in-every-stand :
    (seen (arrives (standing Stable) short_ack) ≡ (Took None, None, phase.Open))
    × (seen (arrives (standing Changing) short_ack) ≡ (Took None, None, phase.Open))
    × (seen (arrives (standing Unstable) short_ack) ≡ (Took None, None, phase.Open))
unfolding receives framed
short-numbers-in-every-stand = (refl, refl, refl)

-- A wrong checksum and other ports come before.
what-comes-before-short-numbers :
    (seen (arrives taking "9c40138904002647060003ea000007d2") ≡ (Dropped (why.Sum Wrong), None, phase.Open))
    × (seen (arrives taking "9c41138904002646060003ea000007d1") ≡ (Dropped why.OtherFlow, None, phase.Open))
unfolding receives
what-comes-before-short-numbers = (refl, refl)

-- An end that takes short numbers reads long ones as they are: 1002 and 2001, each with 2^24 more, are not valid.
long-numbers-stand :
    (seen (arrives taking "9c4013890600223f07000000010003ea00000000000007d1")
    ≡ (Synced 16778218, sent "13899c400600183e11000000000007d200000000010003ea", phase.Open))
    × (seen (arrives taking "9c4013890600223f07000000000003ea00000000010007d1")
    ≡ (Synced 1002, sent "13899c400600193e11000000000007d200000000000003ea", phase.Open))
unfolding receives framed
long-numbers-stand = (refl, refl)

-- Data of a short Data and of a short DataAck, whose fixed parts have 12 and 16 bytes; the second makes an Ack due, and the first comes again.
abbrev first_data : Step Outcome
first_data = arrives taking "9c4013890300a7af040003ea686921"

abbrev second_data : Step Outcome
second_data = arrives first_data.after "9c40138904007a44080003eb000007d1aa"

data-of-short-packets :
    (seen first_data ≡ (Took (Some (12, 15)), None, phase.Open))
    × (seen second_data ≡ (Took (Some (16, 17)), sent "13899c400600233d07000000000007d200000000000003eb", phase.Open))
    × (seen (arrives second_data.after "9c4013890300a7af040003ea686921") ≡ (Took None, None, phase.Open))
unfolding receives framed
data-of-short-packets = (refl, refl, refl)

-- A Change on a short Ack counts.
options-of-a-short-packet :
    seen (arrives taking "9c40138905000347060003ea000007d1200401f8")
    ≡ (Took None, sent "13899c400800f93f07000000000007d200000000000003ea230601f802f80000", phase.Open)
unfolding receives framed
options-of-a-short-packet = refl

-- Over the end of 2^24: after the Request 2^24 - 3 and the Ack 2^24 - 2 come Data 2^24 + 1, then 2^24 - 1, and then the first again. They are
-- marked, told in order and acknowledged in full, and so is the number of a Sync.
abbrev before_2_24 : EndState
before_2_24 = taking_from 2000 "9c401389050034d70100000000fffffd0000002a" "9c4013890600262c0700000000fffffe00000000000007d0"

abbrev past_2_24 : Step Outcome
past_2_24 = arrives before_2_24 "9c40138903007a0304000001bb"

abbrev late_2_24 : Step Outcome
late_2_24 = arrives past_2_24.after "9c40138903008a0504ffffffaa"

over-the-end-of-24-bits :
    (seen past_2_24 ≡ (Took (Some (12, 13)), None, phase.Open))
    × (past_2_24.after.marks.gsr ≡ 16777217)
    × (seen late_2_24 ≡ (Took (Some (12, 13)), sent "13899c400600262707000000000007d20000000001000001", phase.Open))
    × (late_2_24.after.marks.gsr ≡ 16777217)
    × (late_2_24.after.received.set ≡ record { floor = 16777213; numbers = 16777217 ∷ 16777215 ∷ 16777214 ∷ 16777213 ∷ [] })
    × (seen (arrives late_2_24.after "9c40138903007a0304000001bb") ≡ (Took None, None, phase.Open))
    × (seen (arrives before_2_24 "9c401389040016ab06001386000007d1")
    ≡ (Synced 16782214, sent "13899c40060008a211000000000007d20000000001001386", phase.Open))
unfolding receives framed
over-the-end-of-24-bits = (refl, refl, refl, refl, refl, refl, refl)

-- The same over the end of 2^48, from the Request 2^48 - 3 on.
abbrev before_2_48 : EndState
before_2_48 = taking_from 2000 "9c401389050035d60100fffffffffffd0000002a" "9c4013890600272b0700fffffffffffe00000000000007d0"

abbrev past_2_48 : Step Outcome
past_2_48 = arrives before_2_48 "9c40138903007a0304000001bb"

abbrev late_2_48 : Step Outcome
late_2_48 = arrives past_2_48.after "9c40138903008a0504ffffffaa"

over-the-end-of-48-bits :
    (seen past_2_48 ≡ (Took (Some (12, 13)), None, phase.Open))
    × (past_2_48.after.marks.gsr ≡ 1)
    × (seen late_2_48 ≡ (Took (Some (12, 13)), sent "13899c400600272707000000000007d20000000000000001", phase.Open))
    × (late_2_48.after.marks.gsr ≡ 1)
    × (late_2_48.after.received.set
    ≡ record { floor = 281474976710653; numbers = 1 ∷ 281474976710655 ∷ 281474976710654 ∷ 281474976710653 ∷ [] })
    × (seen (arrives late_2_48.after "9c40138903007a0304000001bb") ≡ (Took None, None, phase.Open))
unfolding receives framed
over-the-end-of-48-bits = (refl, refl, refl, refl, refl, refl)

-- An acknowledgement number is the one near GSS: at a server that begins with 3 * 2^24 + 4, at one whose second number is 2^24, and at one
-- whose second number is 0. After it comes one that acknowledges the first number, across the end.
abbrev near_gss : Step Outcome
near_gss =
    arrives (taking_from 50331652 request "9c4013890600280d07000000000003e90000000003000004") "9c40138904002e13060003ea00000005"

abbrev acknowledged_2_24 : Step Outcome
acknowledged_2_24 =
    arrives (taking_from 16777215 request "9c40138906002a1207000000000003e90000000000ffffff") "9c40138904002e18060003ea00000000"

abbrev acknowledged_2_48 : Step Outcome
acknowledged_2_48 =
    arrives (taking_from 281474976710655 request "9c40138906002b1107000000000003e90000ffffffffffff") "9c40138904002e18060003ea00000000"

acknowledgement-near-gss :
    (seen near_gss ≡ (Took None, None, phase.Open))
    × (near_gss.after.marks.gar ≡ 50331653)
    × (seen acknowledged_2_24 ≡ (Took None, None, phase.Open))
    × (acknowledged_2_24.after.marks.gar ≡ 16777216)
    × (seen (arrives acknowledged_2_24.after "9c40138904002d18060003eb00ffffff") ≡ (Took None, None, phase.Open))
    × (acknowledged_2_48.after.marks.gss ≡ 0)
    × (acknowledged_2_48.after.marks.gar ≡ 0)
    × (seen (arrives acknowledged_2_48.after "9c40138904002d18060003eb00ffffff") ≡ (Took None, None, phase.Open))
unfolding receives
acknowledgement-near-gss = (refl, refl, refl, refl, refl, refl, refl, refl)

-- Both are read by the marks that the end has when the packet comes. With windows of 2^25 and 2^26, 67108869 lies 2^23 below 75497477 and is
-- found from there, but from no number after it. That is GSS in one case, where an Ack goes out with the next number, and GSR in the other.
abbrev far_below_gss : Step Outcome
far_below_gss =
    let wide : EndState = holding AckRatio There 1 (holding SequenceWindow Here (2 ^ 25) taking) in
    arrives (record wide { marks = record wide.marks { gss = 75497477 } }) "9c40138904008211080003ea00000005aa"

abbrev far_below_gsr : Step Outcome
far_below_gsr =
    let wide : EndState = holding SequenceWindow There (2 ^ 26) taking in
    arrives (record wide { marks = record wide.marks { gsr = 75497477 } }) "9c40138903008aff04000005aa"

marks-as-they-stand :
    (seen far_below_gss ≡ (Took (Some (16, 17)), sent "13899c400600268a070000000480000600000000000003ea", phase.Open))
    × (far_below_gss.after.marks.gar ≡ 67108869)
    × (seen far_below_gsr ≡ (Took (Some (12, 13)), None, phase.Open))
    × (far_below_gsr.after.marks.gsr ≡ 75497477)
    × (far_below_gsr.after.received.set ≡ record { floor = 67106822; numbers = 67108869 ∷ [] })
unfolding receives framed
marks-as-they-stand = (refl, refl, refl, refl, refl)
