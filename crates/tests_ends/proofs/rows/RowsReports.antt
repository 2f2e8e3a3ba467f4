-- Worked reports, computed from the definitions: which packets report to the congestion control, what they report, and when the congestion
-- control is started.
use Rattle.std.proofs.Common.{◌≡◌, refl, ℕ, List, [], ◌∷◌, Some, None}
use Prim.Native.String.{String}
use Rattle.dccp_packets.specs.Outgoing.{bytes_sent}
use Rattle.dccp_packets.specs.declared.header.PacketType.TheVariants as types
use Rattle.dccp_states.specs.declared.phase.Phase.TheVariants as phase
use Rattle.feature_lists.specs.declared.features.Feature.TheVariants as f
use Rattle.feature_lists.specs.declared.features.Place.TheVariants.{Here}
use Rattle.feature_lists.specs.declared.wishes.PreferFault.{PreferFault}
use Rattle.feature_machine.specs.declared.row.Row.{Row}
use Rattle.dccp_endpoint.specs.Calling.{Called, opens, prefers, sends_payload}
use Rattle.dccp_endpoint.specs.Congesting.{calls_for, start_calls}
use Rattle.dccp_endpoint.specs.Drafts.{framed}
use Rattle.dccp_endpoint.specs.End.{EndState, value_in}
use Rattle.dccp_endpoint.specs.Incoming.{Incoming}
use Rattle.dccp_endpoint.specs.Receiving.{receives}
use Rattle.dccp_endpoint.specs.Steps.{Step}
use Rattle.dccp_states.specs.declared.outcome.Outcome.{Outcome}
use Rattle.dccp_states.specs.declared.outcome.Outcome.TheVariants.{SentReset, Synced, Took, WasReset}
use Rattle.tests_ends.proofs.rows.RowsData.{usual_client}
use Rattle.tests_ends.proofs.rows.RowsOffers.{choosing_248, offering_2, offering_248, usual_vector}
use Rattle.tests_ends.proofs.rows.RowsSeen.{Reported, Sent, Started, arrives, calls_at, listening, open_client, seen, sends, sent}

-- A Sync reports nothing, whatever its options, and neither does a packet that acknowledges nothing, as a Data.
pub sync-reports-nothing : (a : Incoming) (old new : List Row) → a.kind ≡ types.Sync
    → calls_for a old new ≡ start_calls (value_in old f.Ccid Here) (value_in new f.Ccid Here)
sync-reports-nothing a old new is = rw is refl

pub unacknowledging-reports-nothing : (a : Incoming) (old new : List Row) → a.kind ≡ types.Data → a.ack ≡ None
    → calls_for a old new ≡ start_calls (value_in old f.Ccid Here) (value_in new f.Ccid Here)
unacknowledging-reports-nothing a old new is none = rw (is, none) refl

-- What the client of the usual connection hears of the numbers 1001, 1000 and 999: by a SyncAck, by a Sync, which it answers, by an Ack with
-- two Ack Vectors, by one without, and by an Ack that comes again.
abbrev told : String → Step Outcome
told digits = arrives usual_client digits

abbrev three : List ℕ
three = 1001 ∷ 1000 ∷ 999 ∷ []

which-packets-report :
    (calls_at three (told "13899c400700f03713000000000007d200000000000003e926030000") ≡ Reported (Some 0 ∷ None ∷ None ∷ []) 2 ∷ [])
    × (seen (told "13899c400700f23711000000000007d200000000000003e926030000")
    ≡ (Took None, sent "9c4013890600173e13000000000003ea00000000000007d2", phase.Open))
    × (calls_at three (told "13899c400700f23711000000000007d200000000000003e926030000") ≡ [])
    × (calls_at three (told "13899c40080076cc07000000000007d200000000000003e92603002704408000") ≡ Reported (Some 0 ∷ Some 1 ∷ Some 3 ∷ []) 2 ∷ [])
    × (calls_at three (told "13899c400600233f07000000000007d200000000000003e9") ≡ [])
    × (calls_at three (told usual_vector) ≡ Reported (Some 0 ∷ Some 0 ∷ None ∷ []) 2 ∷ [])
unfolding receives opens framed
which-packets-report = (refl, refl, refl, refl, refl, refl)

-- A Close reports before it is answered. A Reset reports nothing, nor does a packet that is answered with a Sync or whose options have a
-- fault, and a Request acknowledges nothing.
reports-at-the-end :
    (seen (told "13899c400700f6370d000000000007d200000000000003e926030000")
    ≡ (SentReset 1 (0 ∷ 0 ∷ 0 ∷ []), sent "9c4013890700193a0f000000000003ea00000000000007d201000000", phase.Closed))
    × (calls_at three (told "13899c400700f6370d000000000007d200000000000003e926030000") ≡ Reported (Some 0 ∷ None ∷ None ∷ []) 2 ∷ [])
    × (seen (told "13899c400800f1330f000000000007d200000000000003e90200000026030000") ≡ (WasReset 2, None, phase.TimeWait))
    × (calls_at three (told "13899c400800f1330f000000000007d200000000000003e90200000026030000") ≡ [])
    × (seen (told "13899c400700fc3607000000000007d200000000000003ea26030000")
    ≡ (Synced 2002, sent "9c4013890600193e11000000000003ea00000000000007d2", phase.Open))
    × (calls_at three (told "13899c400700fc3607000000000007d200000000000003ea26030000") ≡ [])
    × (seen (told "13899c400800983007000000000007d200000000000003e92603000163020000")
    ≡ (SentReset 6 (99 ∷ 0 ∷ 0 ∷ []), sent "9c401389070013d70f000000000003ea00000000000007d206630000", phase.Closed))
    × (calls_at three (told "13899c400800983007000000000007d200000000000003e92603000163020000") ≡ [])
    × (calls_at three (arrives listening "9c40138906000ae501000000000003e80000002a26030000") ≡ [])
unfolding receives opens framed
reports-at-the-end = (refl, refl, refl, refl, refl, refl, refl, refl, refl)

-- The server's order wins: the client is started with 248, which the Response confirms. A CCID at the peer starts nothing, nor does one that
-- stays.
starts-of-server-order :
    (calls_at [] (arrives choosing_248 "9c401389070016dc01000000000003e80000002a20050102f8000000") ≡ [])
    × (calls_at [] (arrives offering_2 "13899c400900070b03000000000007d000000000000003e80000002a230601f8f8020000") ≡ Started 248 ∷ [])
    × (calls_at [] (arrives offering_248 "13899c400900fd0b03000000000007d000000000000003e80000002a2306010202f80000") ≡ [])
unfolding receives opens framed
starts-of-server-order = (refl, refl, refl)

-- A client that prefers 248 in OPEN: the Ack that confirms it reports first, and then comes the start. One that prefers the Ack Ratio 4: the
-- Ack that confirms it reports with this ratio.
abbrev preferring_248 : Called PreferFault
preferring_248 = prefers open_client (f.Ccid, Here) (248 ∷ 2 ∷ [])

abbrev preferring_4 : Called PreferFault
preferring_4 = prefers open_client (f.AckRatio, Here) (4 ∷ [])

report-and-start :
    (bytes_sent preferring_248.frame ≡ sent "9c4013890800fd3907000000000003ea00000000000007d1200501f802000000")
    × (calls_at (1002 ∷ 1001 ∷ []) (arrives preferring_248.after "13899c400900f91107000000000007d200000000000003ea260300230601f8f802000000")
    ≡ Reported (Some 0 ∷ None ∷ []) 2 ∷ Started 248 ∷ [])
    × (bytes_sent preferring_4.frame ≡ sent "9c4013890800f83107000000000003ea00000000000007d12005050004000000")
    × (calls_at (1002 ∷ 1001 ∷ []) (arrives preferring_4.after "13899c400800f60607000000000007d200000000000003ea2603002305050004")
    ≡ Reported (Some 0 ∷ None ∷ []) 4 ∷ [])
unfolding receives opens prefers framed
report-and-start = (refl, refl, refl, refl)

-- The window of CCID 2, by what an end hands to it: 1002 to 1005 are sent and reported. 1006 to 1010 are sent, and 1007 to 1009 reported.
-- 1011 is sent and reported, and so are 1012 and 1013.
abbrev four_sent : EndState
four_sent = (sends (sends (sends (sends usual_client "01").after "02").after "03").after "04").after

abbrev four_told : Step Outcome
four_told = arrives four_sent "13899c400700f93307000000000007d200000000000003ed26030300"

abbrev nine_sent : EndState
nine_sent = (sends (sends (sends (sends (sends four_told.after "05").after "06").after "07").after "08").after "09").after

abbrev three_told : Step Outcome
three_told = arrives nine_sent "13899c400700f96d07000000000007d300000000000003f1260402c0"

abbrev ten_told : Step Outcome
ten_told = arrives (sends three_told.after "0a").after "13899c400700fb6a07000000000007d400000000000003f3260400c0"

abbrev eleven_told : Step Outcome
eleven_told = arrives (sends ten_told.after "0b").after "13899c400700fc2907000000000007d500000000000003f426030000"

abbrev twelve_told : Step Outcome
twelve_told = arrives (sends eleven_told.after "0c").after "13899c400700fc2707000000000007d600000000000003f526030000"

window-of-ccid-two :
    (calls_at [] (sends nine_sent "0a") ≡ Sent 1011 ∷ [])
    × (calls_at (1006 ∷ 1005 ∷ 1004 ∷ 1003 ∷ 1002 ∷ 1001 ∷ []) four_told
    ≡ Reported (None ∷ Some 0 ∷ Some 0 ∷ Some 0 ∷ Some 0 ∷ None ∷ []) 2 ∷ [])
    × (calls_at (1010 ∷ 1009 ∷ 1008 ∷ 1007 ∷ 1006 ∷ 1005 ∷ []) three_told
    ≡ Reported (None ∷ Some 0 ∷ Some 0 ∷ Some 0 ∷ Some 3 ∷ None ∷ []) 2 ∷ [])
    × (calls_at (1012 ∷ 1011 ∷ 1010 ∷ 1009 ∷ []) ten_told ≡ Reported (None ∷ Some 0 ∷ Some 3 ∷ None ∷ []) 2 ∷ [])
    × (calls_at (1012 ∷ 1011 ∷ []) eleven_told ≡ Reported (Some 0 ∷ None ∷ []) 2 ∷ [])
    × (calls_at (1013 ∷ 1012 ∷ []) twelve_told ≡ Reported (Some 0 ∷ None ∷ []) 2 ∷ [])
unfolding receives opens sends_payload framed
window-of-ccid-two = (refl, refl, refl, refl, refl, refl)
