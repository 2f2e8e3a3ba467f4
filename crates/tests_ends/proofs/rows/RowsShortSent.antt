-- Worked packets that go out with short numbers: a whole negotiation, and which packets may have them.
use Rattle.std.proofs.Common.{◌≡◌, refl, Bool, true, false, [], ◌∷◌, None, Ok}
use Rattle.std.specs.Prelude.{slice_set}
use Prim.Native.String.{String}
use Rattle.dccp_packets.specs.Outgoing.{bytes_sent}
use Rattle.dccp_states.specs.declared.phase.Phase.TheVariants as phase
use Rattle.dccp_states.specs.declared.phase.Role.TheVariants.{Client, Server}
use Rattle.feature_lists.specs.declared.features.Feature.TheVariants.{MinCsCov, SendAckVector, SequenceWindow, ShortSeqnos}
use Rattle.feature_lists.specs.declared.features.Place.TheVariants.{Here, There}
use Rattle.feature_lists.specs.declared.wishes.PreferFault.{PreferFault}
use Rattle.feature_lists.specs.declared.wishes.Wanted.TheVariants as wanted
use Rattle.feature_machine.specs.Lists.{index_of}
use Rattle.feature_machine.specs.Negotiating.{row_at}
use Rattle.feature_machine.specs.declared.stands.Stand.{Stand}
use Rattle.feature_machine.specs.declared.stands.Stand.TheVariants.{Changing, Stable, Unstable}
use Rattle.dccp_endpoint.specs.Calling.{Called, closes, fires, opens, prefers, sends_payload}
use Rattle.dccp_endpoint.specs.Drafts.{framed}
use Rattle.dccp_endpoint.specs.End.{EndState, new_end}
use Rattle.dccp_endpoint.specs.Receiving.{receives}
use Rattle.dccp_endpoint.specs.Steps.{Step, in_phase}
use Rattle.tests_ends.proofs.rows.RowsSeen.{arrives, client_ack, initial_rows, offering, open_server, plain, row, seen, sends, sent, server_ack, shown, wishing}
use Rattle.tests_ends.proofs.rows.RowsShort.{holding, short_ack}
use Rattle.dccp_states.specs.declared.calls.OpenFault.{OpenFault}
use Rattle.dccp_states.specs.declared.calls.SendFault.{SendFault}
use Rattle.dccp_states.specs.declared.calls.Timer.TheVariants as timers
use Rattle.dccp_states.specs.declared.outcome.Outcome.{Outcome}
use Rattle.dccp_states.specs.declared.outcome.Outcome.TheVariants.{Synced, Took}

-- A client that offers to send short numbers, and a server that lets it.
abbrev asking_client : Called OpenFault
asking_client = opens (new_end (offering (wishing (plain Client) ShortSeqnos Here (wanted.List (1 ∷ []))) ShortSeqnos Here false))

abbrev asked_server : Step Outcome
asked_server =
    arrives (new_end (wishing (plain Server) ShortSeqnos There (wanted.List (1 ∷ [])))) "9c40138906000ee301000000000003e80000002a20040201"

abbrev confirmed_client : Step Outcome
confirmed_client = arrives asking_client.after "13899c400900fe0503000000000007d000000000000003e80000002a2305020101000000"

abbrev allowing_server : Step Outcome
allowing_server = arrives asked_server.after client_ack

abbrev allowed_client : Step Outcome
allowed_client = arrives confirmed_client.after server_ack

short-numbers :
    (seen asking_client ≡ (Ok tt, sent "9c40138906000ee301000000000003e80000002a20040201", phase.Request))
    × (seen asked_server ≡ (Took None, sent "13899c400900fe0503000000000007d000000000000003e80000002a2305020101000000", phase.Respond))
    × (seen confirmed_client ≡ (Took None, sent client_ack, phase.PartOpen))
    × (seen allowing_server ≡ (Took None, sent server_ack, phase.Open))
    × (seen allowed_client ≡ (Took None, None, phase.Open))
    × (shown allowed_client.after ≡ row ShortSeqnos Here 1 Stable initial_rows)
    × (shown allowing_server.after ≡ row ShortSeqnos There 1 Stable initial_rows)
    × (seen (fires allowed_client.after timers.Ack false) ≡ (true, sent short_ack, phase.Open))
    × (seen (arrives allowing_server.after short_ack) ≡ (Took None, None, phase.Open))
unfolding receives opens fires framed
short-numbers = (refl, refl, refl, refl, refl, refl, refl, refl, refl)

-- the server of the plain handshake, which may send short numbers
abbrev pub sending : EndState
sending = holding ShortSeqnos Here 1 open_server

abbrev standing : Stand → EndState → EndState
standing stand e = record e { rows = slice_set e.rows (index_of ShortSeqnos Here) (record (row_at e.rows ShortSeqnos Here) { stand = stand }) }

-- the Ack of the timer
abbrev pub acknowledges : EndState → Step Bool
acknowledges e = fires e timers.Ack false

abbrev short_one : String
short_one = "13899c4004002647060007d2000003e9"

abbrev long_one : String
long_one = "13899c400600233f07000000000007d200000000000003e9"

-- It is short by the value here and not by that at the peer, where that is settled, in OPEN, and with windows of at most 2^22.
which-acks-are-short :
    (bytes_sent (acknowledges sending).frame ≡ sent short_one)
    × (bytes_sent (acknowledges (holding ShortSeqnos There 1 open_server)).frame ≡ sent long_one)
    × (bytes_sent (acknowledges (standing Changing sending)).frame ≡ sent long_one)
    × (bytes_sent (acknowledges (standing Unstable sending)).frame ≡ sent long_one)
    × (bytes_sent (acknowledges (in_phase sending phase.PartOpen)).frame ≡ sent long_one)
    × (bytes_sent (acknowledges (holding SequenceWindow Here 4194304 (holding SequenceWindow There 4194304 sending))).frame ≡ sent short_one)
    × (bytes_sent (acknowledges (holding SequenceWindow Here 4194305 sending)).frame ≡ sent long_one)
    × (bytes_sent (acknowledges (holding SequenceWindow There 4194305 sending)).frame ≡ sent long_one)
unfolding receives fires framed
which-acks-are-short = (refl, refl, refl, refl, refl, refl, refl, refl)

-- The phase that counts is the one after: an Ack that opens RESPOND is answered by a short one. A Confirm makes an Ack long, and so does a
-- Change, each time it goes out; the Ack between them is short. What is no Ack, no Data and no DataAck is long.
abbrev wishing_coverage : Called PreferFault
wishing_coverage = prefers sending (MinCsCov, Here) (1 ∷ [])

what-is-long :
    (seen (arrives (in_phase sending phase.Respond) "9c4013890600233f07000000000003ea00000000000007d1")
    ≡ (Took None, sent "13899c4004002646060007d2000003ea", phase.Open))
    × (seen (arrives sending "9c4013890700003f07000000000003ea00000000000007d1200401f8")
    ≡ (Took None, sent "13899c400800f93f07000000000007d200000000000003ea230601f802f80000", phase.Open))
    × (bytes_sent wishing_coverage.frame ≡ sent "13899c400700fa3507000000000007d200000000000003e920040801")
    × (bytes_sent (acknowledges wishing_coverage.after).frame ≡ sent "13899c4004002646060007d3000003e9")
    × (bytes_sent (fires (acknowledges wishing_coverage.after).after timers.Negotiate false).frame
    ≡ sent "13899c400700fa3307000000000007d400000000000003e920040801")
    × (bytes_sent (closes sending).frame ≡ sent "13899c4006001f3f0b000000000007d200000000000003e9")
    × (seen (arrives sending "9c4013890600214b07000000000005de00000000000007d1")
    ≡ (Synced 1502, sent "13899c400600174a11000000000007d200000000000005de", phase.Open))
unfolding receives prefers fires closes framed
what-is-long = (refl, refl, refl, refl, refl, refl, refl)

-- An Ack Vector beside makes nothing long; a DataAck and a Data are short.
abbrev data_sending : EndState
data_sending = holding SendAckVector There 1 sending

abbrev first_sent : Called SendFault
first_sent = sends data_sending "aa"

short-packets-with-vectors-and-data :
    (bytes_sent (acknowledges (holding SendAckVector Here 1 sending)).frame ≡ sent "13899c400500fe3f060007d2000003e926030100")
    × (bytes_sent first_sent.frame ≡ sent "13899c4003008332040007d2aa")
    × (bytes_sent (sends (record data_sending { owed = true }) "aa").frame ≡ sent "13899c4004007a45080007d2000003e9aa")
    × (bytes_sent (sends (record (holding SendAckVector Here 1 data_sending) { owed = true }) "aa").frame
    ≡ sent "13899c400500523e080007d2000003e926030100aa")
unfolding receives fires sends_payload framed
short-packets-with-vectors-and-data = (refl, refl, refl, refl)

-- the low 24 bits of 2^24, of 0 after 2^48 - 1, and of an acknowledged 2^24
cut-to-24-bits :
    (bytes_sent (acknowledges (record sending { marks = record sending.marks { gss = 16777215 } })).frame ≡ sent "13899c4004002e1906000000000003e9")
    × (bytes_sent (acknowledges (record sending { marks = record sending.marks { gss = 281474976710655 } })).frame ≡ sent "13899c4004002e1906000000000003e9")
    × (bytes_sent (acknowledges (record sending { marks = record sending.marks { gsr = 16777216 } })).frame ≡ sent "13899c4004002a30060007d200000000")
unfolding receives fires framed
cut-to-24-bits = (refl, refl, refl)
