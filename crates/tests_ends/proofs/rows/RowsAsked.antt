-- Worked answers to what no replay has a line for and two ends of this project never send each other, computed from the definitions: Changes and
-- Confirms that meet a wish, for both roles (RFC 4340, section 6, and the table of this profile); each packet type at a client before `open`,
-- and what a server that has asked for a Close answers to types that its peer may not send (RFC 4340, section 8.5). The values were worked out
-- by hand.
use Rattle.std.proofs.Common.{◌≡◌, refl, ℕ, false, List, [], ◌∷◌, Option, None}
use Prim.Native.String.{String}
use Rattle.dccp_packets.specs.Outgoing.{bytes_sent}
use Rattle.dccp_states.specs.declared.calls.Timer.TheVariants as timers
use Rattle.dccp_states.specs.declared.outcome.Outcome.{Outcome}
use Rattle.dccp_states.specs.declared.outcome.Outcome.TheVariants.{Dropped, SentReset, Synced, Took}
use Rattle.dccp_states.specs.declared.outcome.Why.TheVariants.{StrayReset}
use Rattle.dccp_states.specs.declared.phase.Phase.TheVariants as phase
use Rattle.dccp_states.specs.declared.phase.Role.TheVariants.{Client}
use Rattle.feature_lists.specs.declared.features.Feature.{Feature}
use Rattle.feature_lists.specs.declared.features.Feature.TheVariants as f
use Rattle.feature_lists.specs.declared.features.Place.{Place}
use Rattle.feature_lists.specs.declared.features.Place.TheVariants.{Here, There}
use Rattle.feature_machine.specs.Negotiating.{row_at}
use Rattle.feature_machine.specs.declared.stands.Stand.{Stand}
use Rattle.feature_machine.specs.declared.stands.Stand.TheVariants.{Stable, Changing, Unstable}
use Rattle.dccp_endpoint.specs.Calling.{closes, fires, opens, prefers}
use Rattle.dccp_endpoint.specs.Drafts.{framed}
use Rattle.dccp_endpoint.specs.End.{EndState, new_end}
use Rattle.dccp_endpoint.specs.Receiving.{receives}
use Rattle.dccp_endpoint.specs.Steps.{Step}
use Rattle.tests_ends.proofs.rows.RowsSeen.{arrives, open_server, plain, requesting, response, seen, sent}

-- the ends in OPEN; the server's Ack acknowledges the Request
abbrev server : EndState
server = open_server

abbrev client : EndState
client = (arrives (arrives requesting response).after "13899c400600234107000000000007d100000000000003e8").after

-- an end asks for something, and its Change goes out again
abbrev asks : EndState → Feature → Place → List ℕ → EndState
asks e feature place values = (prefers e (feature, place) values).after

abbrev again : EndState → EndState
again e = (fires e timers.Negotiate false).after

-- its row of Minimum Checksum Coverage in CHANGING, where it asks for 1, else 2; and in UNSTABLE, where it wants 2 by now
abbrev changing : EndState → Place → EndState
changing e place = asks e f.MinCsCov place (1 ∷ 2 ∷ [])

abbrev unstable : EndState → Place → EndState
unstable e place = asks (changing e place) f.MinCsCov place (2 ∷ [])

-- what it answers to a packet, holds for a feature then, and sends
abbrev answered : Feature → Place → Step Outcome → Outcome × ℕ × Stand × Option (List ℕ)
answered feature place step =
    (step.answer, (row_at step.after.rows feature place).value, (row_at step.after.rows feature place).stand, bytes_sent step.frame)

abbrev answers : EndState → Feature → Place → String → Outcome × ℕ × Stand × Option (List ℕ)
answers e feature place digits = answered feature place (arrives e digits)

-- a client that was not opened, and a server that has asked for a Close
abbrev closed : EndState
closed = new_end (plain Client)

abbrev closing : EndState
closing = (closes open_server).after

-- At a server, and then the same at a client.
what_meets_a_wish :
    -- A Change that is not valid, at a row in CHANGING and at one in UNSTABLE
    (answers (changing server Here) f.MinCsCov Here "9c4013890700f83607000000000003ea00000000000007d222030800"
    ≡ (Took None, 0, Changing, sent "13899c400700f93507000000000007d300000000000003ea21030800"))
    × (answers (changing server Here) f.MinCsCov Here "9c40138907001e1007000000000003ea00000000000007d201220308"
    ≡ (SentReset 6 (34 ∷ 8 ∷ 0 ∷ []), 0, Changing, sent "13899c4007000c170f000000000007d300000000000003ea06220800"))
    × (answers (unstable server Here) f.MinCsCov Here "9c4013890700f83607000000000003ea00000000000007d222030800"
    ≡ (Took None, 0, Unstable, sent "13899c400700f93507000000000007d300000000000003ea21030800"))
    × (answers (unstable server Here) f.MinCsCov Here "9c40138907001e1007000000000003ea00000000000007d201220308"
    ≡ (SentReset 6 (34 ∷ 8 ∷ 0 ∷ []), 0, Unstable, sent "13899c4007000c170f000000000007d300000000000003ea06220800"))
    -- A valid Change at a row in UNSTABLE is ignored, with its Mandatory
    × (answers (unstable server Here) f.MinCsCov Here "9c4013890700f83307000000000003ea00000000000007d222040802"
    ≡ (Took None, 0, Unstable, None))
    × (answers (unstable server Here) f.MinCsCov Here "9c4013890800170c07000000000003ea00000000000007d20122040805000000"
    ≡ (Took None, 0, Unstable, None))
    -- A row in CHANGING answers with the list that it has sent, takes the value and stays
    × (answers (changing server Here) f.MinCsCov Here "9c4013890800f62e07000000000003ea00000000000007d22205080201000000"
    ≡ (Took None, 1, Changing, sent "13899c400800f72b07000000000007d300000000000003ea2106080101020000"))
    × (answers (changing server Here) f.MinCsCov Here "9c40138908001a0c07000000000003ea00000000000007d20122040802000000"
    ≡ (Took None, 2, Changing, sent "13899c400800f72a07000000000007d300000000000003ea2106080201020000"))
    × (answers (changing server There) f.MinCsCov There "9c4013890700fa3007000000000003ea00000000000007d220040805"
    ≡ (Took None, 0, Changing, sent "13899c400800f52c07000000000007d300000000000003ea2306080001020000"))
    × (answers (changing server There) f.MinCsCov There "9c4013890800170e07000000000003ea00000000000007d20120040805000000"
    ≡ (SentReset 6 (32 ∷ 8 ∷ 5 ∷ []), 0, Changing, sent "13899c4007000c140f000000000007d300000000000003ea06200805"))
    -- Confirms at a row in UNSTABLE are ignored
    × (answers (unstable server Here) f.MinCsCov Here "9c4013890800f52f07000000000003ea00000000000007d22305080101000000"
    ≡ (Took None, 0, Unstable, None))
    × (answers (unstable server Here) f.MinCsCov Here "9c4013890700f72c07000000000003ea00000000000007d223040809"
    ≡ (Took None, 0, Unstable, None))
    -- A Confirm that acknowledges a number before the Change's is ignored, also if the Change was sent again
    × (answers (changing server Here) f.MinCsCov Here "9c4013890800f52d07000000000003ea00000000000007d12306080101020000"
    ≡ (Took None, 0, Changing, None))
    × (answers (changing server Here) f.MinCsCov Here "9c4013890800f52c07000000000003ea00000000000007d22306080101020000"
    ≡ (Took None, 1, Stable, None))
    × (answers (again (changing server Here)) f.MinCsCov Here "9c4013890800f52d07000000000003ea00000000000007d12306080101020000"
    ≡ (Took None, 0, Changing, None))
    × (answers (again (changing server Here)) f.MinCsCov Here "9c4013890800f52c07000000000003ea00000000000007d22306080101020000"
    ≡ (Took None, 1, Stable, None))
    × (answers (again (changing server Here)) f.MinCsCov Here "9c4013890800f52b07000000000003ea00000000000007d32306080101020000"
    ≡ (Took None, 1, Stable, None))
    -- An empty Confirm is an Option Error for the features 1 to 3, which are required, and settles the others
    × (answers (asks server f.Ccid Here (2 ∷ [])) f.Ccid Here "9c4013890700fe3607000000000003ea00000000000007d223030100"
    ≡ (SentReset 5 (35 ∷ 1 ∷ 0 ∷ []), 2, Changing, sent "13899c40070014160f000000000007d300000000000003ea05230100"))
    × (answers (asks server f.ShortSeqnos Here (0 ∷ [])) f.ShortSeqnos Here "9c4013890700fd3607000000000003ea00000000000007d223030200"
    ≡ (SentReset 5 (35 ∷ 2 ∷ 0 ∷ []), 0, Changing, sent "13899c40070013160f000000000007d300000000000003ea05230200"))
    × (answers (asks server f.SequenceWindow Here (100 ∷ [])) f.SequenceWindow Here "9c4013890700fc3607000000000003ea00000000000007d223030300"
    ≡ (SentReset 5 (35 ∷ 3 ∷ 0 ∷ []), 100, Changing, sent "13899c40070012160f000000000007d300000000000003ea05230300"))
    × (answers (asks server f.EcnIncapable Here (1 ∷ [])) f.EcnIncapable Here "9c4013890700fb3607000000000003ea00000000000007d223030400"
    ≡ (Took None, 0, Stable, None))
    × (answers (asks server f.AckRatio Here (2 ∷ [])) f.AckRatio Here "9c4013890700fa3607000000000003ea00000000000007d223030500"
    ≡ (Took None, 2, Stable, None))
    × (answers (asks server f.SendAckVector Here (1 ∷ 0 ∷ [])) f.SendAckVector Here "9c4013890700f93607000000000003ea00000000000007d223030600"
    ≡ (Took None, 0, Stable, None))
    × (answers (asks server f.SendNdpCount Here (0 ∷ [])) f.SendNdpCount Here "9c4013890700f83607000000000003ea00000000000007d223030700"
    ≡ (Took None, 0, Stable, None))
    × (answers (asks server f.MinCsCov Here (0 ∷ [])) f.MinCsCov Here "9c4013890700f73607000000000003ea00000000000007d223030800"
    ≡ (Took None, 0, Stable, None))
    ×
    (answers (asks server f.CheckDataChecksum Here (0 ∷ [])) f.CheckDataChecksum Here "9c4013890700f63607000000000003ea00000000000007d223030900"
    ≡ (Took None, 0, Stable, None))
    -- A Confirm with a list: of what the two lists settle on, of what is held where they share nothing, and of any other value
    × (answers (changing server Here) f.MinCsCov Here "9c4013890800f52c07000000000003ea00000000000007d22306080101020000"
    ≡ (Took None, 1, Stable, None))
    × (answers (changing server Here) f.MinCsCov Here "9c4013890800f42c07000000000003ea00000000000007d22306080202010000"
    ≡ (SentReset 5 (35 ∷ 8 ∷ 2 ∷ []), 0, Changing, sent "13899c4007000d140f000000000007d300000000000003ea05230802"))
    × (answers (changing server Here) f.MinCsCov Here "9c4013890800f42d07000000000003ea00000000000007d22306080102010000"
    ≡ (Took None, 1, Stable, None))
    × (answers (changing server Here) f.MinCsCov Here "9c4013890800f42e07000000000003ea00000000000007d22305080202000000"
    ≡ (Took None, 2, Stable, None))
    × (answers (changing server Here) f.MinCsCov Here "9c4013890800f12907000000000003ea00000000000007d22306080005060000"
    ≡ (Took None, 0, Stable, None))
    × (answers (changing server Here) f.MinCsCov Here "9c4013890800f12407000000000003ea00000000000007d22306080505060000"
    ≡ (SentReset 5 (35 ∷ 8 ∷ 5 ∷ []), 0, Changing, sent "13899c4007000d110f000000000007d300000000000003ea05230805"))
    × (answers (changing server Here) f.MinCsCov Here "9c4013890800f52d07000000000003ea00000000000007d22306080001020000"
    ≡ (SentReset 5 (35 ∷ 8 ∷ 0 ∷ []), 0, Changing, sent "13899c4007000d160f000000000007d300000000000003ea05230800"))
    -- The same at the peer, by Confirm L; Confirm R speaks of the other row
    × (answers (changing server There) f.MinCsCov There "9c4013890800f72c07000000000003ea00000000000007d22106080101020000"
    ≡ (Took None, 1, Stable, None))
    × (answers (changing server There) f.MinCsCov There "9c4013890800f33007000000000003ea00000000000007d22105080005000000"
    ≡ (Took None, 0, Stable, None))
    × (answers (changing server There) f.MinCsCov There "9c4013890800f52d07000000000003ea00000000000007d22105080303000000"
    ≡ (SentReset 5 (33 ∷ 8 ∷ 3 ∷ []), 0, Changing, sent "13899c4007000d150f000000000007d300000000000003ea05210803"))
    × (answers (changing server There) f.MinCsCov There "9c4013890800f52c07000000000003ea00000000000007d22306080101020000"
    ≡ (Took None, 0, Changing, None))
    -- A Confirm of only a value: one of the list, the one that is held, and another
    × (answers (changing server Here) f.MinCsCov Here "9c4013890700f73307000000000003ea00000000000007d223040802" ≡ (Took None, 2, Stable, None))
    × (answers (changing server Here) f.MinCsCov Here "9c4013890700f73507000000000003ea00000000000007d223040800" ≡ (Took None, 0, Stable, None))
    × (answers (changing server Here) f.MinCsCov Here "9c4013890700f73207000000000003ea00000000000007d223040803"
    ≡ (SentReset 5 (35 ∷ 8 ∷ 3 ∷ []), 0, Changing, sent "13899c4007000d130f000000000007d300000000000003ea05230803"))
    -- A Confirm of a non-negotiable feature: of the value, of another, and of another length
    ×
    (answers (asks server f.SequenceWindow Here (200 ∷ [])) f.SequenceWindow Here "9c4013890900322807000000000003ea00000000000007d22309030000000000c8000000"
    ≡ (Took None, 200, Stable, None))
    ×
    (answers (asks server f.SequenceWindow Here (200 ∷ [])) f.SequenceWindow Here "9c4013890900312807000000000003ea00000000000007d22309030000000000c9000000"
    ≡ (SentReset 5 (35 ∷ 3 ∷ 0 ∷ []), 100, Changing, sent "13899c40070012160f000000000007d300000000000003ea05230300"))
    ×
    (answers (asks server f.SequenceWindow Here (200 ∷ [])) f.SequenceWindow Here "9c4013890800fa6507000000000003ea00000000000007d223080300000000c8"
    ≡ (SentReset 5 (35 ∷ 3 ∷ 0 ∷ []), 100, Changing, sent "13899c40070012160f000000000007d300000000000003ea05230300"))
    ×
    (answers (asks server f.SequenceWindow Here (200 ∷ [])) f.SequenceWindow Here "9c4013890900f95f07000000000003ea00000000000007d2230a03000000000000c80000"
    ≡ (SentReset 5 (35 ∷ 3 ∷ 0 ∷ []), 100, Changing, sent "13899c40070012160f000000000007d300000000000003ea05230300"))
unfolding receives opens prefers fires framed
what_meets_a_wish = (
  refl,
  refl,
  refl,
  refl,
  refl,
  refl,
  refl,
  refl,
  refl,
  refl,
  refl,
  refl,
  refl,
  refl,
  refl,
  refl,
  refl,
  refl,
  refl,
  refl,
  refl,
  refl,
  refl,
  refl,
  refl,
  refl,
  refl,
  refl,
  refl,
  refl,
  refl,
  refl,
  refl,
  refl,
  refl,
  refl,
  refl,
  refl,
  refl,
  refl,
  refl,
  refl,
  refl,
  refl,
)

what_meets_a_clients_wish :
    -- A Change that is not valid, at a row in CHANGING and at one in UNSTABLE
    (answers (changing client Here) f.MinCsCov Here "13899c400700f83607000000000007d200000000000003ea22030800"
    ≡ (Took None, 0, Changing, sent "9c4013890700f93507000000000003eb00000000000007d221030800"))
    × (answers (changing client Here) f.MinCsCov Here "13899c4007001e1007000000000007d200000000000003ea01220308"
    ≡ (SentReset 6 (34 ∷ 8 ∷ 0 ∷ []), 0, Changing, sent "9c40138907000c170f000000000003eb00000000000007d206220800"))
    × (answers (unstable client Here) f.MinCsCov Here "13899c400700f83607000000000007d200000000000003ea22030800"
    ≡ (Took None, 0, Unstable, sent "9c4013890700f93507000000000003eb00000000000007d221030800"))
    × (answers (unstable client Here) f.MinCsCov Here "13899c4007001e1007000000000007d200000000000003ea01220308"
    ≡ (SentReset 6 (34 ∷ 8 ∷ 0 ∷ []), 0, Unstable, sent "9c40138907000c170f000000000003eb00000000000007d206220800"))
    -- A valid Change at a row in UNSTABLE is ignored, with its Mandatory
    × (answers (unstable client Here) f.MinCsCov Here "13899c400700f83307000000000007d200000000000003ea22040802"
    ≡ (Took None, 0, Unstable, None))
    × (answers (unstable client Here) f.MinCsCov Here "13899c400800170c07000000000007d200000000000003ea0122040805000000"
    ≡ (Took None, 0, Unstable, None))
    -- A row in CHANGING answers with the list that it has sent, takes the value and stays
    × (answers (changing client Here) f.MinCsCov Here "13899c400800f62e07000000000007d200000000000003ea2205080201000000"
    ≡ (Took None, 2, Changing, sent "9c4013890800f72a07000000000003eb00000000000007d22106080201020000"))
    × (answers (changing client Here) f.MinCsCov Here "13899c4008001a0c07000000000007d200000000000003ea0122040802000000"
    ≡ (Took None, 2, Changing, sent "9c4013890800f72a07000000000003eb00000000000007d22106080201020000"))
    × (answers (changing client There) f.MinCsCov There "13899c400700fa3007000000000007d200000000000003ea20040805"
    ≡ (Took None, 0, Changing, sent "9c4013890800f52c07000000000003eb00000000000007d22306080001020000"))
    × (answers (changing client There) f.MinCsCov There "13899c400800170e07000000000007d200000000000003ea0120040805000000"
    ≡ (SentReset 6 (32 ∷ 8 ∷ 5 ∷ []), 0, Changing, sent "9c40138907000c140f000000000003eb00000000000007d206200805"))
    -- Confirms at a row in UNSTABLE are ignored
    × (answers (unstable client Here) f.MinCsCov Here "13899c400800f52f07000000000007d200000000000003ea2305080101000000"
    ≡ (Took None, 0, Unstable, None))
    × (answers (unstable client Here) f.MinCsCov Here "13899c400700f72c07000000000007d200000000000003ea23040809"
    ≡ (Took None, 0, Unstable, None))
    -- A Confirm that acknowledges a number before the Change's is ignored, also if the Change was sent again
    × (answers (changing client Here) f.MinCsCov Here "13899c400800f52d07000000000007d200000000000003e92306080101020000"
    ≡ (Took None, 0, Changing, None))
    × (answers (changing client Here) f.MinCsCov Here "13899c400800f52c07000000000007d200000000000003ea2306080101020000"
    ≡ (Took None, 1, Stable, None))
    × (answers (again (changing client Here)) f.MinCsCov Here "13899c400800f52d07000000000007d200000000000003e92306080101020000"
    ≡ (Took None, 0, Changing, None))
    × (answers (again (changing client Here)) f.MinCsCov Here "13899c400800f52c07000000000007d200000000000003ea2306080101020000"
    ≡ (Took None, 1, Stable, None))
    × (answers (again (changing client Here)) f.MinCsCov Here "13899c400800f52b07000000000007d200000000000003eb2306080101020000"
    ≡ (Took None, 1, Stable, None))
    -- An empty Confirm is an Option Error for the features 1 to 3, which are required, and settles the others
    × (answers (asks client f.Ccid Here (2 ∷ [])) f.Ccid Here "13899c400700fe3607000000000007d200000000000003ea23030100"
    ≡ (SentReset 5 (35 ∷ 1 ∷ 0 ∷ []), 2, Changing, sent "9c401389070014160f000000000003eb00000000000007d205230100"))
    × (answers (asks client f.ShortSeqnos Here (0 ∷ [])) f.ShortSeqnos Here "13899c400700fd3607000000000007d200000000000003ea23030200"
    ≡ (SentReset 5 (35 ∷ 2 ∷ 0 ∷ []), 0, Changing, sent "9c401389070013160f000000000003eb00000000000007d205230200"))
    × (answers (asks client f.SequenceWindow Here (100 ∷ [])) f.SequenceWindow Here "13899c400700fc3607000000000007d200000000000003ea23030300"
    ≡ (SentReset 5 (35 ∷ 3 ∷ 0 ∷ []), 100, Changing, sent "9c401389070012160f000000000003eb00000000000007d205230300"))
    × (answers (asks client f.EcnIncapable Here (1 ∷ [])) f.EcnIncapable Here "13899c400700fb3607000000000007d200000000000003ea23030400"
    ≡ (Took None, 0, Stable, None))
    × (answers (asks client f.AckRatio Here (2 ∷ [])) f.AckRatio Here "13899c400700fa3607000000000007d200000000000003ea23030500"
    ≡ (Took None, 2, Stable, None))
    × (answers (asks client f.SendAckVector Here (1 ∷ 0 ∷ [])) f.SendAckVector Here "13899c400700f93607000000000007d200000000000003ea23030600"
    ≡ (Took None, 0, Stable, None))
    × (answers (asks client f.SendNdpCount Here (0 ∷ [])) f.SendNdpCount Here "13899c400700f83607000000000007d200000000000003ea23030700"
    ≡ (Took None, 0, Stable, None))
    × (answers (asks client f.MinCsCov Here (0 ∷ [])) f.MinCsCov Here "13899c400700f73607000000000007d200000000000003ea23030800"
    ≡ (Took None, 0, Stable, None))
    ×
    (answers (asks client f.CheckDataChecksum Here (0 ∷ [])) f.CheckDataChecksum Here "13899c400700f63607000000000007d200000000000003ea23030900"
    ≡ (Took None, 0, Stable, None))
    -- A Confirm with a list: of what the two lists settle on, of what is held where they share nothing, and of any other value
    × (answers (changing client Here) f.MinCsCov Here "13899c400800f52c07000000000007d200000000000003ea2306080101020000"
    ≡ (Took None, 1, Stable, None))
    × (answers (changing client Here) f.MinCsCov Here "13899c400800f42c07000000000007d200000000000003ea2306080202010000"
    ≡ (Took None, 2, Stable, None))
    × (answers (changing client Here) f.MinCsCov Here "13899c400800f42d07000000000007d200000000000003ea2306080102010000"
    ≡ (SentReset 5 (35 ∷ 8 ∷ 1 ∷ []), 0, Changing, sent "9c40138907000d150f000000000003eb00000000000007d205230801"))
    × (answers (changing client Here) f.MinCsCov Here "13899c400800f42e07000000000007d200000000000003ea2305080202000000"
    ≡ (Took None, 2, Stable, None))
    × (answers (changing client Here) f.MinCsCov Here "13899c400800f12907000000000007d200000000000003ea2306080005060000"
    ≡ (Took None, 0, Stable, None))
    × (answers (changing client Here) f.MinCsCov Here "13899c400800f12407000000000007d200000000000003ea2306080505060000"
    ≡ (SentReset 5 (35 ∷ 8 ∷ 5 ∷ []), 0, Changing, sent "9c40138907000d110f000000000003eb00000000000007d205230805"))
    × (answers (changing client Here) f.MinCsCov Here "13899c400800f52d07000000000007d200000000000003ea2306080001020000"
    ≡ (SentReset 5 (35 ∷ 8 ∷ 0 ∷ []), 0, Changing, sent "9c40138907000d160f000000000003eb00000000000007d205230800"))
    -- The same at the peer, by Confirm L; Confirm R speaks of the other row
    × (answers (changing client There) f.MinCsCov There "13899c400800f72c07000000000007d200000000000003ea2106080101020000"
    ≡ (Took None, 1, Stable, None))
    × (answers (changing client There) f.MinCsCov There "13899c400800f33007000000000007d200000000000003ea2105080005000000"
    ≡ (Took None, 0, Stable, None))
    × (answers (changing client There) f.MinCsCov There "13899c400800f52d07000000000007d200000000000003ea2105080303000000"
    ≡ (SentReset 5 (33 ∷ 8 ∷ 3 ∷ []), 0, Changing, sent "9c40138907000d150f000000000003eb00000000000007d205210803"))
    × (answers (changing client There) f.MinCsCov There "13899c400800f52c07000000000007d200000000000003ea2306080101020000"
    ≡ (Took None, 0, Changing, None))
    -- A Confirm of only a value: one of the list, the one that is held, and another
    × (answers (changing client Here) f.MinCsCov Here "13899c400700f73307000000000007d200000000000003ea23040802" ≡ (Took None, 2, Stable, None))
    × (answers (changing client Here) f.MinCsCov Here "13899c400700f73507000000000007d200000000000003ea23040800" ≡ (Took None, 0, Stable, None))
    × (answers (changing client Here) f.MinCsCov Here "13899c400700f73207000000000007d200000000000003ea23040803"
    ≡ (SentReset 5 (35 ∷ 8 ∷ 3 ∷ []), 0, Changing, sent "9c40138907000d130f000000000003eb00000000000007d205230803"))
    -- A Confirm of a non-negotiable feature: of the value, of another, and of another length
    ×
    (answers (asks client f.SequenceWindow Here (200 ∷ [])) f.SequenceWindow Here "13899c400900322807000000000007d200000000000003ea2309030000000000c8000000"
    ≡ (Took None, 200, Stable, None))
    ×
    (answers (asks client f.SequenceWindow Here (200 ∷ [])) f.SequenceWindow Here "13899c400900312807000000000007d200000000000003ea2309030000000000c9000000"
    ≡ (SentReset 5 (35 ∷ 3 ∷ 0 ∷ []), 100, Changing, sent "9c401389070012160f000000000003eb00000000000007d205230300"))
    ×
    (answers (asks client f.SequenceWindow Here (200 ∷ [])) f.SequenceWindow Here "13899c400800fa6507000000000007d200000000000003ea23080300000000c8"
    ≡ (SentReset 5 (35 ∷ 3 ∷ 0 ∷ []), 100, Changing, sent "9c401389070012160f000000000003eb00000000000007d205230300"))
    ×
    (answers (asks client f.SequenceWindow Here (200 ∷ [])) f.SequenceWindow Here "13899c400900f95f07000000000007d200000000000003ea230a03000000000000c80000"
    ≡ (SentReset 5 (35 ∷ 3 ∷ 0 ∷ []), 100, Changing, sent "9c401389070012160f000000000003eb00000000000007d205230300"))
unfolding receives opens prefers fires framed
what_meets_a_clients_wish = (
  refl,
  refl,
  refl,
  refl,
  refl,
  refl,
  refl,
  refl,
  refl,
  refl,
  refl,
  refl,
  refl,
  refl,
  refl,
  refl,
  refl,
  refl,
  refl,
  refl,
  refl,
  refl,
  refl,
  refl,
  refl,
  refl,
  refl,
  refl,
  refl,
  refl,
  refl,
  refl,
  refl,
  refl,
  refl,
  refl,
  refl,
  refl,
  refl,
  refl,
  refl,
  refl,
  refl,
  refl,
)

-- A packet of each type from a server, numbered 2,005, that acknowledges 1,000, at a client that was not opened.
packets_before_open :
    -- Request and Data have no acknowledgement that the Reset could be numbered after
    (seen (arrives closed "13899c4005002dff01000000000007d50000002a")
    ≡ (SentReset 3 (0 ∷ 0 ∷ 0 ∷ []), sent "9c40138907001b210f0000000000000000000000000007d503000000", phase.Closed))
    × (seen (arrives closed "13899c400400a1c005000000000007d5686921")
    ≡ (SentReset 3 (0 ∷ 0 ∷ 0 ∷ []), sent "9c40138907001b210f0000000000000000000000000007d503000000", phase.Closed))
    -- Response, Ack, DataAck, CloseReq, Close, Sync, SyncAck
    × (seen (arrives closed "13899c400700260f03000000000007d500000000000003e80000002a")
    ≡ (SentReset 3 (0 ∷ 0 ∷ 0 ∷ []), sent "9c401389070017380f000000000003e900000000000007d503000000", phase.Closed))
    × (seen (arrives closed "13899c400600233d07000000000007d500000000000003e8")
    ≡ (SentReset 3 (0 ∷ 0 ∷ 0 ∷ []), sent "9c401389070017380f000000000003e900000000000007d503000000", phase.Closed))
    × (seen (arrives closed "13899c40060097d009000000000007d500000000000003e8686921")
    ≡ (SentReset 3 (0 ∷ 0 ∷ 0 ∷ []), sent "9c401389070017380f000000000003e900000000000007d503000000", phase.Closed))
    × (seen (arrives closed "13899c4006001f3d0b000000000007d500000000000003e8")
    ≡ (SentReset 3 (0 ∷ 0 ∷ 0 ∷ []), sent "9c401389070017380f000000000003e900000000000007d503000000", phase.Closed))
    × (seen (arrives closed "13899c4006001d3d0d000000000007d500000000000003e8")
    ≡ (SentReset 3 (0 ∷ 0 ∷ 0 ∷ []), sent "9c401389070017380f000000000003e900000000000007d503000000", phase.Closed))
    × (seen (arrives closed "13899c400600193d11000000000007d500000000000003e8")
    ≡ (SentReset 3 (0 ∷ 0 ∷ 0 ∷ []), sent "9c401389070017380f000000000003e900000000000007d503000000", phase.Closed))
    × (seen (arrives closed "13899c400600173d13000000000007d500000000000003e8")
    ≡ (SentReset 3 (0 ∷ 0 ∷ 0 ∷ []), sent "9c401389070017380f000000000003e900000000000007d503000000", phase.Closed))
    -- No Reset answers a Reset
    × (seen (arrives closed "13899c40070018390f000000000007d500000000000003e802000000") ≡ (Dropped StrayReset, None, phase.Closed))
unfolding receives framed
packets_before_open = (refl, refl, refl, refl, refl, refl, refl, refl, refl, refl)

-- A packet from a client, numbered 1,005, that acknowledges 2,000, at a server that has asked for a Close.
unexpected_in_closereq :
    -- A Request, a Response and a CloseReq are unexpected
    (seen (arrives closing "9c401389050031e701000000000003ed0000002a")
    ≡ (Synced 1005, sent "13899c400600193a11000000000007d300000000000003ed", phase.CloseReq))
    × (seen (arrives closing "9c4013890700260f03000000000003ed00000000000007d00000002a")
    ≡ (Synced 1005, sent "13899c400600193a11000000000007d300000000000003ed", phase.CloseReq))
    × (seen (arrives closing "9c40138906001f3d0b000000000003ed00000000000007d0")
    ≡ (Synced 1005, sent "13899c400600193a11000000000007d300000000000003ed", phase.CloseReq))
unfolding receives closes framed
unexpected_in_closereq = (refl, refl, refl)
