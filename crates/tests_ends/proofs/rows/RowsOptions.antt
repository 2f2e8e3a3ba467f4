-- Worked options of the negotiation that are not plain: values that are not valid, features and options that are not known, Mandatory before
-- them, Confirms that do not fit, options that are skipped, and more than 64 Changes.
use Rattle.std.proofs.Common.{◌≡◌, refl, ℕ, zero, suc, ◌+◌, false, List, [], ◌∷◌, ◌++◌, Some, None, codes}
use Rattle.dccp_states.specs.declared.phase.Phase.TheVariants as phase
use Rattle.dccp_states.specs.declared.phase.Role.TheVariants.{Client, Server}
use Rattle.feature_lists.specs.declared.features.Feature.TheVariants as f
use Rattle.feature_lists.specs.declared.features.Place.TheVariants.{Here, There}
use Rattle.feature_lists.specs.declared.wishes.Wanted.TheVariants as wanted
use Rattle.feature_machine.specs.declared.stands.Stand.TheVariants.{Stable, Changing}
use Rattle.dccp_endpoint.specs.Calling.{opens}
use Rattle.dccp_endpoint.specs.Drafts.{framed}
use Rattle.dccp_endpoint.specs.End.{EndState}
use Rattle.dccp_endpoint.specs.Receiving.{receives}
use Rattle.dccp_endpoint.specs.Usual.{usual}
use Rattle.dccp_states.specs.declared.outcome.Outcome.TheVariants.{SentReset, Took}
use Rattle.tests_ends.proofs.rows.RowsSeen.{arrives, bytes, client_ack, closed, initial_rows, listening, offering, open_client, open_server, plain, requesting, requests_as, responds_as, response, row, seen, sent, server_ack, shown, wishing}

-- Sequence Window at a server: 31 is too small, 32 and 2^46 - 1 are taken, and 2^46 is too large.
sequence-window-values :
    (seen (arrives listening "9c4013890800ecd601000000000003e80000002a20090300000000001f000000")
    ≡ (Took None, sent "13899c400800ff0c03000000000007d000000000000003e80000002a23030300", phase.Respond))
    × (shown (arrives listening "9c4013890800ecd601000000000003e80000002a20090300000000001f000000").after ≡ initial_rows)
    × (seen (arrives listening "9c4013890800ebd601000000000003e80000002a200903000000000020000000")
    ≡ (Took None, sent "13899c400a00dcfe03000000000007d000000000000003e80000002a230903000000000020000000", phase.Respond))
    × (shown (arrives listening "9c4013890800ebd601000000000003e80000002a200903000000000020000000").after ≡ row f.SequenceWindow There 32 Stable initial_rows)
    × (seen (arrives listening "9c40138908000c9701000000000003e80000002a2009033fffffffffff000000")
    ≡ (Took None, sent "13899c400a00fdbe03000000000007d000000000000003e80000002a2309033fffffffffff000000", phase.Respond))
    × (shown (arrives listening "9c40138908000c9701000000000003e80000002a2009033fffffffffff000000").after
    ≡ row f.SequenceWindow There 70368744177663 Stable initial_rows)
    × (seen (arrives listening "9c40138908000b9701000000000003e80000002a200903400000000000000000")
    ≡ (Took None, sent "13899c400800ff0c03000000000007d000000000000003e80000002a23030300", phase.Respond))
    × (shown (arrives listening "9c40138908000b9701000000000003e80000002a200903400000000000000000").after ≡ initial_rows)
unfolding receives framed
sequence-window-values = (refl, refl, refl, refl, refl, refl, refl, refl)

-- the same at a client, on the Response
sequence-window-values-at-client :
    (seen (arrives requesting "13899c400a00e0fe03000000000007d000000000000003e80000002a20090300000000001f000000")
    ≡ (Took None, sent "9c4013890700fc3907000000000003e900000000000007d023030300", phase.PartOpen))
    × (shown (arrives requesting "13899c400a00e0fe03000000000007d000000000000003e80000002a20090300000000001f000000").after ≡ initial_rows)
    × (seen (arrives requesting "13899c400a00dffe03000000000007d000000000000003e80000002a200903000000000020000000")
    ≡ (Took None, sent "9c4013890900da2b07000000000003e900000000000007d0230903000000000020000000", phase.PartOpen))
    × (shown (arrives requesting "13899c400a00dffe03000000000007d000000000000003e80000002a200903000000000020000000").after
    ≡ row f.SequenceWindow There 32 Stable initial_rows)
    × (seen (arrives requesting "13899c400a0000bf03000000000007d000000000000003e80000002a2009033fffffffffff000000")
    ≡ (Took None, sent "9c4013890900faeb07000000000003e900000000000007d02309033fffffffffff000000", phase.PartOpen))
    × (seen (arrives requesting "13899c400a00ffbe03000000000007d000000000000003e80000002a200903400000000000000000")
    ≡ (Took None, sent "9c4013890700fc3907000000000003e900000000000007d023030300", phase.PartOpen))
unfolding receives opens framed
sequence-window-values-at-client = (refl, refl, refl, refl, refl, refl)

-- Further Changes that are not valid get an empty Confirm: a value of a wrong length, a value of a non-negotiable feature that the peer
-- asks for here, a list without a value, and features that are not known. An Ack Ratio of 0 is valid, and so is a list in which
-- one value is not permitted.
other-values :
    (seen (arrives listening "9c40138907000cbc01000000000003e80000002a2008030000000020")
    ≡ (Took None, sent "13899c400800ff0c03000000000007d000000000000003e80000002a23030300", phase.Respond))
    × (seen (arrives listening "9c4013890800e9d601000000000003e80000002a220903000000000020000000")
    ≡ (Took None, sent "13899c400800010d03000000000007d000000000000003e80000002a21030300", phase.Respond))
    × (seen (arrives listening "9c40138906000fe501000000000003e80000002a20030100")
    ≡ (Took None, sent "13899c400800010d03000000000007d000000000000003e80000002a23030100", phase.Respond))
    × (seen (arrives listening "9c401389060006e301000000000003e80000002a20040a01")
    ≡ (Took None, sent "13899c400800f80c03000000000007d000000000000003e80000002a23030a00", phase.Respond))
    × (seen (arrives listening "9c40138906000ee501000000000003e80000002a22030000")
    ≡ (Took None, sent "13899c400800040d03000000000007d000000000000003e80000002a21030000", phase.Respond))
    × (seen (arrives listening "9c40138907000adf01000000000003e80000002a2005050000000000")
    ≡ (Took None, sent "13899c400900fc0603000000000007d000000000000003e80000002a2305050000000000", phase.Respond))
    × (shown (arrives listening "9c40138907000adf01000000000003e80000002a2005050000000000").after ≡ row f.AckRatio There 0 Stable initial_rows)
    × (seen (arrives listening "9c401389070016db01000000000003e80000002a20050103f8000000")
    ≡ (Took None, sent "13899c400900fc1503000000000007d000000000000003e80000002a230601f802f80000", phase.Respond))
    × (seen (arrives requesting "13899c400b00d7d003000000000007d000000000000003e80000002a22090300000000002020040a01000000")
    ≡ (Took None, sent "9c4013890800fa0807000000000003e900000000000007d021030323030a0000", phase.PartOpen))
unfolding receives opens framed
other-values = (refl, refl, refl, refl, refl, refl, refl, refl, refl)

-- Mandatory before a Change that is not valid: the Reset has the option's type and the first two bytes of its data.
mandatory-before-invalid :
    (seen (arrives listening "9c4013890800249e01000000000003e80000002a0120090300000000001f0000")
    ≡ (SentReset 6 (32 ∷ 3 ∷ 0 ∷ []), sent "13899c400700111e0f000000000007d000000000000003e806200300", phase.Closed))
    × (shown (arrives listening "9c4013890900019e01000000000003e80000002a200401f80120090300000000001f0000").after ≡ initial_rows)
    × (seen (arrives listening "9c401389070029ba01000000000003e80000002a0120040a01000000")
    ≡ (SentReset 6 (32 ∷ 10 ∷ 1 ∷ []), sent "13899c4007000a1d0f000000000007d000000000000003e806200a01", phase.Closed))
    × (seen (arrives listening "9c40138906002cc601000000000003e80000002a01220300")
    ≡ (SentReset 6 (34 ∷ 0 ∷ 0 ∷ []), sent "13899c400700141c0f000000000007d000000000000003e806220000", phase.Closed))
    × (seen (arrives listening "9c40138906002cc701000000000003e80000002a01200301")
    ≡ (SentReset 6 (32 ∷ 1 ∷ 0 ∷ []), sent "13899c400700131e0f000000000007d000000000000003e806200100", phase.Closed))
    × (seen (arrives requesting "13899c400a0018c603000000000007d000000000000003e80000002a0120090300000000001f0000")
    ≡ (SentReset 6 (32 ∷ 3 ∷ 0 ∷ []), sent "9c4013890700111d0f000000000003e900000000000007d006200300", phase.Closed))
    × (seen (arrives open_client "13899c4008001b0d07000000000007d200000000000003e90120040a01000000")
    ≡ (SentReset 6 (32 ∷ 10 ∷ 1 ∷ []), sent "9c40138907000a190f000000000003ea00000000000007d206200a01", phase.Closed))
unfolding receives opens framed
mandatory-before-invalid = (refl, refl, refl, refl, refl, refl, refl)

-- An option of the negotiation without a feature number is not understood: it is skipped, and after Mandatory it is a fault, also on a packet
-- that does not negotiate, and on one that is not the newest.
abbrev later_server : EndState
later_server = (arrives open_server "9c4013890600233e07000000000003eb00000000000007d1").after

abbrev later_client : EndState
later_client = (arrives open_client "13899c400600233e07000000000007d300000000000003e9").after

options-without-a-number :
    (seen (arrives listening "9c401389060010e601000000000003e80000002a20020000") ≡ (Took None, sent response, phase.Respond))
    × (seen (arrives listening "9c40138906002dc801000000000003e80000002a01200200")
    ≡ (SentReset 6 (32 ∷ 0 ∷ 0 ∷ []), sent "13899c400700141e0f000000000007d000000000000003e806200000", phase.Closed))
    × (seen (arrives open_server "9c4013890700fa380d000000000003ea00000000000007d122020000") ≡ (SentReset 1 (0 ∷ 0 ∷ 0 ∷ []), sent closed, phase.Closed))
    × (seen (arrives open_server "9c401389070019190d000000000003ea00000000000007d101220200")
    ≡ (SentReset 6 (34 ∷ 0 ∷ 0 ∷ []), sent "13899c40070014180f000000000007d200000000000003ea06220000", phase.Closed))
    × (seen (arrives later_server "9c4013890700ff3807000000000003ea00000000000007d123020000") ≡ (Took None, None, phase.Open))
    × (seen (arrives later_server "9c40138907001f1807000000000003ea00000000000007d101230200")
    ≡ (SentReset 6 (35 ∷ 0 ∷ 0 ∷ []), sent "13899c40070014160f000000000007d200000000000003eb06230000", phase.Closed))
    × (seen (arrives requesting "13899c40080021ef03000000000007d000000000000003e80000002a01210200")
    ≡ (SentReset 6 (33 ∷ 0 ∷ 0 ∷ []), sent "9c4013890700141c0f000000000003e900000000000007d006210000", phase.Closed))
    × (seen (arrives open_client "13899c4007001b190b000000000007d200000000000003e901220200")
    ≡ (SentReset 6 (34 ∷ 0 ∷ 0 ∷ []), sent "9c401389070014180f000000000003ea00000000000007d206220000", phase.Closed))
unfolding receives opens framed
options-without-a-number = (refl, refl, refl, refl, refl, refl, refl, refl)

-- Mandatory before an option of one byte: the Reset has its type and zeros. Slow Receiver is understood.
mandatory-before-one-byte :
    (seen (arrives listening "9c40138906002fe501000000000003e80000002a01030000")
    ≡ (SentReset 6 (3 ∷ 0 ∷ 0 ∷ []), sent "13899c400700143b0f000000000007d000000000000003e806030000", phase.Closed))
    × (seen (arrives listening "9c40138906002fe601000000000003e80000002a01020000") ≡ (Took None, sent response, phase.Respond))
    × (seen (arrives requesting "13899c40080023f103000000000007d000000000000003e80000002a011f0000")
    ≡ (SentReset 6 (31 ∷ 0 ∷ 0 ∷ []), sent "9c4013890700141e0f000000000003e900000000000007d0061f0000", phase.Closed))
    × (seen (arrives requesting "13899c400800240e03000000000007d000000000000003e80000002a01020000") ≡ (Took None, sent client_ack, phase.PartOpen))
unfolding receives opens framed
mandatory-before-one-byte = (refl, refl, refl, refl)

-- Mandatory before an option that is ignored is ignored with it: on an older packet, on a packet that does not negotiate, for a row
-- that asks nothing, and a second one for the same feature and side.
mandatory-before-ignored :
    (seen (arrives later_server "9c40138908001b0d07000000000003ea00000000000007d10120040a01000000") ≡ (Took None, None, phase.Open))
    × (seen (arrives later_client "13899c4008001b0d07000000000007d200000000000003e90120040a01000000") ≡ (Took None, None, phase.Open))
    × (seen (arrives open_server "9c4013890800150d0d000000000003ea00000000000007d10120040a01000000")
    ≡ (SentReset 1 (0 ∷ 0 ∷ 0 ∷ []), sent closed, phase.Closed))
    × (seen (arrives open_client "13899c400800170d0b000000000007d200000000000003e90120040a01000000")
    ≡ (Took None, sent "9c40138906001d3e0d000000000003ea00000000000007d2", phase.Closing))
    × (seen (arrives listening "9c40138906002cc601000000000003e80000002a01210301") ≡ (Took None, sent response, phase.Respond))
    × (seen (arrives requesting "13899c400a0003d503000000000007d000000000000003e80000002a01230a010203040506070800")
    ≡ (Took None, sent client_ack, phase.PartOpen))
    × (seen (arrives listening "9c4013890900e2b801000000000003e80000002a200401f8200401020120040103000000")
    ≡ (Took None, sent "13899c400900fc1503000000000007d000000000000003e80000002a230601f802f80000", phase.Respond))
    × (seen (arrives requesting "13899c400b00d6e003000000000007d000000000000003e80000002a200401f8200401020120040103000000")
    ≡ (Took None, sent "9c4013890800f94207000000000003e900000000000007d0230601f802f80000", phase.PartOpen))
unfolding receives opens framed
mandatory-before-ignored = (refl, refl, refl, refl, refl, refl, refl, refl)

-- The first option for a feature by L counts, also where it is ignored; one by R speaks of another row.
first-of-a-side :
    (seen (arrives listening "9c4013890700eaeb01000000000003e80000002a210401f8200401f8") ≡ (Took None, sent response, phase.Respond))
    × (shown (arrives listening "9c4013890700eaeb01000000000003e80000002a210401f8200401f8").after ≡ initial_rows)
    × (seen (arrives listening "9c4013890700e9eb01000000000003e80000002a200401f8220401f8")
    ≡ (Took None, sent "13899c400a00d51b03000000000007d000000000000003e80000002a230601f802f8210601f802f8", phase.Respond))
    × (shown (arrives listening "9c4013890700e9eb01000000000003e80000002a200401f8220401f8").after
    ≡ row f.Ccid Here 248 Stable (row f.Ccid There 248 Stable initial_rows))
    × (seen (arrives requesting "13899c400900db1303000000000007d000000000000003e80000002a230401f8220401f8") ≡ (Took None, sent client_ack, phase.PartOpen))
    × (shown (arrives requesting "13899c400900db1303000000000007d000000000000003e80000002a230401f8220401f8").after ≡ initial_rows)
unfolding receives opens framed
first-of-a-side = (refl, refl, refl, refl, refl, refl)

-- Confirms at a client that offers 2, 248 for its CCID. An empty one is a fault, since the feature is required, and so are a value that is not
-- the reconciliation, one that is not the value held if nothing is shared, and a single one that is on no list.
abbrev ccid_client : EndState
ccid_client = requests_as (offering (plain Client) f.Ccid Here false)

confirms-at-client :
    (seen (arrives ccid_client "13899c400800010d03000000000007d000000000000003e80000002a23030100")
    ≡ (SentReset 5 (35 ∷ 1 ∷ 0 ∷ []), sent "9c4013890700141a0f000000000003e900000000000007d005230100", phase.Closed))
    × (shown (arrives ccid_client "13899c400800010d03000000000007d000000000000003e80000002a23030100").after ≡ row f.Ccid Here 2 Changing initial_rows)
    × (seen (arrives ccid_client "13899c400900fc1503000000000007d000000000000003e80000002a230601f802f80000")
    ≡ (SentReset 5 (35 ∷ 1 ∷ 248 ∷ []), sent "9c401389070013220f000000000003e900000000000007d0052301f8", phase.Closed))
    × (seen (arrives ccid_client "13899c400900fd0303000000000007d000000000000003e80000002a2305010303000000")
    ≡ (SentReset 5 (35 ∷ 1 ∷ 3 ∷ []), sent "9c401389070014170f000000000003e900000000000007d005230103", phase.Closed))
    × (seen (arrives ccid_client "13899c400800010903000000000007d000000000000003e80000002a23040103")
    ≡ (SentReset 5 (35 ∷ 1 ∷ 3 ∷ []), sent "9c401389070014170f000000000003e900000000000007d005230103", phase.Closed))
    × (seen (arrives ccid_client "13899c400900fd0403000000000007d000000000000003e80000002a2305010203000000") ≡ (Took None, sent client_ack, phase.PartOpen))
    × (shown (arrives ccid_client "13899c400900fd0403000000000007d000000000000003e80000002a2305010203000000").after ≡ initial_rows)
    × (seen (arrives ccid_client "13899c400800001403000000000007d000000000000003e80000002a230401f8") ≡ (Took None, sent client_ack, phase.PartOpen))
    × (shown (arrives ccid_client "13899c400800001403000000000007d000000000000003e80000002a230401f8").after ≡ row f.Ccid Here 248 Stable initial_rows)
    × (seen (arrives ccid_client "13899c40080020ec03000000000007d000000000000003e80000002a01230301")
    ≡ (SentReset 5 (35 ∷ 1 ∷ 0 ∷ []), sent "9c4013890700141a0f000000000003e900000000000007d005230100", phase.Closed))
unfolding receives opens framed
confirms-at-client = (refl, refl, refl, refl, refl, refl, refl, refl, refl, refl)

-- the same at a server that offers them for the client's CCID
abbrev ccid_server : EndState
ccid_server = responds_as (offering (plain Server) f.Ccid There false)

confirms-at-server :
    (seen (arrives ccid_server "9c4013890700003a07000000000003e900000000000007d021030100")
    ≡ (SentReset 5 (33 ∷ 1 ∷ 0 ∷ []), sent "13899c400700141b0f000000000007d100000000000003e905210100", phase.Closed))
    × (shown (arrives ccid_server "9c4013890700003a07000000000003e900000000000007d021030100").after ≡ row f.Ccid There 2 Changing initial_rows)
    × (seen (arrives ccid_server "9c4013890800063807000000000003e900000000000007d0210601f8f8020000")
    ≡ (SentReset 5 (33 ∷ 1 ∷ 248 ∷ []), sent "13899c40070013230f000000000007d100000000000003e9052101f8", phase.Closed))
    × (seen (arrives ccid_server "9c4013890800fc3007000000000003e900000000000007d02105010303000000")
    ≡ (SentReset 5 (33 ∷ 1 ∷ 3 ∷ []), sent "13899c40070014180f000000000007d100000000000003e905210103", phase.Closed))
    × (seen (arrives ccid_server "9c4013890700003607000000000003e900000000000007d021040103")
    ≡ (SentReset 5 (33 ∷ 1 ∷ 3 ∷ []), sent "13899c40070014180f000000000007d100000000000003e905210103", phase.Closed))
    × (seen (arrives ccid_server "9c4013890800fc3107000000000003e900000000000007d02105010203000000") ≡ (Took None, sent server_ack, phase.Open))
    × (shown (arrives ccid_server "9c4013890800fc3107000000000003e900000000000007d02105010203000000").after ≡ initial_rows)
    × (seen (arrives ccid_server "9c4013890700ff4007000000000003e900000000000007d0210401f8") ≡ (Took None, sent server_ack, phase.Open))
    × (shown (arrives ccid_server "9c4013890700ff4007000000000003e900000000000007d0210401f8").after ≡ row f.Ccid There 248 Stable initial_rows)
    × (seen (arrives ccid_server "9c4013890800063a07000000000003e900000000000007d0210601f8f8000000")
    ≡ (Took None, sent server_ack, phase.Open))
unfolding receives framed
confirms-at-server = (refl, refl, refl, refl, refl, refl, refl, refl, refl, refl)

-- An empty Confirm for a feature that is not required leaves the value and ends the asking.
empty-confirms :
    (seen (arrives (requests_as (usual Client)) "13899c400900f9e103000000000007d000000000000003e80000002a2303042103060000")
    ≡ (Took None, sent client_ack, phase.PartOpen))
    × (shown (arrives (requests_as (usual Client)) "13899c400900f9e103000000000007d000000000000003e80000002a2303042103060000").after ≡ initial_rows)
    × (seen (arrives (responds_as (usual Server)) "9c4013890800f70e07000000000003e900000000000007d02303042103060000")
    ≡ (Took None, sent server_ack, phase.Open))
    × (shown (arrives (responds_as (usual Server)) "9c4013890800f70e07000000000003e900000000000007d02303042103060000").after ≡ initial_rows)
unfolding receives opens framed
empty-confirms = (refl, refl, refl, refl)

-- A Confirm on a packet without an acknowledgement number is ignored, and the Change goes out again.
confirm-on-request :
    (seen (arrives ccid_server "9c40138906000ee101000000000003e90000002a21040102")
    ≡ (Took None, sent "13899c400900090203000000000007d100000000000003e90000002a22050102f8000000", phase.Respond))
    × (shown (arrives ccid_server "9c40138906000ee101000000000003e90000002a21040102").after ≡ row f.Ccid There 2 Changing initial_rows)
unfolding receives framed
confirm-on-request = (refl, refl)

-- The Confirm of a non-negotiable feature has the value that was sent, in as many bytes; any other is a fault.
abbrev narrow_client : EndState
narrow_client = requests_as (offering (wishing (plain Client) f.SequenceWindow Here (wanted.Number 32)) f.SequenceWindow Here false)

abbrev narrow_server : EndState
narrow_server = responds_as (offering (wishing (plain Server) f.SequenceWindow Here (wanted.Number 32)) f.SequenceWindow Here false)

confirms-of-numbers :
    (seen (arrives narrow_client "13899c400a00dcfe03000000000007d000000000000003e80000002a230903000000000020000000")
    ≡ (Took None, sent client_ack, phase.PartOpen))
    × (shown (arrives narrow_client "13899c400a00dcfe03000000000007d000000000000003e80000002a230903000000000020000000").after
    ≡ row f.SequenceWindow Here 32 Stable initial_rows)
    × (seen (arrives narrow_client "13899c400a00dbfe03000000000007d000000000000003e80000002a230903000000000021000000")
    ≡ (SentReset 5 (35 ∷ 3 ∷ 0 ∷ []), sent "9c4013890700121a0f000000000003e900000000000007d005230300", phase.Closed))
    × (seen (arrives narrow_client "13899c400900fde303000000000007d000000000000003e80000002a2308030000000020")
    ≡ (SentReset 5 (35 ∷ 3 ∷ 0 ∷ []), sent "9c4013890700121a0f000000000003e900000000000007d005230300", phase.Closed))
    × (seen (arrives narrow_client "13899c400800ff0c03000000000007d000000000000003e80000002a23030300")
    ≡ (SentReset 5 (35 ∷ 3 ∷ 0 ∷ []), sent "9c4013890700121a0f000000000003e900000000000007d005230300", phase.Closed))
    × (seen (arrives narrow_server "9c4013890900da2b07000000000003e900000000000007d0230903000000000020000000") ≡ (Took None, sent server_ack, phase.Open))
    × (shown (arrives narrow_server "9c4013890900da2b07000000000003e900000000000007d0230903000000000020000000").after
    ≡ row f.SequenceWindow Here 32 Stable initial_rows)
    × (seen (arrives narrow_server "9c4013890900d92b07000000000003e900000000000007d0230903000000000021000000")
    ≡ (SentReset 5 (35 ∷ 3 ∷ 0 ∷ []), sent "13899c40070012190f000000000007d100000000000003e905230300", phase.Closed))
unfolding receives opens framed
confirms-of-numbers = (refl, refl, refl, refl, refl, refl, refl, refl)

-- A DataAck negotiates and delivers its data, and the Confirm goes out on an Ack. On Data no option of the negotiation is read.
options-beside-data :
    (seen (arrives open_server "9c4013890700543d09000000000003ea00000000000007d1200401f8aa")
    ≡ (Took (Some (28, 29)), sent "13899c400800f93f07000000000007d200000000000003ea230601f802f80000", phase.Open))
    × (shown (arrives open_server "9c4013890700543d09000000000003ea00000000000007d1200401f8aa").after ≡ row f.Ccid There 248 Stable initial_rows)
    × (seen (arrives open_server "9c4013890500621605000000000003ea200401f8aa") ≡ (Took (Some (20, 21)), None, phase.Open))
    × (shown (arrives open_server "9c4013890500621605000000000003ea200401f8aa").after ≡ initial_rows)
unfolding receives opens framed
options-beside-data = (refl, refl, refl, refl)

-- Options of this many features in a row, none of them known, from this number on: Changes without values, or empty Confirms.
abbrev empty_options : ℕ → ℕ → ℕ → List ℕ
empty_options type zero number = []
empty_options type (suc count) number = type ∷ 3 ∷ number ∷ empty_options type count (1 + number)

-- After 63 of them a Change for the client's CCID is answered, and after 64 it is skipped with its Mandatory.
abbrev changes_64 : List ℕ
changes_64 = bytes (codes "9c40138936007dc501000000000003e80000002a") ++ empty_options 32 63 10 ++ bytes (codes "200401f8000000")

abbrev changes_65 : List ℕ
changes_65 = bytes (codes "9c40138937006d5901000000000003e80000002a") ++ empty_options 32 64 10 ++ bytes (codes "0120040103000000")

sixty-four-changes :
    (seen (receives listening changes_64)
    ≡ (
      Took None,
      Some (bytes (codes "13899c403800178a03000000000007d000000000000003e80000002a") ++ empty_options 35 63 10 ++ bytes (codes "230601f802f800")),
      phase.Respond,
    ))
    × (shown (receives listening changes_64).after ≡ row f.Ccid There 248 Stable initial_rows)
    × (seen (receives listening changes_65)
    ≡ (Took None, Some (bytes (codes "13899c4037000b4a03000000000007d000000000000003e80000002a") ++ empty_options 35 64 10), phase.Respond))
    × (shown (receives listening changes_65).after ≡ initial_rows)
unfolding receives framed
sixty-four-changes = (refl, refl, refl, refl)

-- the same at a client, for its own CCID, by Change R
abbrev client_changes_64 : List ℕ
client_changes_64 = bytes (codes "13899c40380031ad03000000000007d000000000000003e80000002a") ++ empty_options 34 63 10 ++ bytes (codes "220401f8000000")

abbrev client_changes_65 : List ℕ
client_changes_65 = bytes (codes "13899c403900213f03000000000007d000000000000003e80000002a") ++ empty_options 34 64 10 ++ bytes (codes "0122040103000000")

sixty-four-changes-at-client :
    (seen (receives requesting client_changes_64)
    ≡ (
      Took None,
      Some (bytes (codes "9c401389370054f707000000000003e900000000000007d0") ++ empty_options 33 63 10 ++ bytes (codes "210601f802f800")),
      phase.PartOpen,
    ))
    × (shown (receives requesting client_changes_64).after ≡ row f.Ccid Here 248 Stable initial_rows)
    × (seen (receives requesting client_changes_65)
    ≡ (Took None, Some (bytes (codes "9c401389360048b707000000000003e900000000000007d0") ++ empty_options 33 64 10), phase.PartOpen))
    × (shown (receives requesting client_changes_65).after ≡ initial_rows)
unfolding receives opens framed
sixty-four-changes-at-client = (refl, refl, refl, refl)

-- A Change that comes again uses one of the 64, though it is skipped.
abbrev repeated : ℕ → List ℕ
repeated zero = []
repeated (suc count) = 32 ∷ 3 ∷ 10 ∷ repeated count

repeated-changes :
    (seen (receives listening (bytes (codes "9c4013893600618a01000000000003e80000002a") ++ repeated 63 ++ bytes (codes "200401f8000000")))
    ≡ (Took None, sent "13899c400a00ffdc03000000000007d000000000000003e80000002a23030a230601f802f8000000", phase.Respond))
    × (seen (receives listening (bytes (codes "9c4013893600388601000000000003e80000002a") ++ repeated 64 ++ bytes (codes "200401f8")))
    ≡ (Took None, sent "13899c400800f80c03000000000007d000000000000003e80000002a23030a00", phase.Respond))
unfolding receives framed
repeated-changes = (refl, refl)
