-- Worked negotiations of open ends: prefer, the timer negotiate, Changes that cross, come late or share nothing, and a Sequence Window with
-- the windows after it. Both ends go on from a handshake without options, in which the client sent 1000 and 1001, and the server
-- 2000 and 2001.
use Rattle.std.proofs.Common.{◌≡◌, refl, ℕ, zero, suc, true, false, List, [], ◌∷◌, None, Ok, Err}
use Rattle.dccp_states.specs.declared.phase.Phase.TheVariants as phase
use Rattle.dccp_states.specs.declared.phase.Role.TheVariants.{Client, Server}
use Rattle.feature_lists.specs.declared.features.Feature.TheVariants as f
use Rattle.feature_lists.specs.declared.features.Place.TheVariants.{Here, There}
use Rattle.feature_lists.specs.declared.wishes.PreferFault.TheVariants as refused
use Rattle.feature_lists.specs.declared.wishes.Wanted.TheVariants as wanted
use Rattle.feature_machine.specs.declared.stands.Stand.TheVariants.{Stable, Changing, Unstable}
use Rattle.dccp_endpoint.specs.Calling.{fires, opens, prefers}
use Rattle.dccp_endpoint.specs.Drafts.{framed}
use Rattle.dccp_endpoint.specs.End.{EndState}
use Rattle.dccp_endpoint.specs.Receiving.{receives}
use Rattle.dccp_endpoint.specs.Usual.{usual}
use Rattle.dccp_states.specs.declared.calls.Timer.TheVariants as timers
use Rattle.dccp_states.specs.declared.outcome.Outcome.TheVariants.{SentReset, Synced, Took, WasReset}
use Rattle.tests_ends.proofs.rows.RowsSeen.{arrives, initial_rows, open_client, open_client_as, open_server, open_server_as, plain, requesting, requests_as, responding, response, row, seen, sent, shown, wishing}

-- The feature of these rows is Minimum Checksum Coverage, at the client; the server prefers 1 to 2 for it.
abbrev server : EndState
server = open_server_as (wishing (plain Server) f.MinCsCov There (wanted.List (1 ∷ 2 ∷ [])))

-- an end prefers a list for it, and the timer negotiate fires
abbrev prefers_here : EndState → List ℕ → EndState
prefers_here e values = (prefers e (f.MinCsCov, Here) values).after

abbrev prefers_there : EndState → List ℕ → EndState
prefers_there e values = (prefers e (f.MinCsCov, There) values).after

abbrev asks_again : EndState → EndState
asks_again e = (fires e timers.Negotiate false).after

-- In STABLE a Change goes out at once; in CHANGING and UNSTABLE it waits for the timer, which sends the last list; in STABLE the timer
-- does nothing.
abbrev changing : EndState
changing = prefers_here open_client (1 ∷ 2 ∷ [])

abbrev unstable : EndState
unstable = prefers_here changing (2 ∷ 1 ∷ [])

prefer-at-client :
    (seen (fires open_client timers.Negotiate false) ≡ (false, None, phase.Open))
    × (seen (prefers open_client (f.MinCsCov, Here) (1 ∷ 2 ∷ []))
    ≡ (Ok tt, sent "9c4013890800f73007000000000003ea00000000000007d12005080102000000", phase.Open))
    × (shown changing ≡ row f.MinCsCov Here 0 Changing initial_rows)
    × (seen (fires changing timers.Negotiate false) ≡ (true, sent "9c4013890800f72f07000000000003eb00000000000007d12005080102000000", phase.Open))
    × (shown (asks_again changing) ≡ row f.MinCsCov Here 0 Changing initial_rows)
    × (seen (prefers changing (f.MinCsCov, Here) (2 ∷ 1 ∷ [])) ≡ (Ok tt, None, phase.Open))
    × (shown unstable ≡ row f.MinCsCov Here 0 Unstable initial_rows)
    × (seen (prefers unstable (f.MinCsCov, Here) (2 ∷ [])) ≡ (Ok tt, None, phase.Open))
    × (shown (prefers_here unstable (2 ∷ [])) ≡ row f.MinCsCov Here 0 Unstable initial_rows)
    × (seen (fires unstable timers.Negotiate false) ≡ (true, sent "9c4013890800f82e07000000000003eb00000000000007d12005080201000000", phase.Open))
    × (seen (fires (prefers_here unstable (2 ∷ [])) timers.Negotiate false)
    ≡ (true, sent "9c4013890700fa3307000000000003eb00000000000007d120040802", phase.Open))
    × (shown (asks_again unstable) ≡ row f.MinCsCov Here 0 Changing initial_rows)
    × (seen (fires (asks_again unstable) timers.Negotiate false) ≡ (true, sent "9c4013890800f82d07000000000003ec00000000000007d12005080201000000", phase.Open))
unfolding receives opens prefers fires framed
prefer-at-client = (refl, refl, refl, refl, refl, refl, refl, refl, refl, refl, refl, refl, refl)

-- the same at a server
abbrev server_changing : EndState
server_changing = prefers_there server (2 ∷ 1 ∷ [])

abbrev server_unstable : EndState
server_unstable = prefers_there server_changing (3 ∷ [])

prefer-at-server :
    (seen (fires server timers.Negotiate false) ≡ (false, None, phase.Open))
    × (seen (prefers server (f.MinCsCov, There) (2 ∷ 1 ∷ [])) ≡ (Ok tt, sent "13899c400800f62f07000000000007d200000000000003e92205080201000000", phase.Open))
    × (shown server_changing ≡ row f.MinCsCov There 0 Changing initial_rows)
    × (seen (fires server_changing timers.Negotiate false) ≡ (true, sent "13899c400800f62e07000000000007d300000000000003e92205080201000000", phase.Open))
    × (seen (prefers server_changing (f.MinCsCov, There) (3 ∷ [])) ≡ (Ok tt, None, phase.Open))
    × (shown server_unstable ≡ row f.MinCsCov There 0 Unstable initial_rows)
    × (seen (prefers server_unstable (f.MinCsCov, There) (4 ∷ [])) ≡ (Ok tt, None, phase.Open))
    × (seen (fires server_unstable timers.Negotiate false) ≡ (true, sent "13899c400700f83207000000000007d300000000000003e922040803", phase.Open))
    × (seen (fires (prefers_there server_unstable (4 ∷ [])) timers.Negotiate false)
    ≡ (true, sent "13899c400700f83107000000000007d300000000000003e922040804", phase.Open))
    × (shown (asks_again server_unstable) ≡ row f.MinCsCov There 0 Changing initial_rows)
unfolding receives prefers fires framed
prefer-at-server = (refl, refl, refl, refl, refl, refl, refl, refl, refl, refl)

-- The client that offers to a server without options is in PARTOPEN, and its rows still ask: the timer sends both Changes, each after its
-- Mandatory, and a new list goes without.
abbrev unanswered : EndState
unanswered = (arrives (requests_as (usual Client)) response).after

timer-in-partopen :
    (seen (fires unanswered timers.Negotiate false) ≡ (true, sent "9c4013890900f20907000000000003ea00000000000007d0012004040101220406010000", phase.PartOpen))
    × (seen (prefers unanswered (f.SendAckVector, There) (1 ∷ 0 ∷ [])) ≡ (Ok tt, None, phase.PartOpen))
    × (seen (fires (prefers unanswered (f.SendAckVector, There) (1 ∷ 0 ∷ [])).after timers.Negotiate false)
    ≡ (true, sent "9c401389090013e807000000000003ea00000000000007d0012004040122050601000000", phase.PartOpen))
    × (seen (prefers unanswered (f.MinCsCov, Here) (1 ∷ [])) ≡ (Ok tt, sent "9c4013890700fa3607000000000003ea00000000000007d020040801", phase.PartOpen))
    × (seen (fires unanswered timers.Ack false) ≡ (true, sent "9c4013890600234007000000000003ea00000000000007d0", phase.PartOpen))
unfolding receives opens prefers fires framed
timer-in-partopen = (refl, refl, refl, refl, refl)

-- A wish is refused by the phase first, then by its values, then by its place.
refused-wishes :
    (seen (prefers requesting (f.MinCsCov, Here) (16 ∷ [])) ≡ (Err refused.NotOpen, None, phase.Request))
    × (seen (prefers responding (f.MinCsCov, There) (1 ∷ [])) ≡ (Err refused.NotOpen, None, phase.Respond))
    × (seen (prefers open_client (f.MinCsCov, Here) (16 ∷ [])) ≡ (Err refused.BadList, None, phase.Open))
    × (seen (prefers open_server (f.MinCsCov, Here) []) ≡ (Err refused.BadList, None, phase.Open))
    × (seen (prefers open_client (f.Ccid, Here) (3 ∷ [])) ≡ (Err refused.BadList, None, phase.Open))
    × (seen (prefers open_client (f.Ccid, Here) (2 ∷ 2 ∷ [])) ≡ (Err refused.BadList, None, phase.Open))
    × (seen (prefers open_server (f.SequenceWindow, There) (31 ∷ [])) ≡ (Err refused.BadList, None, phase.Open))
    × (seen (prefers open_client (f.SequenceWindow, There) (200 ∷ [])) ≡ (Err refused.NotOurs, None, phase.Open))
    × (seen (prefers open_server (f.AckRatio, There) (2 ∷ [])) ≡ (Err refused.NotOurs, None, phase.Open))
unfolding receives opens prefers framed
refused-wishes = (refl, refl, refl, refl, refl, refl, refl, refl, refl)

-- In UNSTABLE a valid Change is ignored, also after Mandatory, and so is a Confirm; one that is not valid is answered.
in-unstable :
    (seen (arrives unstable "13899c400800f62f07000000000007d200000000000003e92205080201000000") ≡ (Took None, None, phase.Open))
    × (seen (arrives unstable "13899c400800190d07000000000007d200000000000003e90122040803000000") ≡ (Took None, None, phase.Open))
    × (seen (arrives unstable "13899c400800f52c07000000000007d200000000000003ea2306080101020000") ≡ (Took None, None, phase.Open))
    × (shown (arrives unstable "13899c400800f52c07000000000007d200000000000003ea2306080101020000").after ≡ row f.MinCsCov Here 0 Unstable initial_rows)
    × (seen (arrives unstable "13899c400700f83707000000000007d200000000000003e922030800")
    ≡ (Took None, sent "9c4013890700f93507000000000003eb00000000000007d221030800", phase.Open))
    × (seen (arrives unstable "13899c4007001e1107000000000007d200000000000003e901220308")
    ≡ (SentReset 6 (34 ∷ 8 ∷ 0 ∷ []), sent "9c40138907000c170f000000000003eb00000000000007d206220800", phase.Closed))
    × (seen (arrives server_unstable "9c4013890800180f07000000000003ea00000000000007d10120040804000000") ≡ (Took None, None, phase.Open))
    × (seen (arrives server_unstable "9c4013890800f72b07000000000003ea00000000000007d22106080201020000") ≡ (Took None, None, phase.Open))
    × (seen (arrives server_unstable "9c4013890700fa3707000000000003ea00000000000007d120030800")
    ≡ (Took None, sent "13899c400700f73507000000000007d300000000000003ea23030800", phase.Open))
unfolding receives opens prefers framed
in-unstable = (refl, refl, refl, refl, refl, refl, refl, refl, refl)

-- A Confirm counts from the number of the packet with the first Change on: the number before it is too early.
first-number-of-asking :
    (seen (arrives changing "13899c400800f52d07000000000007d200000000000003e92306080101020000") ≡ (Took None, None, phase.Open))
    × (shown (arrives changing "13899c400800f52d07000000000007d200000000000003e92306080101020000").after ≡ row f.MinCsCov Here 0 Changing initial_rows)
    × (shown (arrives changing "13899c400800f52c07000000000007d200000000000003ea2306080101020000").after ≡ row f.MinCsCov Here 1 Stable initial_rows)
    × (shown (arrives (asks_again changing) "13899c400800f52c07000000000007d200000000000003ea2306080101020000").after
    ≡ row f.MinCsCov Here 1 Stable initial_rows)
    × (shown (arrives (asks_again unstable) "13899c400800f52b07000000000007d200000000000003ea2306080201020000").after
    ≡ row f.MinCsCov Here 0 Changing initial_rows)
    × (shown (arrives (asks_again unstable) "13899c400800f42b07000000000007d200000000000003eb2306080202010000").after
    ≡ row f.MinCsCov Here 2 Stable initial_rows)
    × (shown (arrives server_changing "9c4013890800f72c07000000000003ea00000000000007d12106080201020000").after ≡ row f.MinCsCov There 0 Changing initial_rows)
    × (shown (arrives server_changing "9c4013890800f72b07000000000003ea00000000000007d22106080201020000").after ≡ row f.MinCsCov There 2 Stable initial_rows)
unfolding receives opens prefers fires framed
first-number-of-asking = (refl, refl, refl, refl, refl, refl, refl, refl)

-- Changes cross: each end answers the other's in CHANGING and waits for its own Confirm. The server's new list 2, 1 decides.
abbrev crossed_server : EndState
crossed_server = (arrives server_changing "9c4013890800f73007000000000003ea00000000000007d12005080102000000").after

abbrev crossed_client : EndState
crossed_client = (arrives changing "13899c400800f62f07000000000007d200000000000003e92205080201000000").after

crossing-changes :
    (seen (arrives server_changing "9c4013890800f73007000000000003ea00000000000007d12005080102000000")
    ≡ (Took None, sent "13899c400800f42b07000000000007d300000000000003ea2306080202010000", phase.Open))
    × (shown crossed_server ≡ row f.MinCsCov There 2 Changing initial_rows)
    × (seen (arrives changing "13899c400800f62f07000000000007d200000000000003e92205080201000000")
    ≡ (Took None, sent "9c4013890800f72a07000000000003eb00000000000007d22106080201020000", phase.Open))
    × (shown crossed_client ≡ row f.MinCsCov Here 2 Changing initial_rows)
    × (seen (arrives crossed_server "9c4013890800f72a07000000000003eb00000000000007d22106080201020000") ≡ (Took None, None, phase.Open))
    × (shown (arrives crossed_server "9c4013890800f72a07000000000003eb00000000000007d22106080201020000").after ≡ row f.MinCsCov There 2 Stable initial_rows)
    × (seen (arrives crossed_client "13899c400800f42b07000000000007d300000000000003ea2306080202010000") ≡ (Took None, None, phase.Open))
    × (shown (arrives crossed_client "13899c400800f42b07000000000007d300000000000003ea2306080202010000").after ≡ row f.MinCsCov Here 2 Stable initial_rows)
unfolding receives opens prefers framed
crossing-changes = (refl, refl, refl, refl, refl, refl, refl, refl)

-- A Change is lost while the Confirm for another list is under way. The server that answers it stays in CHANGING, and by its own
-- Change, sent again, both come to 2; had it gone to STABLE, the ends would differ.
abbrev confirming_1 : EndState
confirming_1 = (arrives server "9c4013890800f73007000000000003ea00000000000007d12005080102000000").after

abbrev losing : EndState
losing = prefers_there confirming_1 (2 ∷ 1 ∷ [])

abbrev confirming_2 : EndState
confirming_2 = (arrives losing "9c4013890800f72f07000000000003eb00000000000007d12005080102000000").after

abbrev holding_1 : EndState
holding_1 = (arrives (asks_again changing) "13899c400800f52c07000000000007d200000000000003ea2306080101020000").after

abbrev taking_2 : EndState
taking_2 = (arrives holding_1 "13899c400800f62a07000000000007d500000000000003eb2205080201000000").after

lost-change :
    (seen (arrives server "9c4013890800f73007000000000003ea00000000000007d12005080102000000")
    ≡ (Took None, sent "13899c400800f52c07000000000007d200000000000003ea2306080101020000", phase.Open))
    × (seen (prefers confirming_1 (f.MinCsCov, There) (2 ∷ 1 ∷ []))
    ≡ (Ok tt, sent "13899c400800f62d07000000000007d300000000000003ea2205080201000000", phase.Open))
    × (seen (arrives losing "9c4013890800f72f07000000000003eb00000000000007d12005080102000000")
    ≡ (Took None, sent "13899c400800f42907000000000007d400000000000003eb2306080202010000", phase.Open))
    × (shown confirming_2 ≡ row f.MinCsCov There 2 Changing initial_rows)
    × (seen (arrives (asks_again changing) "13899c400800f52c07000000000007d200000000000003ea2306080101020000") ≡ (Took None, None, phase.Open))
    × (shown holding_1 ≡ row f.MinCsCov Here 1 Stable initial_rows)
    × (seen (fires confirming_2 timers.Negotiate false) ≡ (true, sent "13899c400800f62a07000000000007d500000000000003eb2205080201000000", phase.Open))
    × (seen (arrives holding_1 "13899c400800f62a07000000000007d500000000000003eb2205080201000000")
    ≡ (Took None, sent "9c4013890800f72607000000000003ec00000000000007d52106080201020000", phase.Open))
    × (shown taking_2 ≡ row f.MinCsCov Here 2 Stable initial_rows)
    × (seen (arrives (asks_again confirming_2) "9c4013890800f72607000000000003ec00000000000007d52106080201020000") ≡ (Took None, None, phase.Open))
    × (shown (arrives (asks_again confirming_2) "9c4013890800f72607000000000003ec00000000000007d52106080201020000").after
    ≡ row f.MinCsCov There 2 Stable initial_rows)
unfolding receives opens prefers fires framed
lost-change = (refl, refl, refl, refl, refl, refl, refl, refl, refl, refl, refl)

-- Three lists in a row at the client, the Changes of the first two come after that of the third: they are older, and say nothing. A
-- Confirm for the first that comes once the third is asked for is late, and is ignored.
abbrev third_list : EndState
third_list = asks_again (prefers_here (asks_again unstable) (2 ∷ []))

abbrev third_first : EndState
third_first = (arrives server "9c4013890700fa3207000000000003ec00000000000007d120040802").after

late-changes :
    (seen (fires (prefers_here (asks_again unstable) (2 ∷ [])) timers.Negotiate false)
    ≡ (true, sent "9c4013890700fa3207000000000003ec00000000000007d120040802", phase.Open))
    × (seen (arrives server "9c4013890700fa3207000000000003ec00000000000007d120040802")
    ≡ (Took None, sent "13899c400800f52907000000000007d200000000000003ec2306080201020000", phase.Open))
    × (seen (arrives third_first "9c4013890800f73007000000000003ea00000000000007d12005080102000000") ≡ (Took None, None, phase.Open))
    × (seen (arrives (arrives third_first "9c4013890800f73007000000000003ea00000000000007d12005080102000000").after
    "9c4013890800f82e07000000000003eb00000000000007d12005080201000000")
    ≡ (Took None, None, phase.Open))
    × (shown (arrives (arrives third_first "9c4013890800f73007000000000003ea00000000000007d12005080102000000").after
    "9c4013890800f82e07000000000003eb00000000000007d12005080201000000").after
    ≡ row f.MinCsCov There 2 Stable initial_rows)
    × (seen (arrives third_list "13899c400800f52907000000000007d200000000000003ec2306080201020000") ≡ (Took None, None, phase.Open))
    × (shown (arrives third_list "13899c400800f52907000000000007d200000000000003ec2306080201020000").after ≡ row f.MinCsCov Here 2 Stable initial_rows)
    × (seen (arrives third_list "13899c400800f52c07000000000007d200000000000003ea2306080101020000") ≡ (Took None, None, phase.Open))
    × (shown (arrives third_list "13899c400800f52c07000000000007d200000000000003ea2306080101020000").after ≡ row f.MinCsCov Here 0 Changing initial_rows)
    × (shown confirming_1 ≡ row f.MinCsCov There 1 Stable initial_rows)
unfolding receives opens prefers fires framed
late-changes = (refl, refl, refl, refl, refl, refl, refl, refl, refl, refl)

-- the same from the server's side, for the feature at the server
abbrev answering_client : EndState
answering_client = open_client_as (wishing (plain Client) f.MinCsCov There (wanted.List (1 ∷ 2 ∷ [])))

abbrev third_of_server : EndState
third_of_server = asks_again (prefers_here (asks_again (prefers_here (prefers_here open_server (1 ∷ 2 ∷ [])) (2 ∷ 1 ∷ []))) (2 ∷ []))

abbrev third_at_client : EndState
third_at_client = (arrives answering_client "13899c400700fa3207000000000007d400000000000003e920040802").after

late-changes-of-server :
    (seen (prefers open_server (f.MinCsCov, Here) (1 ∷ 2 ∷ [])) ≡ (Ok tt, sent "13899c400800f73007000000000007d200000000000003e92005080102000000", phase.Open))
    × (seen (arrives answering_client "13899c400700fa3207000000000007d400000000000003e920040802")
    ≡ (Took None, sent "9c4013890800f52907000000000003ea00000000000007d42306080201020000", phase.Open))
    × (seen (arrives third_at_client "13899c400800f73007000000000007d200000000000003e92005080102000000") ≡ (Took None, None, phase.Open))
    × (seen (arrives (arrives third_at_client "13899c400800f73007000000000007d200000000000003e92005080102000000").after
    "13899c400800f82e07000000000007d300000000000003e92005080201000000")
    ≡ (Took None, None, phase.Open))
    × (shown (arrives (arrives third_at_client "13899c400800f73007000000000007d200000000000003e92005080102000000").after
    "13899c400800f82e07000000000007d300000000000003e92005080201000000").after
    ≡ row f.MinCsCov There 2 Stable initial_rows)
    × (seen (arrives third_of_server "9c4013890800f52907000000000003ea00000000000007d42306080201020000") ≡ (Took None, None, phase.Open))
    × (shown (arrives third_of_server "9c4013890800f52907000000000003ea00000000000007d42306080201020000").after ≡ row f.MinCsCov Here 2 Stable initial_rows)
    × (seen (arrives answering_client "13899c400800f73007000000000007d200000000000003e92005080102000000")
    ≡ (Took None, sent "9c4013890800f52c07000000000003ea00000000000007d22306080101020000", phase.Open))
    × (seen (arrives third_of_server "9c4013890800f52c07000000000003ea00000000000007d22306080101020000") ≡ (Took None, None, phase.Open))
    × (shown (arrives third_of_server "9c4013890800f52c07000000000003ea00000000000007d22306080101020000").after ≡ row f.MinCsCov Here 0 Changing initial_rows)
unfolding receives opens prefers fires framed
late-changes-of-server = (refl, refl, refl, refl, refl, refl, refl, refl, refl, refl)

-- Nothing is shared, and the ends hold different values, since the server's Confirm is under way: the client confirms the value that it
-- holds, which the server does not, and the server resets.
abbrev unsharing : EndState
unsharing = prefers_there confirming_1 (3 ∷ [])

nothing-shared-while-open :
    (seen (prefers confirming_1 (f.MinCsCov, There) (3 ∷ [])) ≡ (Ok tt, sent "13899c400700f83107000000000007d300000000000003ea22040803", phase.Open))
    × (seen (arrives changing "13899c400700f83107000000000007d300000000000003ea22040803")
    ≡ (Took None, sent "9c4013890800f72b07000000000003eb00000000000007d32106080001020000", phase.Open))
    × (seen (arrives unsharing "9c4013890800f72b07000000000003eb00000000000007d32106080001020000")
    ≡ (SentReset 5 (33 ∷ 8 ∷ 0 ∷ []), sent "13899c4007000d160f000000000007d400000000000003eb05210800", phase.Closed))
    × (shown (arrives unsharing "9c4013890800f72b07000000000003eb00000000000007d32106080001020000").after ≡ row f.MinCsCov There 1 Changing initial_rows)
    × (seen (arrives (arrives changing "13899c400700f83107000000000007d300000000000003ea22040803").after
    "13899c4007000d160f000000000007d400000000000003eb05210800")
    ≡ (WasReset 5, None, phase.TimeWait))
    × (shown (arrives (arrives changing "13899c400700f83107000000000007d300000000000003ea22040803").after
    "13899c4007000d160f000000000007d400000000000003eb05210800").after
    ≡ row f.MinCsCov Here 0 Changing initial_rows)
unfolding receives opens prefers framed
nothing-shared-while-open = (refl, refl, refl, refl, refl, refl)

-- The client's Sequence Window becomes 32. From then on the server takes the numbers from 7 before the greatest received to 24 after
-- it, and not before the first, where 75 were after it.
abbrev narrowed_server : EndState
narrowed_server = (arrives open_server "9c4013890900dd2907000000000003ea00000000000007d1200903000000000020000000").after

abbrev ahead_server : EndState
ahead_server = (arrives narrowed_server "9c40138906002327070000000000040200000000000007d1").after

window-of-client :
    (seen (prefers open_client (f.SequenceWindow, Here) (32 ∷ []))
    ≡ (Ok tt, sent "9c4013890900dd2907000000000003ea00000000000007d1200903000000000020000000", phase.Open))
    × (seen (arrives open_server "9c4013890900dd2907000000000003ea00000000000007d1200903000000000020000000")
    ≡ (Took None, sent "13899c400900da2807000000000007d200000000000003ea230903000000000020000000", phase.Open))
    × (shown narrowed_server ≡ row f.SequenceWindow There 32 Stable initial_rows)
    × (seen (arrives open_server "9c401389060022f5070000000000043400000000000007d1") ≡ (Took None, None, phase.Open))
    × (seen (arrives open_server "9c401389060022f4070000000000043500000000000007d1")
    ≡ (Synced 1077, sent "13899c40060018f311000000000007d20000000000000435", phase.Open))
    × (seen (arrives narrowed_server "9c40138906002327070000000000040200000000000007d1") ≡ (Took None, None, phase.Open))
    × (seen (arrives narrowed_server "9c40138906002326070000000000040300000000000007d1")
    ≡ (Synced 1027, sent "13899c400600192411000000000007d30000000000000403", phase.Open))
    × (seen (arrives ahead_server "9c4013890600232e07000000000003fb00000000000007d1") ≡ (Took None, None, phase.Open))
    × (seen (arrives ahead_server "9c4013890600232f07000000000003fa00000000000007d1")
    ≡ (Synced 1018, sent "13899c400600192d11000000000007d300000000000003fa", phase.Open))
unfolding receives opens prefers framed
window-of-client = (refl, refl, refl, refl, refl, refl, refl, refl, refl)

-- and the same for the server's, at the client
abbrev narrowed_client : EndState
narrowed_client = (arrives open_client "13899c400900dd2907000000000007d200000000000003e9200903000000000020000000").after

abbrev ahead_client : EndState
ahead_client = (arrives narrowed_client "13899c400600232707000000000007ea00000000000003e9").after

window-of-server :
    (seen (prefers open_server (f.SequenceWindow, Here) (32 ∷ []))
    ≡ (Ok tt, sent "13899c400900dd2907000000000007d200000000000003e9200903000000000020000000", phase.Open))
    × (seen (arrives open_client "13899c400900dd2907000000000007d200000000000003e9200903000000000020000000")
    ≡ (Took None, sent "9c4013890900da2807000000000003ea00000000000007d2230903000000000020000000", phase.Open))
    × (shown narrowed_client ≡ row f.SequenceWindow There 32 Stable initial_rows)
    × (seen (arrives open_client "13899c40060022f5070000000000081c00000000000003e9") ≡ (Took None, None, phase.Open))
    × (seen (arrives open_client "13899c40060022f4070000000000081d00000000000003e9")
    ≡ (Synced 2077, sent "9c401389060018f311000000000003ea000000000000081d", phase.Open))
    × (seen (arrives narrowed_client "13899c400600232707000000000007ea00000000000003e9") ≡ (Took None, None, phase.Open))
    × (seen (arrives narrowed_client "13899c400600232607000000000007eb00000000000003e9")
    ≡ (Synced 2027, sent "9c4013890600192411000000000003eb00000000000007eb", phase.Open))
    × (seen (arrives ahead_client "13899c400600232e07000000000007e300000000000003e9") ≡ (Took None, None, phase.Open))
    × (seen (arrives ahead_client "13899c400600232f07000000000007e200000000000003e9")
    ≡ (Synced 2018, sent "9c4013890600192d11000000000003eb00000000000007e2", phase.Open))
unfolding receives opens prefers framed
window-of-server = (refl, refl, refl, refl, refl, refl, refl, refl, refl)

-- The end whose window it is judges acknowledgements by it once its Confirm has come: after 40 Acks more, those of the last 32 numbers.
abbrev acks : ℕ → EndState → EndState
acks zero e = e
acks (suc count) e = acks count (fires e timers.Ack false).after

abbrev asking_client : EndState
asking_client = (prefers open_client (f.SequenceWindow, Here) (32 ∷ [])).after

abbrev settled_client : EndState
settled_client = acks 40 (arrives asking_client "13899c400900da2807000000000007d200000000000003ea230903000000000020000000").after

abbrev settled_server : EndState
settled_server = acks 40
    (arrives (prefers open_server (f.SequenceWindow, Here) (32 ∷ [])).after "9c4013890900da2807000000000003ea00000000000007d2230903000000000020000000").after

acknowledgement-windows :
    (seen (arrives (acks 40 asking_client) "13899c400600233d07000000000007d200000000000003eb") ≡ (Took None, None, phase.Open))
    × (shown settled_client ≡ row f.SequenceWindow Here 32 Stable initial_rows)
    × (seen (arrives settled_client "13899c400600233407000000000007d300000000000003f3") ≡ (Took None, None, phase.Open))
    × (seen (arrives settled_client "13899c400600233507000000000007d300000000000003f2")
    ≡ (Synced 2003, sent "9c40138906001914110000000000041300000000000007d3", phase.Open))
    × (shown settled_server ≡ row f.SequenceWindow Here 32 Stable initial_rows)
    × (seen (arrives settled_server "9c4013890600233407000000000003eb00000000000007db") ≡ (Took None, None, phase.Open))
    × (seen (arrives settled_server "9c4013890600233507000000000003eb00000000000007da")
    ≡ (Synced 1003, sent "13899c400600191411000000000007fb00000000000003eb", phase.Open))
unfolding receives opens prefers fires framed
acknowledgement-windows = (refl, refl, refl, refl, refl, refl, refl)
