-- Worked negotiations of a handshake: what the Request and the Response offer, computed from the definitions.
use Rattle.std.proofs.Common.{◌≡◌, refl, true, false, [], ◌∷◌, None, Ok}
use Prim.Native.String.{String}
use Rattle.dccp_states.specs.declared.phase.Phase.TheVariants as phase
use Rattle.dccp_states.specs.declared.phase.Role.TheVariants.{Client, Server}
use Rattle.feature_lists.specs.declared.features.Feature.TheVariants as f
use Rattle.feature_lists.specs.declared.features.Place.TheVariants.{Here, There}
use Rattle.feature_lists.specs.declared.wishes.Wanted.TheVariants as wanted
use Rattle.feature_machine.specs.declared.stands.Stand.TheVariants.{Stable, Changing}
use Rattle.dccp_endpoint.specs.Calling.{fires, opens}
use Rattle.dccp_endpoint.specs.Drafts.{framed}
use Rattle.dccp_endpoint.specs.End.{EndState, new_end}
use Rattle.dccp_endpoint.specs.Receiving.{receives}
use Rattle.dccp_endpoint.specs.Usual.{usual}
use Rattle.dccp_states.specs.declared.calls.Timer.TheVariants as timers
use Rattle.dccp_endpoint.specs.declared.config.Config.{Config}
use Rattle.dccp_states.specs.declared.outcome.Outcome.TheVariants.{SentReset, Took, WasReset}
use Rattle.tests_ends.proofs.rows.RowsSeen.{arrives, client_ack, initial_rows, listening, offering, open_client, open_server, plain, request, requesting, requests_as, responds_as, response, row, seen, sent, server_ack, shown, usual_rows, wishing}

-- the packets of a handshake in which both ends offer ECN Incapable here and Send Ack Vector at the peer, both after Mandatory
abbrev usual_request : String
usual_request = "9c401389080000b601000000000003e80000002a012004040101220406010000"

abbrev pub usual_response : String
usual_response = "13899c400d00a1c303000000000007d000000000000003e80000002a230604010100210606010100012004040101220406010000"

abbrev pub usual_ack : String
usual_ack = "9c4013890a00eadd07000000000003e900000000000007d026030023060401010021060601010000"

-- the server's Ack after it reports both packets of the client
abbrev pub usual_vector : String
usual_vector = "13899c400700fb3807000000000007d100000000000003e926030100"

-- the ends on the way through it
abbrev usual_listening : EndState
usual_listening = new_end (usual Server)

abbrev pub usual_requesting : EndState
usual_requesting = (opens (new_end (usual Client))).after

abbrev pub usual_responding : EndState
usual_responding = (arrives usual_listening usual_request).after

abbrev pub usual_part_open : EndState
usual_part_open = (arrives usual_requesting usual_response).after

abbrev pub usual_open : EndState
usual_open = (arrives usual_responding usual_ack).after

-- Each end confirms what the other offers and is confirmed what it offers itself: both are STABLE at the usual rows, and their Acks carry
-- Ack Vectors.
usual-handshake :
    (seen (opens (new_end (usual Client))) ≡ (Ok tt, sent usual_request, phase.Request))
    × (shown usual_requesting ≡ row f.EcnIncapable Here 0 Changing (row f.SendAckVector There 0 Changing initial_rows))
    × (seen (arrives usual_listening usual_request) ≡ (Took None, sent usual_response, phase.Respond))
    × (shown usual_responding
    ≡ row f.EcnIncapable Here 0 Changing
    (row f.EcnIncapable There 1 Stable (row f.SendAckVector Here 1 Stable (row f.SendAckVector There 0 Changing initial_rows))))
    × (seen (arrives usual_requesting usual_response) ≡ (Took None, sent usual_ack, phase.PartOpen))
    × (shown usual_part_open ≡ usual_rows)
    × (seen (arrives usual_responding usual_ack) ≡ (Took None, sent usual_vector, phase.Open))
    × (shown usual_open ≡ usual_rows)
    × (seen (arrives usual_part_open usual_vector) ≡ (Took None, None, phase.Open))
    × (shown (arrives usual_part_open usual_vector).after ≡ usual_rows)
unfolding receives opens framed
usual-handshake = (refl, refl, refl, refl, refl, refl, refl, refl, refl, refl)

-- Only the client offers: the Response carries only Confirms.
only-client-offers :
    (seen (arrives listening usual_request)
    ≡ (Took None, sent "13899c400a00d2f903000000000007d000000000000003e80000002a230604010100210606010100", phase.Respond))
    × (shown (arrives listening usual_request).after ≡ row f.EcnIncapable There 1 Stable (row f.SendAckVector Here 1 Stable initial_rows))
    × (seen (arrives usual_requesting "13899c400a00d2f903000000000007d000000000000003e80000002a230604010100210606010100")
    ≡ (Took None, sent client_ack, phase.PartOpen))
    × (shown (arrives usual_requesting "13899c400a00d2f903000000000007d000000000000003e80000002a230604010100210606010100").after
    ≡ row f.EcnIncapable Here 1 Stable (row f.SendAckVector There 1 Stable initial_rows))
unfolding receives opens framed
only-client-offers = (refl, refl, refl, refl)

-- Only the server offers: the Response carries only Changes.
only-server-offers :
    (seen (arrives usual_listening request)
    ≡ (Took None, sent "13899c400a00f4dd03000000000007d000000000000003e80000002a012004040101220406010000", phase.Respond))
    × (seen (arrives requesting "13899c400a00f4dd03000000000007d000000000000003e80000002a012004040101220406010000")
    ≡ (Took None, sent usual_ack, phase.PartOpen))
    × (shown (arrives requesting "13899c400a00f4dd03000000000007d000000000000003e80000002a012004040101220406010000").after
    ≡ row f.EcnIncapable There 1 Stable (row f.SendAckVector Here 1 Stable initial_rows))
    × (seen (arrives (responds_as (usual Server)) usual_ack) ≡ (Took None, sent server_ack, phase.Open))
    × (shown (arrives (responds_as (usual Server)) usual_ack).after
    ≡ row f.EcnIncapable Here 1 Stable (row f.SendAckVector There 1 Stable initial_rows))
unfolding receives opens framed
only-server-offers = (refl, refl, refl, refl, refl)

-- A Request and a Response that go out again carry the Changes that wait, each after its Mandatory. The Request that came first opened
-- the rows, so that a Confirm on the answer to it counts.
abbrev again_requesting : EndState
again_requesting = (fires usual_requesting timers.Request false).after

abbrev again_responding : EndState
again_responding = (arrives usual_responding "9c401389080000b501000000000003e90000002a012004040101220406010000").after

offers-go-out-again :
    (seen (fires usual_requesting timers.Request false) ≡ (true, sent "9c401389080000b501000000000003e90000002a012004040101220406010000", phase.Request))
    × (seen (arrives usual_responding "9c401389080000b501000000000003e90000002a012004040101220406010000")
    ≡ (Took None, sent "13899c400d00a1c103000000000007d100000000000003e90000002a230604010100210606010100012004040101220406010000", phase.Respond))
    × (seen (arrives again_requesting "13899c400d00a1c103000000000007d100000000000003e90000002a230604010100210606010100012004040101220406010000")
    ≡ (Took None, sent "9c4013890a00eadb07000000000003ea00000000000007d126030023060401010021060601010000", phase.PartOpen))
    × (seen (arrives again_requesting usual_response)
    ≡ (Took None, sent "9c4013890a00eadc07000000000003ea00000000000007d026030023060401010021060601010000", phase.PartOpen))
    × (shown (arrives again_requesting usual_response).after ≡ usual_rows)
    × (seen (arrives again_responding "9c4013890a00eadc07000000000003ea00000000000007d026030023060401010021060601010000")
    ≡ (Took None, sent "13899c400700fa3607000000000007d200000000000003ea26030200", phase.Open))
    × (shown (arrives again_responding "9c4013890a00eadc07000000000003ea00000000000007d026030023060401010021060601010000").after ≡ usual_rows)
unfolding receives opens fires framed
offers-go-out-again = (refl, refl, refl, refl, refl, refl, refl)

-- A Request that comes twice under one number is not the newest the second time: the Response to it carries the Changes that wait, and no
-- Confirm. The client that gets this Response alone goes on asking, and the Response that comes after the first is confirmed anew.
abbrev half_open : EndState
half_open = (arrives usual_requesting "13899c400a00f4dc03000000000007d100000000000003e80000002a012004040101220406010000").after

request-twice :
    (seen (arrives usual_responding usual_request)
    ≡ (Took None, sent "13899c400a00f4dc03000000000007d100000000000003e80000002a012004040101220406010000", phase.Respond))
    × (seen (arrives usual_requesting "13899c400a00f4dc03000000000007d100000000000003e80000002a012004040101220406010000")
    ≡ (Took None, sent "9c4013890a00eadc07000000000003e900000000000007d126030023060401010021060601010000", phase.PartOpen))
    × (shown half_open
    ≡ row f.EcnIncapable Here 0 Changing
    (row f.EcnIncapable There 1 Stable (row f.SendAckVector Here 1 Stable (row f.SendAckVector There 0 Changing initial_rows))))
    × (seen (fires half_open timers.Negotiate false)
    ≡ (true, sent "9c4013890a00cefd07000000000003ea00000000000007d126030001200404010122040601000000", phase.PartOpen))
    × (seen (arrives usual_part_open "13899c400a00f4dc03000000000007d100000000000003e80000002a012004040101220406010000")
    ≡ (Took None, sent "9c4013890a00e9db07000000000003ea00000000000007d126030123060401010021060601010000", phase.PartOpen))
    × (shown (arrives usual_part_open "13899c400a00f4dc03000000000007d100000000000003e80000002a012004040101220406010000").after ≡ usual_rows)
unfolding receives opens fires framed
request-twice = (refl, refl, refl, refl, refl, refl)

-- An offer that meets a Confirm in the first Response is dropped, also where the Confirm is empty; without one it comes up.
abbrev offering_there : Config
offering_there = offering (plain Server) f.Ccid There false

abbrev offering_here : Config
offering_here = offering (plain Server) f.Ccid Here false

dropped-offers :
    (seen (arrives (new_end offering_there) "9c40138906000fe201000000000003e80000002a20040102")
    ≡ (Took None, sent "13899c400900fd0b03000000000007d000000000000003e80000002a2306010202f80000", phase.Respond))
    × (seen (arrives (arrives (new_end offering_there) "9c40138906000fe201000000000003e80000002a20040102").after "9c401389050031eb01000000000003e90000002a")
    ≡ (Took None, sent "13899c400700261203000000000007d100000000000003e90000002a", phase.Respond))
    × (seen (arrives (new_end offering_there) "9c40138906000fe501000000000003e80000002a20030100")
    ≡ (Took None, sent "13899c400800010d03000000000007d000000000000003e80000002a23030100", phase.Respond))
    × (seen (arrives (arrives (new_end offering_there) "9c40138906000fe501000000000003e80000002a20030100").after "9c401389050031eb01000000000003e90000002a")
    ≡ (Took None, sent "13899c400700261203000000000007d100000000000003e90000002a", phase.Respond))
    × (seen (arrives (new_end offering_there) request)
    ≡ (Took None, sent "13899c400900090403000000000007d000000000000003e80000002a22050102f8000000", phase.Respond))
    × (seen (arrives (new_end offering_here) "9c40138906000de201000000000003e80000002a22040102")
    ≡ (Took None, sent "13899c400900ff0b03000000000007d000000000000003e80000002a2106010202f80000", phase.Respond))
    × (seen (arrives (arrives (new_end offering_here) "9c40138906000de201000000000003e80000002a22040102").after "9c401389050031eb01000000000003e90000002a")
    ≡ (Took None, sent "13899c400700261203000000000007d100000000000003e90000002a", phase.Respond))
    × (seen (arrives (new_end offering_here) request)
    ≡ (Took None, sent "13899c4009000b0403000000000007d000000000000003e80000002a20050102f8000000", phase.Respond))
unfolding receives framed
dropped-offers = (refl, refl, refl, refl, refl, refl, refl, refl)

-- A row that asks and meets a Change is confirmed in the Response, and its own Change waits for the next one.
abbrev asked_server : EndState
asked_server = (arrives (responds_as offering_there) "9c40138906000fe101000000000003e90000002a20040102").after

asking-row-is-confirmed :
    (seen (arrives (responds_as offering_there) "9c40138906000fe101000000000003e90000002a20040102")
    ≡ (Took None, sent "13899c400900fd0903000000000007d100000000000003e90000002a2306010202f80000", phase.Respond))
    × (shown asked_server ≡ row f.Ccid There 2 Changing initial_rows)
    × (seen (arrives asked_server "9c401389050031ea01000000000003ea0000002a")
    ≡ (Took None, sent "13899c400900090003000000000007d200000000000003ea0000002a22050102f8000000", phase.Respond))
unfolding receives framed
asking-row-is-confirmed = (refl, refl, refl)

-- The server's list decides: the client offers 2, 248 for its CCID, and the server prefers 248; then the client prefers 248, and the
-- server 2.
abbrev pub choosing_248 : EndState
choosing_248 = new_end (wishing (plain Server) f.Ccid There (wanted.List (248 ∷ 2 ∷ [])))

abbrev pub offering_2 : EndState
offering_2 = requests_as (offering (plain Client) f.Ccid Here false)

abbrev pub offering_248 : EndState
offering_248 = requests_as (offering (wishing (plain Client) f.Ccid Here (wanted.List (248 ∷ 2 ∷ []))) f.Ccid Here false)

server-order-wins :
    (seen (opens (new_end (offering (plain Client) f.Ccid Here false)))
    ≡ (Ok tt, sent "9c401389070016dc01000000000003e80000002a20050102f8000000", phase.Request))
    × (seen (arrives choosing_248 "9c401389070016dc01000000000003e80000002a20050102f8000000")
    ≡ (Took None, sent "13899c400900070b03000000000007d000000000000003e80000002a230601f8f8020000", phase.Respond))
    × (shown (arrives choosing_248 "9c401389070016dc01000000000003e80000002a20050102f8000000").after ≡ row f.Ccid There 248 Stable initial_rows)
    × (seen (arrives offering_2 "13899c400900070b03000000000007d000000000000003e80000002a230601f8f8020000")
    ≡ (Took None, sent client_ack, phase.PartOpen))
    × (shown (arrives offering_2 "13899c400900070b03000000000007d000000000000003e80000002a230601f8f8020000").after
    ≡ row f.Ccid Here 248 Stable initial_rows)
    × (seen (arrives listening "9c40138907000be701000000000003e80000002a200501f802000000")
    ≡ (Took None, sent "13899c400900fd0b03000000000007d000000000000003e80000002a2306010202f80000", phase.Respond))
    × (shown (arrives listening "9c40138907000be701000000000003e80000002a200501f802000000").after ≡ initial_rows)
    × (seen (arrives offering_248 "13899c400900fd0b03000000000007d000000000000003e80000002a2306010202f80000") ≡ (Took None, sent client_ack, phase.PartOpen))
    × (shown (arrives offering_248 "13899c400900fd0b03000000000007d000000000000003e80000002a2306010202f80000").after ≡ initial_rows)
unfolding receives opens framed
server-order-wins = (refl, refl, refl, refl, refl, refl, refl, refl, refl)

-- The same where the server asks, for its own CCID: it offers 248, 2, and the client's order 2, 248 does not count.
abbrev asking_248 : Config
asking_248 = offering (wishing (plain Server) f.Ccid Here (wanted.List (248 ∷ 2 ∷ []))) f.Ccid Here false

server-asks-in-its-order :
    (seen (arrives (new_end asking_248) request) ≡ (Took None, sent "13899c400900000f03000000000007d000000000000003e80000002a200501f802000000", phase.Respond))
    × (shown (responds_as asking_248) ≡ row f.Ccid Here 2 Changing initial_rows)
    × (seen (arrives requesting "13899c400900000f03000000000007d000000000000003e80000002a200501f802000000")
    ≡ (Took None, sent "9c4013890800f94207000000000003e900000000000007d0230601f802f80000", phase.PartOpen))
    × (shown (arrives requesting "13899c400900000f03000000000007d000000000000003e80000002a200501f802000000").after ≡ row f.Ccid There 248 Stable initial_rows)
    × (seen (arrives (responds_as asking_248) "9c4013890800f94207000000000003e900000000000007d0230601f802f80000") ≡ (Took None, sent server_ack, phase.Open))
    × (shown (arrives (responds_as asking_248) "9c4013890800f94207000000000003e900000000000007d0230601f802f80000").after
    ≡ row f.Ccid Here 248 Stable initial_rows)
unfolding receives opens framed
server-asks-in-its-order = (refl, refl, refl, refl, refl, refl)

-- Nothing is shared, and the client's Change is mandatory: Send Ack Vector at the server has 1 on the client's list, and 0 on its own.
abbrev sends_none : EndState
sends_none = new_end (wishing (plain Server) f.SendAckVector Here (wanted.List (0 ∷ [])))

abbrev demanding : Config
demanding = offering (plain Client) f.SendAckVector There true

nothing-shared-mandatory :
    (seen (opens (new_end demanding)) ≡ (Ok tt, sent "9c401389070029bc01000000000003e80000002a0122040601000000", phase.Request))
    × (seen (arrives sends_none "9c401389070029bc01000000000003e80000002a0122040601000000")
    ≡ (SentReset 6 (34 ∷ 6 ∷ 1 ∷ []), sent "13899c4007000e1b0f000000000007d000000000000003e806220601", phase.Closed))
    × (shown (arrives sends_none "9c401389070029bc01000000000003e80000002a0122040601000000").after ≡ initial_rows)
    × (seen (arrives (requests_as demanding) "13899c4007000e1b0f000000000007d000000000000003e806220601") ≡ (WasReset 6, None, phase.TimeWait))
    × (shown (arrives (requests_as demanding) "13899c4007000e1b0f000000000007d000000000000003e806220601").after
    ≡ row f.SendAckVector There 0 Changing initial_rows)
unfolding receives opens framed
nothing-shared-mandatory = (refl, refl, refl, refl, refl)

-- the same where the server asks
abbrev client_sends_none : EndState
client_sends_none = requests_as (wishing (plain Client) f.SendAckVector Here (wanted.List (0 ∷ [])))

abbrev server_demanding : Config
server_demanding = offering (plain Server) f.SendAckVector There true

nothing-shared-mandatory-at-client :
    (seen (arrives (new_end server_demanding) request)
    ≡ (Took None, sent "13899c4009001de403000000000007d000000000000003e80000002a0122040601000000", phase.Respond))
    × (seen (arrives client_sends_none "13899c4009001de403000000000007d000000000000003e80000002a0122040601000000")
    ≡ (SentReset 6 (34 ∷ 6 ∷ 1 ∷ []), sent "9c40138907000e1a0f000000000003e900000000000007d006220601", phase.Closed))
    × (shown (arrives client_sends_none "13899c4009001de403000000000007d000000000000003e80000002a0122040601000000").after ≡ initial_rows)
    × (seen (arrives (responds_as server_demanding) "9c40138907000e1a0f000000000003e900000000000007d006220601") ≡ (WasReset 6, None, phase.TimeWait))
    × (shown (arrives (responds_as server_demanding) "9c40138907000e1a0f000000000003e900000000000007d006220601").after
    ≡ row f.SendAckVector There 0 Changing initial_rows)
unfolding receives opens framed
nothing-shared-mandatory-at-client = (refl, refl, refl, refl, refl)

-- Nothing is shared, without Mandatory: the Confirm names the value that holds, and it stays.
nothing-shared :
    (seen (opens (new_end (offering (plain Client) f.SendAckVector There false)))
    ≡ (Ok tt, sent "9c401389060008e301000000000003e80000002a22040601", phase.Request))
    × (seen (arrives sends_none "9c401389060008e301000000000003e80000002a22040601")
    ≡ (Took None, sent "13899c400900fd0603000000000007d000000000000003e80000002a2105060000000000", phase.Respond))
    × (shown (arrives sends_none "9c401389060008e301000000000003e80000002a22040601").after ≡ initial_rows)
    × (seen (arrives (requests_as
    (offering (plain Client) f.SendAckVector There false)) "13899c400900fd0603000000000007d000000000000003e80000002a2105060000000000")
    ≡ (Took None, sent client_ack, phase.PartOpen))
    × (shown (arrives (requests_as
    (offering (plain Client) f.SendAckVector There false)) "13899c400900fd0603000000000007d000000000000003e80000002a2105060000000000").after
    ≡ initial_rows)
    × (seen (arrives (new_end (offering (plain Server) f.SendAckVector There false)) request)
    ≡ (Took None, sent "13899c400800fd0a03000000000007d000000000000003e80000002a22040601", phase.Respond))
    × (seen (arrives client_sends_none "13899c400800fd0a03000000000007d000000000000003e80000002a22040601")
    ≡ (Took None, sent "9c4013890800fa3307000000000003e900000000000007d02105060000000000", phase.PartOpen))
    × (shown (arrives client_sends_none "13899c400800fd0a03000000000007d000000000000003e80000002a22040601").after ≡ initial_rows)
    × (seen (arrives (responds_as (offering (plain Server) f.SendAckVector There false)) "9c4013890800fa3307000000000003e900000000000007d02105060000000000")
    ≡ (Took None, sent server_ack, phase.Open))
    × (shown (arrives (responds_as
    (offering (plain Server) f.SendAckVector There false)) "9c4013890800fa3307000000000003e900000000000007d02105060000000000").after
    ≡ initial_rows)
unfolding receives opens framed
nothing-shared = (refl, refl, refl, refl, refl, refl, refl, refl, refl, refl)

-- The Confirms come in the order of the Changes that they answer.
confirms-in-order :
    (seen (arrives listening "9c4013890700e3d901000000000003e80000002a2204060120040401")
    ≡ (Took None, sent "13899c400a00d2f903000000000007d000000000000003e80000002a210606010100230604010100", phase.Respond))
    × (seen (arrives requesting "13899c400900d80103000000000007d000000000000003e80000002a2204060120040401")
    ≡ (Took None, sent "9c4013890a00eadd07000000000003e900000000000007d026030021060601010023060401010000", phase.PartOpen))
unfolding receives opens framed
confirms-in-order = (refl, refl)

-- A Confirm goes out on the packet that the table sends: on the Ack that opens, on the SyncAck, and on a separate Ack where the table sends
-- none.
replies-that-confirm :
    (seen (arrives (responds_as (plain Server)) "9c4013890700004107000000000003e900000000000007d0200401f8")
    ≡ (Took None, sent "13899c400800f94107000000000007d100000000000003e9230601f802f80000", phase.Open))
    × (seen (arrives (responds_as (plain Server)) "9c4013890700f64011000000000003e900000000000007d0200401f8")
    ≡ (Took None, sent "13899c400800ed4113000000000007d100000000000003e9230601f802f80000", phase.Open))
    × (seen (arrives open_server "9c4013890700003f07000000000003ea00000000000007d1200401f8")
    ≡ (Took None, sent "13899c400800f93f07000000000007d200000000000003ea230601f802f80000", phase.Open))
    × (seen (arrives open_server "9c4013890700f63e11000000000003ea00000000000007d1200401f8")
    ≡ (Took None, sent "13899c400800ed3f13000000000007d200000000000003ea230601f802f80000", phase.Open))
    × (seen (arrives open_server "9c4013890700f43e13000000000003ea00000000000007d1200401f8")
    ≡ (Took None, sent "13899c400800f93f07000000000007d200000000000003ea230601f802f80000", phase.Open))
    × (seen (arrives (arrives requesting response).after "13899c400700004007000000000007d100000000000003e9200401f8")
    ≡ (Took None, sent "9c4013890800f94007000000000003ea00000000000007d1230601f802f80000", phase.Open))
    × (seen (arrives (arrives requesting response).after "13899c400700f63f11000000000007d100000000000003e9200401f8")
    ≡ (Took None, sent "9c4013890800ed4013000000000003ea00000000000007d1230601f802f80000", phase.PartOpen))
    × (seen (arrives open_client "13899c400700f43e13000000000007d200000000000003e9200401f8")
    ≡ (Took None, sent "9c4013890800f93f07000000000003ea00000000000007d2230601f802f80000", phase.Open))
unfolding receives opens framed
replies-that-confirm = (refl, refl, refl, refl, refl, refl, refl, refl)
