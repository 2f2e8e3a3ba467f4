-- Worked stories of a client that speaks first, and of its server (RFC 4340, section 8.1.5), each with CCID 2, computed from the definitions.
-- The packets and windows were worked out by hand.
use Rattle.std.proofs.Common.{◌≡◌, refl, true, false, [], ◌∷◌, None, Some, Ok, Err}
use Rattle.dccp_states.specs.declared.calls.SendFault.TheVariants as sending
use Rattle.dccp_states.specs.declared.calls.Timer.TheVariants as timers
use Rattle.dccp_states.specs.declared.outcome.Outcome.TheVariants.{Took, WasReset}
use Rattle.dccp_states.specs.declared.phase.Phase.TheVariants as phase
use Rattle.dccp_states.specs.declared.phase.Role.TheVariants.{Client, Server}
use Rattle.dccp_endpoint.specs.Calling.{aborts, closes, fires, opens, prefers, sends_payload}
use Rattle.dccp_endpoint.specs.Drafts.{framed}
use Rattle.dccp_endpoint.specs.Early.{sends_early}
use Rattle.dccp_endpoint.specs.Receiving.{receives}
use Rattle.dccp_endpoint.specs.Usual.{usual}
use Rattle.tests_ends.proofs.rows.RowsCalls.{Early, Fire, AtFloor, Open, Packet, AtPhase, Send, Soon, AtWindow, Fires, FloorIs, Hears, Opens, PhaseIs, Sends, WindowIs, story}
use Rattle.tests_ends.proofs.rows.RowsSeen.{plain, sent}

a_client_speaks_first :
    -- Two packets with data before the server spoke: each acknowledges the Response. Its answer opens, and reports the first
    (story (usual Client) (Open ∷
    Packet "13899c400d00a1c303000000000007d000000000000003e80000002a230604010100210606010100012004040101220406010000" ∷ Early "aa" ∷
    Early "bb" ∷ AtPhase ∷ AtWindow ∷ Packet "13899c400800fa7107000000000007d100000000000003ea260500c000000000" ∷ AtPhase ∷ AtWindow ∷
    Early "cc" ∷ Send "cc" ∷ [])
    ≡ Opens (Ok tt) (sent "9c401389080000b601000000000003e80000002a012004040101220406010000") ∷
    Hears (Took None) (sent "9c4013890a00eadd07000000000003e900000000000007d026030023060401010021060601010000") ∷
    Sends (Ok tt) (sent "9c4013890700503709000000000003ea00000000000007d026030000aa") ∷
    Sends (Ok tt) (sent "9c40138907003f3609000000000003eb00000000000007d026030000bb") ∷ PhaseIs phase.PartOpen ∷ WindowIs 4 2 ∷
    Hears (Took None) None ∷ PhaseIs phase.Open ∷ WindowIs 4 1 ∷ Sends (Err sending.NotOpen) None ∷
    Sends (Ok tt) (sent "9c40138907002e3409000000000003ec00000000000007d126030000cc") ∷ [])
    -- Its data in PARTOPEN open as well
    × (story (usual Client) (Open ∷
    Packet "13899c400d00a1c303000000000007d000000000000003e80000002a230604010100210606010100012004040101220406010000" ∷ Early "aa" ∷
    Packet "13899c4008000a7009000000000007d100000000000003ea260500c000000000ee" ∷ AtPhase ∷ AtWindow ∷ [])
    ≡ Opens (Ok tt) (sent "9c401389080000b601000000000003e80000002a012004040101220406010000") ∷
    Hears (Took None) (sent "9c4013890a00eadd07000000000003e900000000000007d026030023060401010021060601010000") ∷
    Sends (Ok tt) (sent "9c4013890700503709000000000003ea00000000000007d026030000aa") ∷ Hears (Took (Some (32, 33))) None ∷ PhaseIs phase.Open ∷
    WindowIs 4 0 ∷ [])
    -- Both are lost: the timer's Ack gets through, and rto takes the data out of flight, only in OPEN
    × (story (usual Client) (Open ∷
    Packet "13899c400d00a1c303000000000007d000000000000003e80000002a230604010100210606010100012004040101220406010000" ∷ Early "aa" ∷
    Fire timers.Ack ∷ Fire timers.Rto ∷ Packet "13899c400800fa6f07000000000007d100000000000003eb260500c100000000" ∷ AtPhase ∷ AtWindow ∷
    Fire timers.Rto ∷ AtWindow ∷ Send "bb" ∷ [])
    ≡ Opens (Ok tt) (sent "9c401389080000b601000000000003e80000002a012004040101220406010000") ∷
    Hears (Took None) (sent "9c4013890a00eadd07000000000003e900000000000007d026030023060401010021060601010000") ∷
    Sends (Ok tt) (sent "9c4013890700503709000000000003ea00000000000007d026030000aa") ∷
    Fires true (sent "9c4013890700fc3707000000000003eb00000000000007d026030000") ∷ Fires false None ∷ Hears (Took None) None ∷
    PhaseIs phase.Open ∷ WindowIs 4 1 ∷ Fires true None ∷ WindowIs 1 0 ∷
    Sends (Ok tt) (sent "9c40138907003f3409000000000003ec00000000000007d126030000bb") ∷ [])
    -- A Sync and another Response in between leave PARTOPEN, and early data acknowledge them; a Reset ends it
    × (story (usual Client) (Open ∷
    Packet "13899c400d00a1c303000000000007d000000000000003e80000002a230604010100210606010100012004040101220406010000" ∷ Early "aa" ∷
    Packet "13899c400600193f11000000000007d100000000000003ea" ∷ Early "bb" ∷ AtPhase ∷ AtWindow ∷ [])
    ≡ Opens (Ok tt) (sent "9c401389080000b601000000000003e80000002a012004040101220406010000") ∷
    Hears (Took None) (sent "9c4013890a00eadd07000000000003e900000000000007d026030023060401010021060601010000") ∷
    Sends (Ok tt) (sent "9c4013890700503709000000000003ea00000000000007d026030000aa") ∷
    Hears (Took None) (sent "9c4013890600173e13000000000003eb00000000000007d1") ∷
    Sends (Ok tt) (sent "9c40138907003e3409000000000003ec00000000000007d126030100bb") ∷ PhaseIs phase.PartOpen ∷ WindowIs 4 2 ∷ [])
    × (story (usual Client) (Open ∷
    Packet "13899c400d00a1c303000000000007d000000000000003e80000002a230604010100210606010100012004040101220406010000" ∷ Early "aa" ∷
    Packet "13899c400700261303000000000007d100000000000003e80000002a" ∷ Early "bb" ∷ AtPhase ∷ [])
    ≡ Opens (Ok tt) (sent "9c401389080000b601000000000003e80000002a012004040101220406010000") ∷
    Hears (Took None) (sent "9c4013890a00eadd07000000000003e900000000000007d026030023060401010021060601010000") ∷
    Sends (Ok tt) (sent "9c4013890700503709000000000003ea00000000000007d026030000aa") ∷
    Hears (Took None) (sent "9c4013890700fb3607000000000003eb00000000000007d126030100") ∷
    Sends (Ok tt) (sent "9c40138907003e3409000000000003ec00000000000007d126030100bb") ∷ PhaseIs phase.PartOpen ∷ [])
    × (story (usual Client) (Open ∷
    Packet "13899c400d00a1c303000000000007d000000000000003e80000002a230604010100210606010100012004040101220406010000" ∷ Early "aa" ∷
    Packet "13899c400700183b0f000000000007d100000000000003ea02000000" ∷ AtPhase ∷ Early "bb" ∷ [])
    ≡ Opens (Ok tt) (sent "9c401389080000b601000000000003e80000002a012004040101220406010000") ∷
    Hears (Took None) (sent "9c4013890a00eadd07000000000003e900000000000007d026030023060401010021060601010000") ∷
    Sends (Ok tt) (sent "9c4013890700503709000000000003ea00000000000007d026030000aa") ∷ Hears (WasReset 2) None ∷ PhaseIs phase.TimeWait ∷
    Sends (Err sending.NotOpen) None ∷ [])
    -- Four packets fill the window, until the server reports them
    × (story (usual Client) (Open ∷
    Packet "13899c400d00a1c303000000000007d000000000000003e80000002a230604010100210606010100012004040101220406010000" ∷ Early "aa" ∷
    Early "bb" ∷ Early "cc" ∷ Early "dd" ∷ Early "ee" ∷ AtWindow ∷ Packet "13899c400700f73407000000000007d100000000000003ed26030500" ∷
    AtWindow ∷ [])
    ≡ Opens (Ok tt) (sent "9c401389080000b601000000000003e80000002a012004040101220406010000") ∷
    Hears (Took None) (sent "9c4013890a00eadd07000000000003e900000000000007d026030023060401010021060601010000") ∷
    Sends (Ok tt) (sent "9c4013890700503709000000000003ea00000000000007d026030000aa") ∷
    Sends (Ok tt) (sent "9c40138907003f3609000000000003eb00000000000007d026030000bb") ∷
    Sends (Ok tt) (sent "9c40138907002e3509000000000003ec00000000000007d026030000cc") ∷
    Sends (Ok tt) (sent "9c40138907001d3409000000000003ed00000000000007d026030000dd") ∷ Sends (Err sending.WindowFull) None ∷ WindowIs 4 4 ∷
    Hears (Took None) None ∷ WindowIs 5 0 ∷ [])
    -- Neither before the Response; as soon as the phase allows, on a DataAck in PARTOPEN, and then as `send` does it
    × (story (usual Client) (Early "aa" ∷ Soon "aa" ∷ Open ∷ Early "aa" ∷ Soon "aa" ∷
    Packet "13899c400d00a1c303000000000007d000000000000003e80000002a230604010100210606010100012004040101220406010000" ∷ Send "aa" ∷ Soon "aa" ∷
    Packet "13899c400800fa7107000000000007d100000000000003ea260500c000000000" ∷ Soon "bb" ∷ Soon "cc" ∷ [])
    ≡ Sends (Err sending.NotOpen) None ∷ Sends (Err sending.NotOpen) None ∷
    Opens (Ok tt) (sent "9c401389080000b601000000000003e80000002a012004040101220406010000") ∷ Sends (Err sending.NotOpen) None ∷
    Sends (Err sending.NotOpen) None ∷
    Hears (Took None) (sent "9c4013890a00eadd07000000000003e900000000000007d026030023060401010021060601010000") ∷
    Sends (Err sending.NotOpen) None ∷ Sends (Ok tt) (sent "9c4013890700503709000000000003ea00000000000007d026030000aa") ∷
    Hears (Took None) None ∷ Sends (Ok tt) (sent "9c40138907003f3509000000000003eb00000000000007d126030000bb") ∷
    Sends (Ok tt) (sent "9c4013890400631405000000000003eccc") ∷ [])
unfolding receives opens prefers fires closes aborts sends_payload sends_early framed
a_client_speaks_first = (refl, refl, refl, refl, refl, refl, refl, refl)

a_server_hears_it :
    -- After the client's Ack: data as any other, and the second are acknowledged
    (story (usual Server) (Packet "9c401389080000b601000000000003e80000002a012004040101220406010000" ∷
    Packet "9c4013890a00eadd07000000000003e900000000000007d026030023060401010021060601010000" ∷
    Packet "9c4013890700503709000000000003ea00000000000007d026030000aa" ∷ AtFloor ∷
    Packet "9c40138907003f3609000000000003eb00000000000007d026030000bb" ∷ AtPhase ∷ [])
    ≡ Hears (Took None) (sent "13899c400d00a1c303000000000007d000000000000003e80000002a230604010100210606010100012004040101220406010000") ∷
    Hears (Took None) (sent "13899c400700fb3807000000000007d100000000000003e926030100") ∷ Hears (Took (Some (28, 29))) None ∷ FloorIs 1000 3 ∷
    Hears (Took (Some (28, 29))) (sent "13899c400700f93507000000000007d200000000000003eb26030300") ∷ PhaseIs phase.Open ∷ [])
    -- Before it: they open the server, which answers; the Ack that comes late, and the same data again, change no more
    × (story (usual Server) (Packet "9c401389080000b601000000000003e80000002a012004040101220406010000" ∷
    Packet "9c4013890700503709000000000003ea00000000000007d026030000aa" ∷ AtPhase ∷
    Packet "9c4013890a00eadd07000000000003e900000000000007d026030023060401010021060601010000" ∷
    Packet "9c4013890700503709000000000003ea00000000000007d026030000aa" ∷ AtFloor ∷
    Packet "9c40138907003f3609000000000003eb00000000000007d026030000bb" ∷ [])
    ≡ Hears (Took None) (sent "13899c400d00a1c303000000000007d000000000000003e80000002a230604010100210606010100012004040101220406010000") ∷
    Hears (Took (Some (28, 29))) (sent "13899c400800fa7107000000000007d100000000000003ea260500c000000000") ∷ PhaseIs phase.Open ∷
    Hears (Took None) None ∷ Hears (Took None) None ∷ FloorIs 1000 3 ∷ Hears (Took (Some (28, 29))) None ∷ [])
    -- An Ack of the timer opened it, and they come late
    × (story (usual Server) (Packet "9c401389080000b601000000000003e80000002a012004040101220406010000" ∷
    Packet "9c4013890700fc3707000000000003eb00000000000007d026030000" ∷ Packet "9c4013890700503709000000000003ea00000000000007d026030000aa" ∷
    AtFloor ∷ [])
    ≡ Hears (Took None) (sent "13899c400d00a1c303000000000007d000000000000003e80000002a230604010100210606010100012004040101220406010000") ∷
    Hears (Took None) (sent "13899c400800fa6f07000000000007d100000000000003eb260500c100000000") ∷ Hears (Took (Some (28, 29))) None ∷
    FloorIs 1000 3 ∷ [])
    -- No server sends early
    × (story (usual Server) (Packet "9c401389080000b601000000000003e80000002a012004040101220406010000" ∷ Early "aa" ∷ Soon "aa" ∷
    Packet "9c4013890a00eadd07000000000003e900000000000007d026030023060401010021060601010000" ∷ Early "aa" ∷ Soon "aa" ∷ [])
    ≡ Hears (Took None) (sent "13899c400d00a1c303000000000007d000000000000003e80000002a230604010100210606010100012004040101220406010000") ∷
    Sends (Err sending.NotOpen) None ∷ Sends (Err sending.NotOpen) None ∷
    Hears (Took None) (sent "13899c400700fb3807000000000007d100000000000003e926030100") ∷ Sends (Err sending.NotOpen) None ∷
    Sends (Ok tt) (sent "13899c400400812e05000000000007d2aa") ∷ [])
unfolding receives opens prefers fires closes aborts sends_payload sends_early framed
a_server_hears_it = (refl, refl, refl, refl)

-- The client that offers nothing gets no Ack Vectors, which CCID 2 needs.
early_data_need_vectors :
    (story (plain Client) (Open ∷ Packet "13899c400700261403000000000007d000000000000003e80000002a" ∷ Early "aa" ∷ Soon "aa" ∷ AtPhase ∷ [])
    ≡ Opens (Ok tt) (sent "9c401389050031ec01000000000003e80000002a") ∷
    Hears (Took None) (sent "9c4013890600234107000000000003e900000000000007d0") ∷ Sends (Err sending.NotNegotiated) None ∷
    Sends (Err sending.NotNegotiated) None ∷ PhaseIs phase.PartOpen ∷ [])
unfolding receives opens prefers fires closes aborts sends_payload sends_early framed
early_data_need_vectors = refl
