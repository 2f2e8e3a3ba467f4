-- Worked stories of an end, of a server, computed from the definitions: what each call returns, the frame that goes out, and what the end then
-- shows. The numbers and frames were worked out by hand, or by a second implementation.
use Rattle.std.proofs.Common.{◌≡◌, refl, true, false, [], ◌∷◌, None, Ok, Err}
use Rattle.dccp_states.specs.declared.calls.AbortFault.TheVariants as aborting
use Rattle.dccp_states.specs.declared.calls.CloseFault.TheVariants as closing
use Rattle.dccp_states.specs.declared.calls.OpenFault.TheVariants as opening
use Rattle.dccp_states.specs.declared.calls.SendFault.TheVariants as sending
use Rattle.dccp_states.specs.declared.calls.Timer.TheVariants as timers
use Rattle.dccp_states.specs.declared.outcome.Outcome.TheVariants.{SentReset, Synced, Took, WasReset}
use Rattle.dccp_states.specs.declared.phase.Phase.TheVariants as phase
use Rattle.dccp_states.specs.declared.phase.Role.TheVariants.{Server}
use Rattle.feature_lists.specs.declared.features.Feature.TheVariants as f
use Rattle.feature_lists.specs.declared.features.Place.TheVariants.{Here, There}
use Rattle.feature_lists.specs.declared.wishes.PreferFault.TheVariants as refused
use Rattle.feature_machine.specs.declared.stands.Stand.TheVariants.{Changing}
use Rattle.dccp_endpoint.specs.Calling.{aborts, closes, fires, opens, prefers, sends_payload}
use Rattle.dccp_endpoint.specs.Drafts.{framed}
use Rattle.dccp_endpoint.specs.Early.{sends_early}
use Rattle.dccp_endpoint.specs.Receiving.{receives}
use Rattle.tests_ends.proofs.rows.RowsCalls.{Open, Close, Abort, Packet, Send, Fire, Prefer, AtMarks, AtWindows, AtFloor, AtWindow, AtPhase, AtRow, IsReported, Opens, Closes, Aborts, Hears, Sends, Fires, Prefers, MarksAre, WindowsAre, FloorIs, WindowIs, PhaseIs, RowIs, Reports, story}
use Rattle.tests_ends.proofs.rows.RowsSeen.{plain, sent}

at_a_server :
    -- A handshake: GSS, GSR, OSR and GAR, the floor, and how many numbers were taken
    (story (plain Server) (Open ∷ Packet "9c401389050031ec01000000000003e80000002a" ∷
    Packet "9c4013890600234107000000000003e900000000000007d0" ∷ AtMarks ∷ AtFloor ∷ AtPhase ∷ [])
    ≡ Opens (Err opening.NotFresh) None ∷ Hears (Took None) (sent "13899c400700261403000000000007d000000000000003e80000002a") ∷
    Hears (Took None) (sent "13899c400600234007000000000007d100000000000003e9") ∷ MarksAre 2001 1001 1001 2000 ∷ FloorIs 1000 2 ∷
    PhaseIs phase.Open ∷ [])
    -- What raises GAR: a SyncAck, an Ack, also an older one, and a Response that is refused; and no Sync
    × (story (plain Server) (AtMarks ∷ Packet "9c401389050031ec01000000000003e80000002a" ∷
    Packet "9c4013890600234107000000000003e900000000000007d0" ∷ Fire timers.Ack ∷ Fire timers.Ack ∷ Fire timers.Ack ∷
    Packet "9c4013890600173f13000000000003ea00000000000007d1" ∷ AtMarks ∷ Packet "9c4013890600193d11000000000003eb00000000000007d2" ∷ AtMarks ∷
    Packet "9c4013890600233707000000000003f200000000000007d1" ∷ Packet "9c4013890600233a07000000000003ed00000000000007d3" ∷ AtMarks ∷
    Packet "9c4013890700260503000000000003f300000000000007d40000002a" ∷ AtMarks ∷ AtWindows ∷ [])
    ≡ MarksAre 1999 0 0 2000 ∷ Hears (Took None) (sent "13899c400700261403000000000007d000000000000003e80000002a") ∷
    Hears (Took None) (sent "13899c400600234007000000000007d100000000000003e9") ∷
    Fires true (sent "13899c400600233f07000000000007d200000000000003e9") ∷
    Fires true (sent "13899c400600233e07000000000007d300000000000003e9") ∷
    Fires true (sent "13899c400600233d07000000000007d400000000000003e9") ∷ Hears (Took None) None ∷ MarksAre 2004 1002 1001 2001 ∷
    Hears (Took None) (sent "13899c400600173a13000000000007d500000000000003eb") ∷ MarksAre 2005 1003 1001 2001 ∷ Hears (Took None) None ∷
    Hears (Took None) None ∷ MarksAre 2005 1010 1001 2003 ∷ Hears (Synced 1011) (sent "13899c400600193111000000000007d600000000000003f3") ∷
    MarksAre 2006 1011 1001 2004 ∷ WindowsAre 1000 1086 2000 2006 ∷ [])
    -- A timer that applies and one that does not, a close and an abort, each twice
    × (story (plain Server) (Packet "9c401389050031ec01000000000003e80000002a" ∷ Packet "9c4013890600234107000000000003e900000000000007d0" ∷
    Fire timers.Ack ∷ Fire timers.Close ∷ Close ∷ Close ∷ Abort ∷ Abort ∷ AtPhase ∷ [])
    ≡ Hears (Took None) (sent "13899c400700261403000000000007d000000000000003e80000002a") ∷
    Hears (Took None) (sent "13899c400600234007000000000007d100000000000003e9") ∷
    Fires true (sent "13899c400600233f07000000000007d200000000000003e9") ∷ Fires false None ∷
    Closes (Ok tt) (sent "13899c4006001f3e0b000000000007d300000000000003e9") ∷ Closes (Err closing.NotOpen) None ∷
    Aborts (Ok tt) (sent "13899c40070018390f000000000007d400000000000003e902000000") ∷ Aborts (Err aborting.NotLive) None ∷
    PhaseIs phase.Closed ∷ [])
    -- A feature's value, asked for too early, not permitted, and asked for
    × (story (plain Server) (Prefer f.Ccid Here (2 ∷ []) ∷ Packet "9c401389050031ec01000000000003e80000002a" ∷
    Packet "9c4013890600234107000000000003e900000000000007d0" ∷ Prefer f.Ccid Here (3 ∷ []) ∷ Prefer f.Ccid There (248 ∷ []) ∷
    AtRow f.Ccid There ∷ [])
    ≡ Prefers (Err refused.NotOpen) None ∷ Hears (Took None) (sent "13899c400700261403000000000007d000000000000003e80000002a") ∷
    Hears (Took None) (sent "13899c400600234007000000000007d100000000000003e9") ∷ Prefers (Err refused.BadList) None ∷
    Prefers (Ok tt) (sent "13899c400700fe3e07000000000007d200000000000003e9220401f8") ∷ RowIs 2 Changing ∷ [])
    -- The client will send Ack Vectors. A Sync does not report the two packets, and an Ack does
    × (story (plain Server) (Send "aa" ∷ Packet "9c40138906000ae301000000000003e80000002a20040601" ∷
    Packet "9c4013890600234107000000000003e900000000000007d0" ∷ Send "aa" ∷ Send "bb" ∷
    Packet "9c4013890700f23611000000000003ea00000000000007d226030000" ∷ AtWindow ∷
    Packet "9c4013890700fb3407000000000003eb00000000000007d326030100" ∷ AtWindow ∷ IsReported 2003 ∷ IsReported 2001 ∷ [])
    ≡ Sends (Err sending.NotOpen) None ∷ Hears (Took None) (sent "13899c400900fa0503000000000007d000000000000003e80000002a2305060101000000") ∷
    Hears (Took None) (sent "13899c400600234007000000000007d100000000000003e9") ∷ Sends (Ok tt) (sent "13899c400400812e05000000000007d2aa") ∷
    Sends (Ok tt) (sent "13899c400400702d05000000000007d3bb") ∷ Hears (Took None) (sent "13899c400600173c13000000000007d400000000000003ea") ∷
    WindowIs 4 2 ∷ Hears (Took None) None ∷ WindowIs 5 0 ∷ Reports true ∷ Reports false ∷ [])
    -- Four packets fill the window
    × (story (plain Server) (Packet "9c40138906000ae301000000000003e80000002a20040601" ∷
    Packet "9c4013890600234107000000000003e900000000000007d0" ∷ Send "aa" ∷ Send "bb" ∷ Send "cc" ∷ Send "dd" ∷ Send "ee" ∷ [])
    ≡ Hears (Took None) (sent "13899c400900fa0503000000000007d000000000000003e80000002a2305060101000000") ∷
    Hears (Took None) (sent "13899c400600234007000000000007d100000000000003e9") ∷ Sends (Ok tt) (sent "13899c400400812e05000000000007d2aa") ∷
    Sends (Ok tt) (sent "13899c400400702d05000000000007d3bb") ∷ Sends (Ok tt) (sent "13899c4004005f2c05000000000007d4cc") ∷
    Sends (Ok tt) (sent "13899c4004004e2b05000000000007d5dd") ∷ Sends (Err sending.WindowFull) None ∷ [])
    -- An unexpected packet is answered by a Sync and makes no acknowledgement due: what is sent after it is a Data
    × (story (plain Server) (Packet "9c40138906000ae301000000000003e80000002a20040601" ∷
    Packet "9c4013890600234107000000000003e900000000000007d0" ∷ Packet "9c401389050031e901000000000003eb0000002a" ∷ Send "aa" ∷ [])
    ≡ Hears (Took None) (sent "13899c400900fa0503000000000007d000000000000003e80000002a2305060101000000") ∷
    Hears (Took None) (sent "13899c400600234007000000000007d100000000000003e9") ∷
    Hears (Synced 1003) (sent "13899c400600193d11000000000007d200000000000003eb") ∷
    Sends (Ok tt) (sent "13899c400400812d05000000000007d3aa") ∷ [])
    -- Every number but a Sync's raises GAR: also that of an older packet, of a SyncAck, and of a packet that is answered by a Sync
    × (story (plain Server) (Packet "9c401389050031ec01000000000003e80000002a" ∷ Packet "9c4013890600233d07000000000003ed00000000000007d0" ∷
    AtMarks ∷ Packet "9c4013890600233e07000000000003eb00000000000007d1" ∷ AtMarks ∷ [])
    ≡ Hears (Took None) (sent "13899c400700261403000000000007d000000000000003e80000002a") ∷
    Hears (Took None) (sent "13899c400600233c07000000000007d100000000000003ed") ∷ MarksAre 2001 1005 1005 2000 ∷ Hears (Took None) None ∷
    MarksAre 2001 1005 1005 2001 ∷ [])
    × (story (plain Server) (Packet "9c401389050031ec01000000000003e80000002a" ∷ Packet "9c4013890600234107000000000003e900000000000007d0" ∷
    Packet "9c4013890600173f13000000000003ea00000000000007d1" ∷ AtMarks ∷ [])
    ≡ Hears (Took None) (sent "13899c400700261403000000000007d000000000000003e80000002a") ∷
    Hears (Took None) (sent "13899c400600234007000000000007d100000000000003e9") ∷ Hears (Took None) None ∷ MarksAre 2001 1002 1001 2001 ∷ [])
    × (story (plain Server) (Packet "9c401389050031ec01000000000003e80000002a" ∷ Packet "9c4013890600234107000000000003e900000000000007d0" ∷
    Packet "9c4013890700261003000000000003eb00000000000007d10000002a" ∷ AtMarks ∷ [])
    ≡ Hears (Took None) (sent "13899c400700261403000000000007d000000000000003e80000002a") ∷
    Hears (Took None) (sent "13899c400600234007000000000007d100000000000003e9") ∷
    Hears (Synced 1003) (sent "13899c400600193d11000000000007d200000000000003eb") ∷ MarksAre 2002 1003 1001 2001 ∷ [])
    × (story (plain Server) (Packet "9c401389050031ec01000000000003e80000002a" ∷ Packet "9c4013890600234107000000000003e900000000000007d0" ∷
    Packet "9c4013890600193e11000000000003eb00000000000007d1" ∷ AtMarks ∷ [])
    ≡ Hears (Took None) (sent "13899c400700261403000000000007d000000000000003e80000002a") ∷
    Hears (Took None) (sent "13899c400600234007000000000007d100000000000003e9") ∷
    Hears (Took None) (sent "13899c400600173d13000000000007d200000000000003eb") ∷ MarksAre 2002 1003 1001 2000 ∷ [])
    -- A Reset that counts raises neither GSR nor GAR
    × (story (plain Server) (Packet "9c401389050031ec01000000000003e80000002a" ∷ Packet "9c4013890600234107000000000003e900000000000007d0" ∷
    Packet "9c4013890700183b0f000000000003ea00000000000007d102000000" ∷ AtMarks ∷ AtPhase ∷ [])
    ≡ Hears (Took None) (sent "13899c400700261403000000000007d000000000000003e80000002a") ∷
    Hears (Took None) (sent "13899c400600234007000000000007d100000000000003e9") ∷ Hears (WasReset 2) None ∷ MarksAre 2001 1001 1001 2000 ∷
    PhaseIs phase.TimeWait ∷ [])
    -- A packet below the floor reports, and what it acknowledges is looked up: the floor rises from 1002 to 1003
    × (story (plain Server) (Packet "9c4013890700e1d901000000000003e80000002a2004060122040601" ∷
    Packet "9c4013890600234107000000000003e900000000000007d0" ∷ Send "aa" ∷ Packet "9c4013890600233e07000000000003eb00000000000007d1" ∷
    AtFloor ∷ AtWindow ∷ Packet "9c4013890700fc3707000000000003e900000000000007d226030000" ∷ AtWindow ∷ [])
    ≡ Hears (Took None) (sent "13899c400a00f1d903000000000007d000000000000003e80000002a230506010121060601010000") ∷
    Hears (Took None) (sent "13899c400700fb3807000000000007d100000000000003e926030100") ∷
    Sends (Ok tt) (sent "13899c400400812e05000000000007d2aa") ∷ Hears (Took None) None ∷ FloorIs 1002 3 ∷ WindowIs 4 1 ∷
    Hears (Took None) None ∷ WindowIs 4 0 ∷ [])
    × (story (plain Server) (Packet "9c401389060008e301000000000003e80000002a22040601" ∷
    Packet "9c4013890600234107000000000003e900000000000007d0" ∷ Packet "9c4013890600234007000000000003ea00000000000007d0" ∷ Fire timers.Ack ∷
    Packet "9c4013890600233d07000000000003ec00000000000007d1" ∷ AtFloor ∷ Packet "9c4013890600233f07000000000003e900000000000007d2" ∷
    AtFloor ∷ [])
    ≡ Hears (Took None) (sent "13899c400900fc0403000000000007d000000000000003e80000002a2106060101000000") ∷
    Hears (Took None) (sent "13899c400700fb3807000000000007d100000000000003e926030100") ∷ Hears (Took None) None ∷
    Fires true (sent "13899c400700fa3607000000000007d200000000000003ea26030200") ∷ Hears (Took None) None ∷ FloorIs 1002 4 ∷
    Hears (Took None) None ∷ FloorIs 1003 4 ∷ [])
    -- The vectors of a Close and of a SyncAck report
    × (story (plain Server) (Packet "9c40138906000ae301000000000003e80000002a20040601" ∷
    Packet "9c4013890600234107000000000003e900000000000007d0" ∷ Send "aa" ∷ Send "bb" ∷
    Packet "9c4013890700f5350d000000000003ea00000000000007d326030100" ∷ AtWindow ∷ [])
    ≡ Hears (Took None) (sent "13899c400900fa0503000000000007d000000000000003e80000002a2305060101000000") ∷
    Hears (Took None) (sent "13899c400600234007000000000007d100000000000003e9") ∷ Sends (Ok tt) (sent "13899c400400812e05000000000007d2aa") ∷
    Sends (Ok tt) (sent "13899c400400702d05000000000007d3bb") ∷
    Hears (SentReset 1 (0 ∷ 0 ∷ 0 ∷ [])) (sent "13899c40070019380f000000000007d400000000000003ea01000000") ∷ WindowIs 5 0 ∷ [])
    × (story (plain Server) (Packet "9c40138906000ae301000000000003e80000002a20040601" ∷
    Packet "9c4013890600234107000000000003e900000000000007d0" ∷ Send "aa" ∷ Send "bb" ∷
    Packet "9c4013890700ef3513000000000003ea00000000000007d326030100" ∷ AtWindow ∷ [])
    ≡ Hears (Took None) (sent "13899c400900fa0503000000000007d000000000000003e80000002a2305060101000000") ∷
    Hears (Took None) (sent "13899c400600234007000000000007d100000000000003e9") ∷ Sends (Ok tt) (sent "13899c400400812e05000000000007d2aa") ∷
    Sends (Ok tt) (sent "13899c400400702d05000000000007d3bb") ∷ Hears (Took None) None ∷ WindowIs 5 0 ∷ [])
    -- Four are received, while the same packet confirms an Ack Ratio of 8: half of the four are taken in, and not half of the ratio of 2
    × (story (plain Server) (Packet "9c40138906000ae301000000000003e80000002a20040601" ∷
    Packet "9c4013890600234107000000000003e900000000000007d0" ∷ Prefer f.AckRatio Here (8 ∷ []) ∷ Send "aa" ∷ Send "bb" ∷ Send "cc" ∷
    Send "dd" ∷ Packet "9c4013890900f1fa07000000000003ea00000000000007d6260303230505000800000000" ∷ AtWindow ∷ [])
    ≡ Hears (Took None) (sent "13899c400900fa0503000000000007d000000000000003e80000002a2305060101000000") ∷
    Hears (Took None) (sent "13899c400600234007000000000007d100000000000003e9") ∷
    Prefers (Ok tt) (sent "13899c400800f43107000000000007d200000000000003e92005050008000000") ∷
    Sends (Ok tt) (sent "13899c400400812d05000000000007d3aa") ∷ Sends (Ok tt) (sent "13899c400400702c05000000000007d4bb") ∷
    Sends (Ok tt) (sent "13899c4004005f2b05000000000007d5cc") ∷ Sends (Ok tt) (sent "13899c4004004e2a05000000000007d6dd") ∷
    Hears (Took None) None ∷ WindowIs 6 0 ∷ [])
    -- By CCID 248 data go out without Ack Vectors: a DataAck if an acknowledgement is due, and then a Data
    × (story (plain Server) (Packet "9c401389050031ec01000000000003e80000002a" ∷ Packet "9c4013890600234107000000000003e900000000000007d0" ∷
    Prefer f.Ccid Here (248 ∷ []) ∷ Packet "9c4013890800043507000000000003ea00000000000007d2230601f8f8020000" ∷ Send "aa" ∷ Send "bb" ∷
    AtWindow ∷ [])
    ≡ Hears (Took None) (sent "13899c400700261403000000000007d000000000000003e80000002a") ∷
    Hears (Took None) (sent "13899c400600234007000000000007d100000000000003e9") ∷
    Prefers (Ok tt) (sent "13899c400700003f07000000000007d200000000000003e9200401f8") ∷ Hears (Took None) None ∷
    Sends (Ok tt) (sent "13899c400600773b09000000000007d300000000000003eaaa") ∷ Sends (Ok tt) (sent "13899c400400702c05000000000007d4bb") ∷
    WindowIs 8 2 ∷ [])
    -- In CLOSEREQ a Change on a Sync is not heeded: the SyncAck has no Confirm
    × (story (plain Server) (Packet "9c401389050031ec01000000000003e80000002a" ∷ Packet "9c4013890600234107000000000003e900000000000007d0" ∷
    Close ∷ Packet "9c4013890900d32811000000000003ea00000000000007d2200903000000000020000000" ∷ AtPhase ∷ [])
    ≡ Hears (Took None) (sent "13899c400700261403000000000007d000000000000003e80000002a") ∷
    Hears (Took None) (sent "13899c400600234007000000000007d100000000000003e9") ∷
    Closes (Ok tt) (sent "13899c4006001f3f0b000000000007d200000000000003e9") ∷
    Hears (Took None) (sent "13899c400600173d13000000000007d300000000000003ea") ∷ PhaseIs phase.CloseReq ∷ [])
    -- A Change is ignored whose row waits to ask anew, and is one of 64: of 64 Changes after it 63 are answered
    × (story (plain Server) (Packet "9c401389050031ec01000000000003e80000002a" ∷ Packet "9c4013890600234107000000000003e900000000000007d0" ∷
    Prefer f.MinCsCov There (1 ∷ []) ∷ Prefer f.MinCsCov There (2 ∷ []) ∷
    Packet "9c401389470057e207000000000003ea00000000000007d22004080120040a0120040b0120040c0120040d0120040e0120040f012004100120041101200412012004130120041401200415012004160120041701200418012004190120041a0120041b0120041c0120041d0120041e0120041f012004200120042101200422012004230120042401200425012004260120042701200428012004290120042a0120042b0120042c0120042d0120042e0120042f012004300120043101200432012004330120043401200435012004360120043701200438012004390120043a0120043b0120043c0120043d0120043e0120043f0120044001200441012004420120044301200444012004450120044601200447012004480120044901" ∷ [])
    ≡ Hears (Took None) (sent "13899c400700261403000000000007d000000000000003e80000002a") ∷
    Hears (Took None) (sent "13899c400600234007000000000007d100000000000003e9") ∷
    Prefers (Ok tt) (sent "13899c400700f83507000000000007d200000000000003e922040801") ∷ Prefers (Ok tt) None ∷
    Hears (Took None) (sent "13899c4036000bdf07000000000007d300000000000003ea23030a23030b23030c23030d23030e23030f23031023031123031223031323031423031523031623031723031823031923031a23031b23031c23031d23031e23031f23032023032123032223032323032423032523032623032723032823032923032a23032b23032c23032d23032e23032f23033023033123033223033323033423033523033623033723033823033923033a23033b23033c23033d23033e23033f230340230341230342230343230344230345230346230347230348000000") ∷ [])
unfolding receives opens prefers fires closes aborts sends_payload sends_early framed
at_a_server = (refl, refl, refl, refl, refl, refl, refl, refl, refl, refl, refl, refl, refl, refl, refl, refl, refl, refl, refl, refl)
