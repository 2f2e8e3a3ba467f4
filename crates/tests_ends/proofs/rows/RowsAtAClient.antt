-- Worked stories of an end, of a client, and of a server with an offer, computed from the definitions: what each call returns, the frame that
-- goes out, and what the end then shows. The numbers and frames were worked out by hand, or by a second implementation.
use Rattle.std.proofs.Common.{◌≡◌, refl, true, [], ◌∷◌, None, Ok, Err}
use Rattle.dccp_states.specs.declared.calls.OpenFault.TheVariants as opening
use Rattle.dccp_states.specs.declared.calls.Timer.TheVariants as timers
use Rattle.dccp_states.specs.declared.outcome.Outcome.TheVariants.{Took}
use Rattle.dccp_states.specs.declared.phase.Phase.TheVariants as phase
use Rattle.dccp_states.specs.declared.phase.Role.TheVariants.{Client, Server}
use Rattle.feature_lists.specs.declared.features.Feature.TheVariants as f
use Rattle.feature_lists.specs.declared.features.Place.TheVariants.{Here}
use Rattle.feature_lists.specs.declared.wishes.Wanted.TheVariants as wanted
use Rattle.dccp_endpoint.specs.declared.config.Config.{Config}
use Rattle.dccp_sum.specs.declared.pseudo_header.Pseudo.TheVariants.{V4}
use Rattle.dccp_endpoint.specs.Configured.{configured}
use Rattle.dccp_endpoint.specs.Usual.{usual}
use Rattle.dccp_endpoint.specs.Calling.{aborts, closes, fires, opens, prefers, sends_payload}
use Rattle.dccp_endpoint.specs.Drafts.{framed}
use Rattle.dccp_endpoint.specs.Early.{sends_early}
use Rattle.dccp_endpoint.specs.Receiving.{receives}
use Rattle.tests_ends.proofs.rows.RowsCalls.{Open, Packet, Send, Fire, AtMarks, AtWindow, AtPhase, Opens, Hears, Sends, Fires, MarksAre, WindowIs, PhaseIs, story}
use Rattle.tests_ends.proofs.rows.RowsSeen.{offering, plain, sent, wishing}

at_a_client :
    (story (plain Client) (AtPhase ∷ Open ∷ Open ∷ AtPhase ∷ [])
    ≡ PhaseIs phase.Closed ∷ Opens (Ok tt) (sent "9c401389050031ec01000000000003e80000002a") ∷ Opens (Err opening.NotFresh) None ∷
    PhaseIs phase.Request ∷ [])
    -- The Response raises GAR, also to the number of a later Request, and so does the SyncAck that opens
    × (story (plain Client) (Open ∷ Fire timers.Request ∷ Packet "13899c400700261303000000000007d000000000000003e90000002a" ∷ AtMarks ∷ [])
    ≡ Opens (Ok tt) (sent "9c401389050031ec01000000000003e80000002a") ∷ Fires true (sent "9c401389050031eb01000000000003e90000002a") ∷
    Hears (Took None) (sent "9c4013890600234007000000000003ea00000000000007d0") ∷ MarksAre 1002 2000 2000 1001 ∷ [])
    × (story (plain Client) (Open ∷ Packet "13899c400700261403000000000007d000000000000003e80000002a" ∷
    Packet "13899c400600174013000000000007d100000000000003e9" ∷ AtMarks ∷ [])
    ≡ Opens (Ok tt) (sent "9c401389050031ec01000000000003e80000002a") ∷
    Hears (Took None) (sent "9c4013890600234107000000000003e900000000000007d0") ∷ Hears (Took None) None ∷ MarksAre 1001 2001 2001 1001 ∷ [])
    -- The vectors of a CloseReq and of a Response that comes late report
    × (story (plain Client) (Open ∷ Packet "13899c400800ff0a03000000000007d000000000000003e80000002a20040601" ∷
    Packet "13899c400600234007000000000007d100000000000003e9" ∷ Send "aa" ∷ Send "bb" ∷ Send "cc" ∷
    Packet "13899c400700f6340b000000000007d200000000000003ec26030200" ∷ AtWindow ∷ [])
    ≡ Opens (Ok tt) (sent "9c401389050031ec01000000000003e80000002a") ∷
    Hears (Took None) (sent "9c4013890800f73207000000000003e900000000000007d02305060101000000") ∷ Hears (Took None) None ∷
    Sends (Ok tt) (sent "9c4013890600773d09000000000003ea00000000000007d1aa") ∷ Sends (Ok tt) (sent "9c4013890400741505000000000003ebbb") ∷
    Sends (Ok tt) (sent "9c4013890400631405000000000003eccc") ∷ Hears (Took None) (sent "9c40138906001d3b0d000000000003ed00000000000007d2") ∷
    WindowIs 5 0 ∷ [])
    × (story (plain Client) (Open ∷ Packet "13899c400800ff0a03000000000007d000000000000003e80000002a20040601" ∷
    Packet "13899c400600233f07000000000007d200000000000003e9" ∷ Send "aa" ∷ Send "bb" ∷
    Packet "13899c400800fe0803000000000007d100000000000003eb0000002a26030100" ∷ AtWindow ∷ [])
    ≡ Opens (Ok tt) (sent "9c401389050031ec01000000000003e80000002a") ∷
    Hears (Took None) (sent "9c4013890800f73207000000000003e900000000000007d02305060101000000") ∷ Hears (Took None) None ∷
    Sends (Ok tt) (sent "9c4013890600773c09000000000003ea00000000000007d2aa") ∷ Sends (Ok tt) (sent "9c4013890400741505000000000003ebbb") ∷
    Hears (Took None) None ∷ WindowIs 5 0 ∷ [])
unfolding receives opens prefers fires closes aborts sends_payload sends_early framed
at_a_client = (refl, refl, refl, refl, refl)

-- a server whose list of CCIDs begins with 248 offers it with Mandatory
abbrev server_with_offer : Config
server_with_offer = offering (wishing (plain Server) f.Ccid Here (wanted.List (248 ∷ 2 ∷ []))) f.Ccid Here true

of_an_offer :
    (story server_with_offer (Packet "9c401389050031ec01000000000003e80000002a" ∷ [])
    ≡ Hears (Took None) (sent "13899c40090025e803000000000007d000000000000003e80000002a01200501f8020000") ∷ [])
unfolding receives opens prefers fires closes aborts sends_payload sends_early framed
of_an_offer = refl

-- The usual ends are configured as any others are: their packets go out between two addresses and ports, and come back between the same two the
-- other way round.
usual_ends_are_configured :
    (configured Client (V4 (10 ∷ 0 ∷ 0 ∷ 1 ∷ []) (10 ∷ 0 ∷ 0 ∷ 2 ∷ [])) (record { own = 40000; peer = 5001 }) 42 1000 ≡ usual Client)
    × (configured Server (V4 (10 ∷ 0 ∷ 0 ∷ 2 ∷ []) (10 ∷ 0 ∷ 0 ∷ 1 ∷ [])) (record { own = 5001; peer = 40000 }) 42 2000 ≡ usual Server)
usual_ends_are_configured = (refl, refl)
