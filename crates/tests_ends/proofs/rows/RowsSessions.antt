-- Worked stories of sessions over wires that keep all frames in their order, computed from the definitions: what an owner sees of phases, data and
-- timers. The waits are those of the standard, and the numbers were worked out by hand.
use Rattle.std.proofs.Common.{◌≡◌, refl, ℕ, true, false, List, [], ◌∷◌, replicate, Some, None, Ok, Err}
use Rattle.ccid_two.specs.Kinds.{Both, at_first, kinds_control}
use Rattle.congestion_trait.specs.Control.{Control}
use Rattle.congestion_trait.specs.Kind.{KindState, control_by_rules}
use Rattle.dccp_endpoint.specs.Calling.{closes, fires, opens, prefers, sends_payload}
use Rattle.dccp_endpoint.specs.Drafts.{framed}
use Rattle.dccp_endpoint.specs.Early.{sends_early}
use Rattle.dccp_endpoint.specs.Receiving.{receives}
use Rattle.dccp_states.specs.declared.calls.SendFault.TheVariants.{WindowFull}
use Rattle.dccp_states.specs.declared.calls.Timer.TheVariants as timers
use Rattle.dccp_states.specs.declared.phase.Phase.TheVariants as phase
use Rattle.dccp_uses.specs.Alarms.{next_wait, until_first}
use Rattle.dccp_uses.specs.OneAtATime.{one_at_a_time}
use Rattle.dccp_uses.specs.Sessions.{session_hears}
use Rattle.dccp_uses.specs.declared.news.News.TheVariants as news
use Rattle.dccp_uses.specs.declared.reader.SendRefusal.TheVariants.{Refused}
use Rattle.tests_ends.proofs.rows.RowsPairs.{Pair, Say, ServerCloses, Lose, Turns, Pass, Wait, AtPhases, AtGot, AtFirst, AtLeft, AtCodes, AtRoom, AtServer, AtClientsTimer, AtServersTimer, Answers, PhasesAre, Got, FirstIs, LeftIs, CodesAre, RoomIs, IsServed, WaitIs, asking, client_hears, told}

abbrev asked : Pair Both
asked = asking kinds_control at_first 42

-- The waits of RFC 4340, sections 8.1.1, 8.1.5 and 8.3, with round trips of 200 milliseconds and segments that live for two minutes (section
-- 3.4); and a second for a Confirm and for a report. The client is in PARTOPEN, the server in RESPOND; both are in OPEN, and the client's
-- data are in flight; the server is in CLOSEREQ, the client in CLOSING, where its data are in flight still, and then in TIMEWAIT.
a_timer_begins_with_its_first_wait :
    told kinds_control asked
    (AtClientsTimer timers.Request ∷ Turns 1 ∷ AtPhases ∷ AtClientsTimer timers.Ack ∷ AtClientsTimer timers.Negotiate ∷
    AtServersTimer timers.Request ∷ Turns 1 ∷ AtPhases ∷ AtServersTimer timers.Ack ∷ AtServersTimer timers.Negotiate ∷ Say 1 ∷
    AtClientsTimer timers.Rto ∷ ServerCloses ∷ AtServersTimer timers.Close ∷ Turns 1 ∷ AtClientsTimer timers.Close ∷
    AtClientsTimer timers.Rto ∷ Turns 5 ∷ AtClientsTimer timers.TimeWait ∷ [])
    ≡ WaitIs (Some 1000) ∷ PhasesAre phase.PartOpen phase.Respond ∷ WaitIs (Some 200) ∷ WaitIs (Some 1000) ∷ WaitIs None ∷
    PhasesAre phase.Open phase.Open ∷ WaitIs (Some 200) ∷ WaitIs (Some 1000) ∷ Answers (Ok tt) ∷ WaitIs (Some 1000) ∷ WaitIs (Some 400) ∷
    WaitIs (Some 400) ∷ WaitIs None ∷ WaitIs (Some 240000) ∷ []
unfolding receives opens closes prefers fires sends_payload sends_early framed until_first
a_timer_begins_with_its_first_wait = refl

-- Each wait is twice the last, from a second up to 64 (RFC 4340, section 8.1.1). A Request goes out after its wait, not a millisecond before, and
-- once.
the_request_goes_out_again :
    told kinds_control asked
    (AtFirst ∷ Wait 100 ∷ AtFirst ∷ Wait 899 ∷ AtFirst ∷ Wait 1 ∷ AtFirst ∷ Wait 0 ∷ AtFirst ∷ Wait 1999 ∷ AtFirst ∷ Wait 1 ∷ AtFirst ∷
    Wait 0 ∷ AtFirst ∷ Wait 3999 ∷ AtFirst ∷ Wait 1 ∷ AtFirst ∷ Wait 0 ∷ AtFirst ∷ Wait 7999 ∷ AtFirst ∷ Wait 1 ∷ AtFirst ∷ Wait 0 ∷
    AtFirst ∷ Wait 15999 ∷ AtFirst ∷ Wait 1 ∷ AtFirst ∷ Wait 0 ∷ AtFirst ∷ Wait 31999 ∷ AtFirst ∷ Wait 1 ∷ AtFirst ∷ Wait 0 ∷ AtFirst ∷
    Wait 63999 ∷ AtFirst ∷ Wait 1 ∷ AtFirst ∷ Wait 0 ∷ AtFirst ∷ Wait 63999 ∷ AtFirst ∷ Wait 1 ∷ AtFirst ∷ Wait 0 ∷ AtFirst ∷ [])
    ≡ FirstIs 1 (Some 1000) ∷ FirstIs 1 (Some 900) ∷ FirstIs 1 (Some 1) ∷ FirstIs 2 (Some 2000) ∷ FirstIs 2 (Some 2000) ∷
    FirstIs 2 (Some 1) ∷ FirstIs 3 (Some 4000) ∷ FirstIs 3 (Some 4000) ∷ FirstIs 3 (Some 1) ∷ FirstIs 4 (Some 8000) ∷
    FirstIs 4 (Some 8000) ∷ FirstIs 4 (Some 1) ∷ FirstIs 5 (Some 16000) ∷ FirstIs 5 (Some 16000) ∷ FirstIs 5 (Some 1) ∷
    FirstIs 6 (Some 32000) ∷ FirstIs 6 (Some 32000) ∷ FirstIs 6 (Some 1) ∷ FirstIs 7 (Some 64000) ∷ FirstIs 7 (Some 64000) ∷
    FirstIs 7 (Some 1) ∷ FirstIs 8 (Some 64000) ∷ FirstIs 8 (Some 64000) ∷ FirstIs 8 (Some 1) ∷ FirstIs 9 (Some 64000) ∷
    FirstIs 9 (Some 64000) ∷ []
unfolding receives opens closes prefers fires sends_payload sends_early framed until_first
the_request_goes_out_again = refl

-- A timeout leaves nothing in flight, so the timer rto stops; the next data begin it with twice its wait (RFC 2988, section 5.5), until an
-- acknowledgement brings the first wait back (section 5.3). The waits of the other timers have grown to 64 seconds, so that the first to run out
-- is rto. Of seven data the first two and the fifth are lost. Then two go out, of which the first are acknowledged before the second have come:
-- from then on the second are waited for anew.
a_timeout_doubles_the_next_wait :
    told kinds_control asked
    (Turns 2 ∷ AtPhases ∷ Pass 64000 ∷ Pass 64000 ∷ Pass 64000 ∷ Pass 64000 ∷ Pass 64000 ∷ Pass 64000 ∷ Pass 64000 ∷ Pass 64000 ∷
    Pass 64000 ∷ Pass 64000 ∷ AtLeft ∷ Say 1 ∷ AtLeft ∷ Lose ∷ Pass 999 ∷ AtLeft ∷ Pass 1 ∷ AtClientsTimer timers.Rto ∷ Say 1 ∷
    AtLeft ∷ Lose ∷ Pass 1999 ∷ AtLeft ∷ Pass 1 ∷ AtClientsTimer timers.Rto ∷ Say 1 ∷ AtLeft ∷ Turns 10 ∷ AtClientsTimer timers.Rto ∷
    Say 1 ∷ AtLeft ∷ Turns 10 ∷ AtClientsTimer timers.Rto ∷ Say 1 ∷ AtLeft ∷ Lose ∷ Pass 999 ∷ AtLeft ∷ Pass 1 ∷
    AtClientsTimer timers.Rto ∷ Say 1 ∷ AtLeft ∷ Turns 10 ∷ AtClientsTimer timers.Rto ∷ Say 1 ∷ AtLeft ∷ Turns 10 ∷
    AtClientsTimer timers.Rto ∷ AtGot ∷ Say 8 ∷ Turns 5 ∷ Say 9 ∷ AtLeft ∷ Turns 1 ∷ AtLeft ∷ [])
    ≡ PhasesAre phase.Open phase.Open ∷ LeftIs (Some 64000) ∷ Answers (Ok tt) ∷ LeftIs (Some 1000) ∷ LeftIs (Some 1) ∷
    WaitIs None ∷ Answers (Ok tt) ∷ LeftIs (Some 2000) ∷ LeftIs (Some 1) ∷ WaitIs None ∷ Answers (Ok tt) ∷ LeftIs (Some 4000) ∷
    WaitIs None ∷ Answers (Ok tt) ∷ LeftIs (Some 1000) ∷ WaitIs None ∷ Answers (Ok tt) ∷ LeftIs (Some 1000) ∷ LeftIs (Some 1) ∷
    WaitIs None ∷ Answers (Ok tt) ∷ LeftIs (Some 2000) ∷ WaitIs None ∷ Answers (Ok tt) ∷ LeftIs (Some 1000) ∷ WaitIs None ∷
    Got (1 ∷ 1 ∷ 1 ∷ 1 ∷ []) ∷ Answers (Ok tt) ∷ Answers (Ok tt) ∷ LeftIs (Some 750) ∷ LeftIs (Some 1000) ∷ []
unfolding receives opens closes prefers fires sends_payload sends_early framed until_first
a_timeout_doubles_the_next_wait = refl

-- a datagram that is too long is not taken, and one that says nothing changes nothing
abbrev zeros : ℕ → List ℕ
zeros count = replicate count 0

a_long_datagram_changes_nothing :
    ((session_hears kinds_control 5000 asked.client (zeros 2045)).answer ≡ news.TooLong)
    × ((session_hears kinds_control 5000 asked.client (zeros 2044)).answer ≡ news.Quiet)
    × (told kinds_control (client_hears kinds_control asked (zeros 2044)) (AtFirst ∷ []) ≡ FirstIs 1 (Some 1000) ∷ [])
unfolding receives opens framed until_first
a_long_datagram_changes_nothing = (refl, refl, refl)

-- a server takes a Request for its service, and the client acknowledges the Response
a_request_is_a_connection :
    told kinds_control asked
    (Turns 1 ∷ AtServer ∷ AtFirst ∷ AtCodes ∷ [])
    ≡ IsServed true ∷ FirstIs 1 (Some 200) ∷ CodesAre None None ∷ []
unfolding receives opens closes prefers fires sends_payload sends_early framed until_first
a_request_is_a_connection = refl

-- it takes none for another service, and the client gets the code Bad Service Code (RFC 4340, section 5.6)
of_another_service_it_is_none :
    told kinds_control (asking kinds_control at_first 43)
    (Turns 1 ∷ AtServer ∷ AtCodes ∷ [])
    ≡ IsServed false ∷ CodesAre (Some 8) None ∷ []
unfolding receives opens closes prefers fires sends_payload sends_early framed until_first
of_another_service_it_is_none = refl

-- the client's Ack is lost, and its first data open the server (RFC 4340, section 8.1.5)
the_client_speaks_first :
    told kinds_control asked
    (Turns 1 ∷ Lose ∷ Say 1 ∷ Say 2 ∷ Turns 20 ∷ AtPhases ∷ AtGot ∷ [])
    ≡ Answers (Ok tt) ∷ Answers (Ok tt) ∷ PhasesAre phase.Open phase.Open ∷ Got (1 ∷ 2 ∷ []) ∷ []
unfolding receives opens closes prefers fires sends_payload sends_early framed until_first
the_client_speaks_first = refl

-- An own congestion control: a client whose window is one packet. The second has to wait for the report of the first.
abbrev by_ones : Control (KindState (Unit {0}))
by_ones = control_by_rules one_at_a_time

abbrev asked_by_ones : Pair (KindState (Unit {0}))
asked_by_ones = asking by_ones (record { flight = []; rest = tt }) 42

one_packet_at_a_time :
    told by_ones asked_by_ones
    (Turns 2 ∷ AtPhases ∷ AtRoom ∷ Say 1 ∷ AtRoom ∷ Say 2 ∷ Turns 10 ∷ AtRoom ∷ AtGot ∷ [])
    ≡ PhasesAre phase.Open phase.Open ∷ RoomIs 1 ∷ Answers (Ok tt) ∷ RoomIs 0 ∷ Answers (Err (Refused WindowFull)) ∷ RoomIs 1 ∷ Got (1 ∷ []) ∷ []
unfolding receives opens closes prefers fires sends_payload sends_early framed until_first
one_packet_at_a_time = refl

-- it replaces only CCID 2; and a wait is never zero
own_kind_and_least_wait : (by_ones.is_known 2 ≡ true) × (by_ones.is_known 3 ≡ false) × (next_wait (record { first = 0; most = 64000 }) 0 ≡ 1)
    × (next_wait (record { first = 0; most = 64000 }) 1 ≡ 2)
own_kind_and_least_wait = (refl, refl, refl, refl)
