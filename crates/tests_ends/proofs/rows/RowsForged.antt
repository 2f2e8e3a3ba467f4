-- Worked packets under the rules of a path: those that would be answered by a Sync, most of which are ignored, and an end that nobody answers.
-- The packets and numbers were worked out by hand; the server has received up to 1001 and sent up to 2001, with windows of 100, so that SWL is
-- 1000 and SWH 1076.
use Rattle.std.proofs.Common.{◌≡◌, refl, ℕ, zero, suc, Bool, true, false, List, [], ◌∷◌, ◌++◌, replicate, Option, Some, None, codes}
use Prim.Native.String.{String}
use Rattle.dccp_packets.specs.Outgoing.{bytes_sent}
use Rattle.ccid_two.specs.Kinds.{Both, at_first, kinds_control}
use Rattle.dccp_endpoint.specs.Calling.{aborts, closes, fires, opens, prefers, sends_payload}
use Rattle.dccp_endpoint.specs.Controlled.{begins}
use Rattle.dccp_endpoint.specs.Drafts.{framed}
use Rattle.dccp_endpoint.specs.Early.{sends_early}
use Rattle.dccp_endpoint.specs.End.{EndState}
use Rattle.dccp_endpoint.specs.Receiving.{receives}
use Rattle.dccp_endpoint.specs.Steps.{in_phase}
use Rattle.dccp_states.specs.declared.calls.Timer.TheVariants as timers
use Rattle.dccp_states.specs.declared.phase.Phase.TheVariants as phase
use Rattle.dccp_states.specs.declared.phase.Role.TheVariants.{Client, Server}
use Rattle.feature_lists.specs.declared.features.Feature.TheVariants.{ShortSeqnos}
use Rattle.feature_lists.specs.declared.features.Place.TheVariants.{There}
use Rattle.dccp_uses.specs.Alarms.{until_first}
use Rattle.dccp_uses.specs.Path.{classic_pace, path_begins, usual_pace, widened}
use Rattle.dccp_uses.specs.Sessions.{rings_due}
use Rattle.dccp_uses.specs.Syncs.{admitted}
use Rattle.dccp_uses.specs.Timed.{TimedState, timed_begins, timed_opens, timed_takes, with_path}
use Rattle.dccp_uses.specs.declared.pace.Pace.{Pace}
use Rattle.dccp_uses.specs.declared.path.Path.{Path}
use Rattle.dccp_uses.specs.declared.timed_end.Due.TheVariants as due
use Rattle.tests_ends.proofs.rows.RowsSeen.{bytes, open_server, plain, sent}
use Rattle.tests_ends.proofs.rows.RowsShort.{holding}

-- which of these datagrams are taken, each at its time
abbrev heard_each : EndState → Path → List (ℕ × String) → List Bool
heard_each e path [] = []
heard_each e path (it ∷ rest) =
    (admitted e path (bytes (codes it.1)) it.0).heard ∷ heard_each e (admitted e path (bytes (codes it.1)) it.0).path rest

abbrev heard_by : EndState → List (ℕ × String) → List Bool
heard_by e given = heard_each e (path_begins usual_pace) given

-- Data in the window, after it, and before it; at the last number that is near, and at the first that is far; an Ack in the windows, and one
-- that acknowledges what was not sent; a Sync, which is never answered by a Sync; a Reset after the window; no packet
abbrev inside : String
inside = "9c40138904002ece0500000000000434"

abbrev after_it : String
after_it = "9c40138904002ecd0500000000000435"

abbrev before_it : String
before_it = "9c40138904002f1b05000000000003e7"

abbrev last_near : String
last_near = "9c40138904002e1a05000000010003e8"

abbrev first_far : String
first_far = "9c40138904002e1905000000010003e9"

abbrev proper_ack : String
proper_ack = "9c4013890600233f07000000000003ea00000000000007d1"

abbrev unsent_ack : String
unsent_ack = "9c4013890600233e07000000000003ea00000000000007d2"

abbrev sync : String
sync = "9c401389060018f3110000000000043500000000000007d2"

abbrev reset : String
reset = "9c401389070017f00f0000000000043500000000000007d102000000"

-- Data after the window, and in it, with short numbers
abbrev short_after : String
short_after = "9c401389030030d104000435"

abbrev short_inside : String
short_inside = "9c401389030030d204000434"

-- Twenty near ones are taken at one time, and one more each 50 milliseconds; a far one each second, which takes nothing from these; and always
-- what would not be answered by a Sync.
few_are_heard :
    (heard_by open_server (replicate 21 (1000, after_it)) ≡ replicate 20 true ++ false ∷ [])
    × (heard_by open_server (replicate 20 (1000, after_it) ++ (1049, before_it) ∷ (1050, last_near) ∷ (1050, unsent_ack) ∷ (1100, reset) ∷ [])
    ≡ replicate 20 true ++ false ∷ true ∷ false ∷ true ∷ [])
    × (heard_by open_server ((1000, first_far) ∷ (1999, first_far) ∷ (2000, first_far) ∷ (2000, after_it) ∷ []) ≡ true ∷ false ∷ true ∷ true ∷ [])
    × (heard_by open_server (replicate 30 (1000, inside) ++ (1000, proper_ack) ∷ (1000, sync) ∷ (1000, "") ∷ replicate 20 (1000, after_it))
    ≡ replicate 53 true)
unfolding receives
few_are_heard = (refl, refl, refl, refl)

-- Nothing is left out where that rule is not followed, and in the phases in which no windows judge.
all_are_heard :
    (heard_each open_server (path_begins classic_pace) (replicate 21 (1000, after_it)) ≡ replicate 21 true)
    × (heard_by (in_phase open_server phase.Closed) (replicate 21 (1000, after_it)) ≡ replicate 21 true)
    × (heard_by (in_phase open_server phase.Listen) (replicate 21 (1000, after_it)) ≡ replicate 21 true)
    × (heard_by (in_phase open_server phase.Request) (replicate 21 (1000, after_it)) ≡ replicate 21 true)
    × (heard_by (in_phase open_server phase.TimeWait) (replicate 21 (1000, after_it)) ≡ replicate 21 true)
    × (heard_by (in_phase open_server phase.Respond) (replicate 21 (1000, after_it)) ≡ replicate 20 true ++ false ∷ [])
    × (heard_by (in_phase open_server phase.PartOpen) (replicate 21 (1000, after_it)) ≡ replicate 20 true ++ false ∷ [])
    × (heard_by (in_phase open_server phase.CloseReq) (replicate 21 (1000, after_it)) ≡ replicate 20 true ++ false ∷ [])
    × (heard_by (in_phase open_server phase.Closing) (replicate 21 (1000, after_it)) ≡ replicate 20 true ++ false ∷ [])
unfolding receives
all_are_heard = (refl, refl, refl, refl, refl, refl, refl, refl, refl)

-- A short number counts as the one that it means, if the end takes such; else its packet is dropped, and no Sync answers it.
short_numbers_count :
    (heard_by (holding ShortSeqnos There 1 open_server) (replicate 21 (1000, short_after)) ≡ replicate 20 true ++ false ∷ [])
    × (heard_by (holding ShortSeqnos There 1 open_server) (replicate 21 (1000, short_inside)) ≡ replicate 21 true)
    × (heard_by open_server (replicate 21 (1000, short_after)) ≡ replicate 21 true)
unfolding receives
short_numbers_count = (refl, refl, refl)

-- that server with its timers, and the same after this many packets of somebody who knows its ports
abbrev opened : Pace → TimedState Both
opened pace =
    record (timed_begins kinds_control (plain Server) at_first pace) { end = record (begins kinds_control (plain Server) at_first) { state = open_server } }

abbrev takes : ℕ → TimedState Both → String → TimedState Both
takes now s digits = (timed_takes kinds_control now s (bytes (codes digits))).timed

abbrev flooded : ℕ → TimedState Both → TimedState Both
flooded zero s = s
flooded (suc count) s = flooded count (takes 1000 s after_it)

-- Of 25 of them at one time 20 are answered, each under its own number; all, if that rule is not followed.
few_numbers_are_used :
    ((flooded 25 (opened usual_pace)).end.state.marks.gss ≡ 2021) × ((flooded 25 (opened classic_pace)).end.state.marks.gss ≡ 2026)
unfolding receives opens closes prefers fires sends_payload sends_early framed until_first
few_numbers_are_used = (refl, refl)

-- a client that nobody answers; the server, once it has taken an Ack at 1,000; and it again, once it was told what is due of the rules
abbrev asking : TimedState Both
asking = (timed_opens kinds_control 5000 (timed_begins kinds_control (plain Client) at_first usual_pace)).timed

abbrev heard_once : TimedState Both
heard_once = takes 1000 (opened usual_pace) proper_ack

abbrev told : ℕ → TimedState Both → TimedState Both
told now s = (rings_due kinds_control now s due.Rules).timed

abbrev asked : TimedState Both
asked = told 61000 heard_once

abbrev told_frame : ℕ → TimedState Both → Option (List ℕ)
told_frame now s = bytes_sent (rings_due kinds_control now s due.Rules).frame

-- A client asks for three minutes, and then falls silent. An open end that hears nothing for a minute asks its peer for the Ack Ratio that it
-- holds, which its peer has to confirm. The timer Negotiate repeats that question from a second later on; the rule begins its waits anew each
-- ten seconds. After three minutes the end ends the connection by a Reset with code 2.
the_silent_are_given_up :
    ((told 184999 asking).end.state.phase ≡ phase.Request) × ((told 185000 asking).end.state.phase ≡ phase.Closed)
    × (told_frame 185000 asking ≡ None)
    × (told_frame 60999 heard_once ≡ None)
    × (told_frame 61000 heard_once ≡ sent "13899c400800fa3007000000000007d200000000000003ea2005050002000000")
    × (asked.upkeep.alarms.negotiate ≡ Some (record { since = 61000; wait = 1000 }))
    × (bytes_sent (rings_due kinds_control 62000 asked (due.Timer timers.Negotiate)).frame ≡ sent "13899c400800fa2f07000000000007d300000000000003ea2005050002000000")
    × (asked.upkeep.path.silence ≡ Some (record { since = 61000; wait = 10000 }))
    × ((told 71000 asked).upkeep.path.silence ≡ Some (record { since = 71000; wait = 10000 }))
    × ((told 71000 asked).upkeep.alarms.negotiate ≡ Some (record { since = 71000; wait = 1000 }))
    × ((told 180999 heard_once).end.state.phase ≡ phase.Open)
    × ((told 181000 heard_once).end.state.phase ≡ phase.Closed)
    × (told_frame 181000 heard_once ≡ sent "13899c400700183a0f000000000007d200000000000003ea02000000")
unfolding aborts receives opens closes prefers fires sends_payload sends_early framed until_first
the_silent_are_given_up = (refl, refl, refl, refl, refl, refl, refl, refl, refl, refl, refl, refl, refl)

-- The offer that a rule makes: the Request of a client that offers nothing else asks for a Sequence Window of 10,000, in six bytes.
a_wide_window_is_offered :
    bytes_sent (timed_opens kinds_control 5000 (timed_begins kinds_control (widened (plain Client)) at_first usual_pace)).frame
    ≡ sent "9c4013890800fbaf01000000000003e80000002a200903000000002710000000"
unfolding receives opens closes prefers fires sends_payload sends_early framed until_first
a_wide_window_is_offered = refl

-- Two rules are due at one time: one goes, and the other a millisecond later.
abbrev both_due : TimedState Both
both_due = with_path heard_once (record heard_once.upkeep.path { ratio = Some (record { since = 1000; wait = 0 }); aim = 2 })

one_rule_acts_in_a_millisecond :
    ((told 61000 both_due).upkeep.path.rules ≡ Some (record { since = 61000; wait = 1 }))
    × ((told 61000 both_due).upkeep.path.silence ≡ Some (record { since = 61000; wait = 10000 }))
    × ((told 61001 (told 61000 both_due)).upkeep.path.ratio ≡ None) × ((told 61001 (told 61000 both_due)).upkeep.path.asked ≡ Some 61001)
unfolding receives opens closes prefers fires sends_payload sends_early framed until_first
one_rule_acts_in_a_millisecond = (refl, refl, refl, refl)
