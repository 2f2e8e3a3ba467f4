-- Rows of what an owner keeps of a path, computed from the definitions; the values were worked out by hand.
use Rattle.std.proofs.Common.{◌≡◌, refl, ℕ, true, false, Option, Some, None}
use Rattle.dccp_states.specs.declared.phase.Phase.{Phase}
use Rattle.dccp_states.specs.declared.phase.Phase.TheVariants as phase
use Rattle.dccp_states.specs.declared.calls.Timer.TheVariants as timers
use Rattle.feature_machine.specs.declared.stands.Stand.TheVariants as stand
use Rattle.path_rules.specs.RoundTrip.{with_sample}
use Rattle.dccp_uses.specs.Alarms.{classic_waits, ack_hurried_by, no_alarms, rung_by}
use Rattle.dccp_uses.specs.Path.{aim_of, aimed, arranged_path, classic_pace, data_timed, handshake_timed, measured, path_begins, path_heard, path_waits, patience, ruled_patience, used_window, usual_pace, with_flight}
use Rattle.dccp_uses.specs.Rules.{alarms_by_rule, due_rule, path_by_rule}
use Rattle.dccp_uses.specs.Upkeeps.{acks_now, is_hole}
use Rattle.dccp_uses.specs.declared.alarms.Alarm.{Alarm}
use Rattle.dccp_uses.specs.declared.alarms.Alarms.{Alarms}
use Rattle.dccp_uses.specs.declared.path.Path.{Path}
use Rattle.dccp_uses.specs.declared.rule.Rule.TheVariants as rule
use Rattle.dccp_uses.specs.declared.sight.Sight.{Sight}

abbrev usual_path : Path
usual_path = path_begins usual_pace

-- what is seen of an end with these numbers
abbrev seen : Phase → ℕ → ℕ → ℕ → ℕ → ℕ → Sight
seen in-phase gss gar gsr in_flight window =
    record {
      phase = in-phase;
      gss = gss;
      gar = gar;
      gsr = gsr;
      in_flight = in_flight;
      window = window;
      ccid = 2;
      ratio = record { value = 2; stand = stand.Stable };
      width = 100;
    }

-- where no rule is followed the timers wait as ever
classic_is_classic : path_waits (path_begins classic_pace) ≡ classic_waits
classic_is_classic = refl

-- the first Request has the number 100, the second, a second later, 101
abbrev asked_twice : Path
asked_twice = handshake_timed (handshake_timed usual_path 100 0) 101 1000

abbrev asking : Sight
asking = seen phase.Request 101 99 0 0 1

abbrev answered : ℕ → Sight
answered gar = seen phase.PartOpen 101 gar 5 0 4

-- 1,200 milliseconds after the first, or 240 after the second; and nothing of another number
the_handshake_is_timed :
    ((measured asked_twice asking (answered 100) 1200).round_trip ≡ Some (with_sample None 1200))
    × ((measured asked_twice asking (answered 101) 1240).round_trip ≡ Some (with_sample None 240))
    × ((measured asked_twice asking (answered 98) 1240).round_trip ≡ None)
    × ((measured asked_twice asking (answered 101) 1240).timed ≡ None)
the_handshake_is_timed = (refl, refl, refl, refl)

-- one packet at a time, until it or a later one is acknowledged
abbrev sent_twice : Path
sent_twice = data_timed (data_timed usual_path 10 1000) 11 1010

abbrev open_at : ℕ → Sight
open_at gar = seen phase.Open 11 gar 5 1 4

data_are_timed :
    ((measured sent_twice (open_at 8) (open_at 9) 1040).round_trip ≡ None)
    × ((measured sent_twice (open_at 8) (open_at 10) 1040).round_trip ≡ Some (with_sample None 40))
    × ((measured sent_twice (open_at 8) (open_at 11) 1050).round_trip ≡ Some (with_sample None 50))
    × ((measured sent_twice (open_at 8) (open_at 11) 1050).timed ≡ None)
data_are_timed = (refl, refl, refl, refl)

-- twice what was in flight in this period or the last, and no more than the window; a period of 200 milliseconds
abbrev flew : Path
flew = with_flight (with_flight (with_flight usual_path 7 1000) 3 1100) 2 1200

the_used_window_is_remembered :
    (used_window flew 100 ≡ 14) × (used_window flew 10 ≡ 10) × (used_window (with_flight flew 1 1399) 100 ≡ 14)
    × (used_window (with_flight (with_flight flew 1 1399) 1 1400) 100 ≡ 4)
the_used_window_is_remembered = (refl, refl, refl, refl)

-- an open end with 3 packets in flight: with a window of 20 a question goes before the timeout of 350 milliseconds
abbrev open_with : ℕ → Sight
open_with window = seen phase.Open 11 8 5 3 window

rules_have_alarms :
    ((arranged_path usual_path 350 (open_with 20) 0 1000).probing ≡ Some (record { since = 1000; wait = 350 }))
    × ((arranged_path usual_path 350 (open_with 15) 0 1000).probing ≡ None)
    × ((arranged_path usual_path 350 (open_with 15) 0 1000).silence ≡ Some (record { since = 1000; wait = 60000 }))
    × ((arranged_path usual_path 350 (open_with 15) 0 1000).give_up ≡ Some (record { since = 1000; wait = 180000 }))
    × ((arranged_path usual_path 350 (open_with 20) 0 1000).rules ≡ Some (record { since = 1000; wait = 350 }))
    × ((arranged_path usual_path 350 (open_with 15) 0 1000).rules ≡ Some (record { since = 1000; wait = 60000 }))
    × ((arranged_path (path_begins classic_pace) 350 (open_with 20) 0 1000).rules ≡ None)
    × (patience phase.Request ≡ Some 180000) × (patience phase.Respond ≡ Some 240000) × (patience phase.Closing ≡ Some 120000)
    × (patience phase.CloseReq ≡ Some 120000) × (ruled_patience classic_pace phase.Closing ≡ None)
rules_have_alarms = (refl, refl, refl, refl, refl, refl, refl, refl, refl, refl, refl, refl)

-- the question waits a minute for its answer, which is due at once when it has come; a silent peer is asked each ten seconds
abbrev probed : Path
probed = path_by_rule usual_path rule.Probe (open_with 20) 1000

a_question_is_asked :
    (probed.probing ≡ Some (record { since = 1000; wait = 60000 })) × (probed.probe ≡ Some 11)
    × ((path_heard probed (open_with 20) (seen phase.Open 11 10 5 3 20) true 1100).probing ≡ Some (record { since = 1000; wait = 60000 }))
    × ((path_heard probed (open_with 20) (seen phase.Open 11 11 5 3 20) true 1100).probing ≡ Some (record { since = 1100; wait = 0 }))
    × ((path_by_rule usual_path rule.Ask (open_with 20) 1000).silence ≡ Some (record { since = 1000; wait = 10000 }))
a_question_is_asked = (refl, refl, refl, refl, refl)

-- 600 packets in flight of a window of 600, at a peer whose Sequence Window is 100: an Ack for 24 is wanted, at once
abbrev busy : Path
busy = with_flight usual_path 600 1000

an_aim_is_taken :
    (aim_of busy (seen phase.Open 11 8 5 600 600) ≡ 24) × ((aimed busy (seen phase.Open 11 8 5 600 600) 1000).aim ≡ 24)
    × ((aimed busy (seen phase.Open 11 8 5 600 600) 1000).ratio ≡ Some (record { since = 1000; wait = 0 }))
    × ((aimed busy (seen phase.PartOpen 11 8 5 600 600) 1000).ratio ≡ None)
    × ((aimed (path_begins classic_pace) (seen phase.Open 11 8 5 600 600) 1000).ratio ≡ None)
an_aim_is_taken = (refl, refl, refl, refl, refl)

-- data after a hole, of which nothing has gone out: an Ack at once, and then 50 milliseconds again
abbrev hurried : Option Alarm
hurried = (acks_now no_alarms true 1000).ack

a_hole_is_told :
    (is_hole usual_path (open_at 9) (record (open_at 9) { gsr = 7 }) true true ≡ true)
    × (is_hole usual_path (open_at 9) (record (open_at 9) { gsr = 6 }) true true ≡ false)
    × (is_hole usual_path (open_at 9) (record (open_at 9) { gsr = 7 }) true false ≡ false)
    × (is_hole usual_path (open_at 9) (record (open_at 9) { gsr = 7 }) false true ≡ false)
    × (hurried ≡ Some (record { since = 1000; wait = 0 }))
    × ((ack_hurried_by (path_waits usual_path) (acks_now no_alarms true 1000) true).ack ≡ hurried)
    × ((rung_by (path_waits usual_path) (acks_now no_alarms true 1000) timers.Ack 1000).ack ≡ Some (record { since = 1000; wait = 50 }))
a_hole_is_told = (refl, refl, refl, refl, refl, refl, refl)

-- under another CCID than 2 none is asked for
another_ccid_asks_for_none :
    ((aimed busy (record (seen phase.Open 11 8 5 600 600) { ccid = 248 }) 1000).ratio ≡ None)
    × ((aimed busy (record (seen phase.Open 11 8 5 600 600) { ccid = 3 }) 1000).ratio ≡ None)
another_ccid_asks_for_none = (refl, refl)

-- all four are due; and as the first of them are not. A question that was asked ends in a timeout.
abbrev ended : Option Alarm
ended = Some (record { since = 0; wait = 1000 })

abbrev due_at : Option Alarm → Option Alarm → Option ℕ → Option Alarm → Option Alarm → Path
due_at give_up probing probe silence ratio =
    record usual_path { give_up = give_up; probing = probing; probe = probe; silence = silence; ratio = ratio }

the_first_rule_goes :
    (due_rule (due_at ended ended None ended ended) 1000 ≡ rule.GiveUp)
    × (due_rule (due_at None ended None ended ended) 1000 ≡ rule.Probe)
    × (due_rule (due_at None ended (Some 11) ended ended) 1000 ≡ rule.TimeOut)
    × (due_rule (due_at None None None ended ended) 1000 ≡ rule.Ask)
    × (due_rule (due_at None None None None ended) 1000 ≡ rule.Ratio)
    × (due_rule (due_at ended ended None ended ended) 999 ≡ rule.Nothing)
the_first_rule_goes = (refl, refl, refl, refl, refl, refl)

-- a wish has the timer negotiate begin anew; a timeout has rto wait twice as long
abbrev rang : Alarms
rang = record no_alarms { negotiate = ended; rto = ended; rto_wait = 350 }

rules_move_timers :
    ((alarms_by_rule classic_waits rang rule.Probe 2000).negotiate ≡ None) × ((alarms_by_rule classic_waits rang rule.Ask 2000).negotiate ≡ None)
    × ((alarms_by_rule classic_waits rang rule.Ratio 2000).negotiate ≡ None) × (alarms_by_rule classic_waits rang rule.GiveUp 2000 ≡ rang)
    × ((alarms_by_rule (path_waits probed) rang rule.TimeOut 2000).rto ≡ Some (record { since = 2000; wait = 2000 }))
    × ((alarms_by_rule (path_waits probed) rang rule.TimeOut 2000).rto_wait ≡ 1000)
rules_move_timers = (refl, refl, refl, refl, refl, refl)
