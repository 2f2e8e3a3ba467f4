-- The timers of an end, one by one, computed from the definitions. The waits are those of RFC 4340, sections 3.4, 6.6.3, 8.1.1, 8.1.5 and 8.3, and
-- of RFC 2988, sections 2 and 5; the times were worked out by hand.
use Rattle.dccp_states.specs.Phases.{is_closed}
use Rattle.std.proofs.Common.{◌≡◌, refl, ℕ, true, false, [], ◌∷◌, map, Option, Some, None, Ok, Err}
use Rattle.ccid_two.specs.Kinds.{Both}
use Rattle.dccp_endpoint.specs.Controlled.{End}
use Rattle.dccp_states.specs.declared.calls.SendFault.TheVariants.{WindowFull}
use Rattle.dccp_states.specs.declared.calls.Timer.TheVariants as timers
use Rattle.dccp_states.specs.declared.outcome.Outcome.TheVariants.{Dropped, SentReset, Synced, Took, WasReset}
use Rattle.dccp_states.specs.declared.outcome.Why.{Why}
use Rattle.dccp_states.specs.declared.phase.Phase.TheVariants as phases
use Rattle.path_rules.specs.declared.waits.Wait.{Wait}
use Rattle.data_dropped.specs.declared.answers.Arrival.TheVariants.{Kept}
use Rattle.data_dropped.specs.declared.answers.Arrival.TheVariants as arrival
use Rattle.dccp_uses.specs.Alarms.{ack_hurried_by, alarm_after, alarm_of, arranged_by, classic_waits, first_again, has_run_out, is_idle, next_wait, no_alarms, progressed_by, rung_by, runs_in, set_back, sooner, starting_wait_by, time_left, timer_wait, until_first, with_alarm}
use Rattle.dccp_uses.specs.Path.{path_begins, usual_pace}
use Rattle.dccp_uses.specs.Session.{has_closed, is_delivery, is_listening, news_of}
use Rattle.dccp_uses.specs.Sessions.{news_if, news_kept}
use Rattle.dccp_uses.specs.Timed.{TimedState, first_wait_left, refusal_named}
use Rattle.dccp_uses.specs.Upkeeps.{acks_now, every_due, first_due, is_taken}
use Rattle.dccp_uses.specs.declared.alarms.Alarm.{Alarm}
use Rattle.dccp_uses.specs.declared.alarms.Alarms.{Alarms}
use Rattle.dccp_uses.specs.declared.upkeep.Upkeep.{Upkeep}
use Rattle.dccp_uses.specs.declared.news.News.TheVariants as news
use Rattle.dccp_uses.specs.declared.reader.SendRefusal.TheVariants as refusals
use Rattle.dccp_uses.specs.declared.timed_end.Due.TheVariants as due

abbrev alarm : ℕ → ℕ → Option Alarm
alarm since wait = Some (record { since = since; wait = wait })

-- all timers run, each since another time
abbrev running : Alarms
running =
    record {
      request = alarm 1 10;
      ack = alarm 2 20;
      negotiate = alarm 3 30;
      rto = alarm 4 40;
      close = alarm 5 50;
      time_wait = alarm 6 60;
      rto_wait = 70;
    }

each_timer_has_its_alarm :
    (alarm_of running timers.Request ≡ alarm 1 10) × (alarm_of running timers.Ack ≡ alarm 2 20) × (alarm_of running timers.Negotiate ≡ alarm 3 30)
    × (alarm_of running timers.Rto ≡ alarm 4 40) × (alarm_of running timers.Close ≡ alarm 5 50) × (alarm_of running timers.TimeWait ≡ alarm 6 60)
    × (with_alarm running timers.Request None ≡ record running { request = None }) × (with_alarm running timers.Ack None ≡ record running { ack = None })
    × (with_alarm running timers.Negotiate None ≡ record running { negotiate = None })
    × (with_alarm running timers.Rto None ≡ record running { rto = None }) × (with_alarm running timers.Close None ≡ record running { close = None })
    × (with_alarm running timers.TimeWait None ≡ record running { time_wait = None })
each_timer_has_its_alarm = (refl, refl, refl, refl, refl, refl, refl, refl, refl, refl, refl, refl)

-- an alarm since 100 that waits 50 milliseconds
when_a_timer_runs_out :
    (time_left (record { since = 100; wait = 50 }) 120 ≡ 30) × (time_left (record { since = 100; wait = 50 }) 150 ≡ 0)
    × (time_left (record { since = 100; wait = 50 }) 400 ≡ 0) × (has_run_out (alarm 100 50) 149 ≡ false) × (has_run_out (alarm 100 50) 150 ≡ true)
    × (has_run_out None 150 ≡ false)
when_a_timer_runs_out = (refl, refl, refl, refl, refl, refl)

waits_of_an_end_that_knows_no_path :
    (timer_wait classic_waits timers.Request ≡ record { first = 1000; most = 64000 })
    × (timer_wait classic_waits timers.Ack ≡ record { first = 200; most = 64000 })
    × (timer_wait classic_waits timers.Negotiate ≡ record { first = 1000; most = 64000 })
    × (timer_wait classic_waits timers.Rto ≡ record { first = 1000; most = 64000 })
    × (timer_wait classic_waits timers.Close ≡ record { first = 400; most = 64000 })
    × (timer_wait classic_waits timers.TimeWait ≡ record { first = 240000; most = 64000 })
    × (no_alarms.rto_wait ≡ 1000)
waits_of_an_end_that_knows_no_path = (refl, refl, refl, refl, refl, refl, refl)

-- each timer has a wait of its own, whatever the others wait
abbrev waiting : ℕ → Wait
waiting first = record { first = first; most = 64000 }

each_timer_has_its_wait :
    map
    (timer_wait
    (record { request = waiting 1; ack = waiting 2; negotiate = waiting 3; rto = waiting 4; close = waiting 5; time_wait = waiting 6 }))
    (timers.Request ∷ timers.Ack ∷ timers.Negotiate ∷ timers.Rto ∷ timers.Close ∷ timers.TimeWait ∷ [])
    ≡ map waiting (1 ∷ 2 ∷ 3 ∷ 4 ∷ 5 ∷ 6 ∷ [])
each_timer_has_its_wait = refl

-- A wait doubles, up to 64 seconds; TIMEWAIT lasts four minutes each time. No wait is shorter than a millisecond.
abbrev no_wait : Wait
no_wait = record { first = 0; most = 0 }

waits_double :
    (next_wait classic_waits.request 1000 ≡ 2000) × (next_wait classic_waits.request 32000 ≡ 64000) × (next_wait classic_waits.request 64000 ≡ 64000)
    × (next_wait classic_waits.close 400 ≡ 800) × (next_wait classic_waits.time_wait 240000 ≡ 240000) × (next_wait no_wait 0 ≡ 1)
    × (starting_wait_by classic_waits no_alarms timers.Ack ≡ 200) × (starting_wait_by classic_waits no_alarms timers.Rto ≡ 1000)
    × (starting_wait_by classic_waits (record no_alarms { rto_wait = 4000 }) timers.Rto ≡ 4000)
    × (starting_wait_by classic_waits (record no_alarms { rto_wait = 500 }) timers.Rto ≡ 1000)
    × (starting_wait_by (record classic_waits { ack = no_wait }) no_alarms timers.Ack ≡ 1)
    × (starting_wait_by (record classic_waits { rto = no_wait }) (record no_alarms { rto_wait = 0 }) timers.Rto ≡ 1)
waits_double = (refl, refl, refl, refl, refl, refl, refl, refl, refl, refl, refl, refl)

-- The timer rto runs in OPEN with packets in flight, and each other one in its phases, whatever is in flight.
when_a_timer_runs :
    (runs_in timers.Rto (record { phase = phases.Open; in_flight = true }) ≡ true)
    × (runs_in timers.Rto (record { phase = phases.Open; in_flight = false }) ≡ false)
    × (runs_in timers.Rto (record { phase = phases.Closing; in_flight = true }) ≡ false)
    × (runs_in timers.Request (record { phase = phases.Request; in_flight = false }) ≡ true)
    × (runs_in timers.Request (record { phase = phases.Open; in_flight = true }) ≡ false)
    × (runs_in timers.Ack (record { phase = phases.PartOpen; in_flight = false }) ≡ true)
    × (runs_in timers.Negotiate (record { phase = phases.Open; in_flight = false }) ≡ true)
    × (runs_in timers.Close (record { phase = phases.CloseReq; in_flight = false }) ≡ true)
    × (runs_in timers.TimeWait (record { phase = phases.TimeWait; in_flight = false }) ≡ true)
when_a_timer_runs = (refl, refl, refl, refl, refl, refl, refl, refl, refl)

-- A timer is idle if it does not run, and its phase does not have it.
which_timers_are_idle :
    (is_idle no_alarms timers.Close phases.Open ≡ true) × (is_idle no_alarms timers.Close phases.Closing ≡ false)
    × (is_idle running timers.Close phases.Open ≡ false) × (is_idle no_alarms timers.Rto phases.Open ≡ false)
which_timers_are_idle = (refl, refl, refl, refl)

-- What runs and is needed goes on, what is not needed stops, and what is needed and does not run begins with its first wait.
timers_as_an_end_needs_them :
    (arranged_by classic_waits running (record { phase = phases.Open; in_flight = true }) 500
    ≡ record running { request = None; close = None; time_wait = None })
    × (arranged_by classic_waits no_alarms (record { phase = phases.Open; in_flight = true }) 500
    ≡ record no_alarms { ack = alarm 500 200; negotiate = alarm 500 1000; rto = alarm 500 1000 })
    × (arranged_by classic_waits no_alarms (record { phase = phases.Request; in_flight = false }) 500 ≡ record no_alarms { request = alarm 500 1000 })
    × (arranged_by classic_waits no_alarms (record { phase = phases.Closing; in_flight = false }) 500 ≡ record no_alarms { close = alarm 500 400 })
    × (arranged_by classic_waits no_alarms (record { phase = phases.TimeWait; in_flight = false }) 500
    ≡ record no_alarms { time_wait = alarm 500 240000 })
    × (alarm_after false (alarm 1 10) 30 500 ≡ None)
timers_as_an_end_needs_them = (refl, refl, refl, refl, refl, refl)

-- A timer that has run out begins anew with twice its wait. So does what rto begins with later.
a_timer_that_rang :
    (rung_by classic_waits (record running { rto_wait = 2000 }) timers.Rto 500 ≡ record running { rto = alarm 500 1000; rto_wait = 4000 })
    × (rung_by classic_waits (record running { rto = None; rto_wait = 32000 }) timers.Rto 500 ≡ record running { rto = None; rto_wait = 64000 })
    × (rung_by classic_waits running timers.Request 500 ≡ record running { request = alarm 500 1000 })
    × (rung_by classic_waits (record running { ack = alarm 2 200 }) timers.Ack 500 ≡ record running { ack = alarm 500 400 })
    × (rung_by classic_waits (record running { negotiate = alarm 2 4000 }) timers.Negotiate 500 ≡ record running { negotiate = alarm 500 8000 })
    × (rung_by classic_waits (record running { close = None }) timers.Close 500 ≡ record running { close = None })
    × (rung_by classic_waits running timers.TimeWait 500 ≡ record running { time_wait = alarm 500 240000 })
    × (set_back classic_waits.ack (alarm 2 40000) 500 ≡ alarm 500 64000)
a_timer_that_rang = (refl, refl, refl, refl, refl, refl, refl, refl)

-- What came out of flight has rto begin anew, and data have the Ack go out after the timer's first wait at the latest.
what_a_packet_does_to_timers :
    (progressed_by classic_waits running true ≡ record running { rto = None; rto_wait = 1000 }) × (progressed_by classic_waits running false ≡ running)
    × (first_again (alarm 2 200) 200 ≡ alarm 2 200) × (first_again (alarm 2 201) 200 ≡ None) × (first_again None 200 ≡ None)
    × (ack_hurried_by classic_waits (record running { ack = alarm 2 400 }) true ≡ record running { ack = None })
    × (ack_hurried_by classic_waits (record running { ack = alarm 2 400 }) false ≡ record running { ack = alarm 2 400 })
    × (acks_now running true 500 ≡ record running { ack = alarm 500 0 }) × (acks_now running false 500 ≡ running)
what_a_packet_does_to_timers = (refl, refl, refl, refl, refl, refl, refl, refl, refl)

-- Of these timers request runs out first, at 11, and time_wait last, at 66.
which_timer_is_first :
    (until_first running 1 ≡ Some 10) × (until_first running 8 ≡ Some 3) × (until_first (record running { request = None }) 8 ≡ Some 14)
    × (until_first (record no_alarms { time_wait = alarm 6 60 }) 8 ≡ Some 58) × (until_first no_alarms 8 ≡ None)
    × (until_first (record no_alarms { negotiate = alarm 6 60; rto = alarm 6 50 }) 8 ≡ Some 48)
    × (until_first (record no_alarms { close = alarm 6 40; rto = alarm 6 50 }) 8 ≡ Some 38)
    × (until_first (record no_alarms { ack = alarm 6 30; close = alarm 6 40 }) 8 ≡ Some 28)
    × (sooner (Some 5) (alarm 6 60) 8 ≡ Some 5) × (sooner (Some 90) (alarm 6 60) 8 ≡ Some 58) × (sooner (Some 5) None 8 ≡ Some 5)
unfolding until_first
which_timer_is_first = (refl, refl, refl, refl, refl, refl, refl, refl, refl, refl, refl)

-- an end whose timers all run, and whose rules wait until 300
abbrev kept : Upkeep
kept = record { alarms = running; path = record (path_begins usual_pace) { rules = alarm 0 300 } }

abbrev timed : End Both → Upkeep → TimedState Both
timed end u = record { end = end; upkeep = u }

-- The timers come before the rules, and request before all others.
what_is_due_first : (end : End Both) →
    (first_due kept 10 every_due ≡ None) × (first_due kept 300 every_due ≡ Some (due.Timer timers.Request))
    × (first_due (record kept { alarms = record running { request = None } }) 300 every_due ≡ Some (due.Timer timers.Ack))
    × (first_due (record kept { alarms = record no_alarms { negotiate = alarm 3 30; rto = alarm 4 40 } }) 300 every_due ≡ Some (due.Timer timers.Negotiate))
    × (first_due (record kept { alarms = record no_alarms { rto = alarm 4 40; close = alarm 5 50 } }) 300 every_due ≡ Some (due.Timer timers.Rto))
    × (first_due (record kept { alarms = record no_alarms { close = alarm 5 50; time_wait = alarm 6 60 } }) 300 every_due ≡ Some (due.Timer timers.Close))
    × (first_due (record kept { alarms = record no_alarms { time_wait = alarm 6 60 } }) 300 every_due ≡ Some (due.Timer timers.TimeWait))
    × (first_due (record kept { alarms = no_alarms }) 300 every_due ≡ Some due.Rules)
    × (first_due (record kept { alarms = no_alarms }) 299 every_due ≡ None)
    × (first_wait_left (timed end kept) 8 ≡ Some 3) × (first_wait_left (timed end (record kept { alarms = no_alarms })) 8 ≡ Some 292)
unfolding until_first
what_is_due_first end = (refl, refl, refl, refl, refl, refl, refl, refl, refl, refl, refl)

-- Where a connection is over, and where an end waits for its first packet.
phases_at_both_ends :
    (is_closed phases.Closed ≡ true) × (is_closed phases.Listen ≡ false) × (is_closed phases.Request ≡ false) × (is_closed phases.Respond ≡ false)
    × (is_closed phases.PartOpen ≡ false) × (is_closed phases.Open ≡ false) × (is_closed phases.CloseReq ≡ false) × (is_closed phases.Closing ≡ false)
    × (is_closed phases.TimeWait ≡ false)
    × (is_listening phases.Closed ≡ false) × (is_listening phases.Listen ≡ true) × (is_listening phases.Request ≡ false)
    × (is_listening phases.Respond ≡ false) × (is_listening phases.PartOpen ≡ false) × (is_listening phases.Open ≡ false)
    × (is_listening phases.CloseReq ≡ false) × (is_listening phases.Closing ≡ false) × (is_listening phases.TimeWait ≡ false)
    × (has_closed phases.Open phases.Closed ≡ true) × (has_closed phases.Closed phases.Closed ≡ false) × (has_closed phases.Open phases.TimeWait ≡ false)
phases_at_both_ends =
    (refl, refl, refl, refl, refl, refl, refl, refl, refl, refl, refl, refl, refl, refl, refl, refl, refl, refl, refl, refl, refl)

-- What an owner is told: data, the end of a connection by a Reset that came or went out, and nothing else.
what_an_owner_is_told : (why : Why) →
    (news_of (Took (Some (16, 20))) phases.Open phases.Open ≡ news.Data 16 20) × (news_of (Took None) phases.Open phases.Closed ≡ news.Quiet)
    × (news_of (Dropped why) phases.Open phases.Closed ≡ news.Quiet) × (news_of (Synced 7) phases.Open phases.Closed ≡ news.Quiet)
    × (news_of (WasReset 2) phases.Open phases.TimeWait ≡ news.Ended 2) × (news_of (SentReset 5 []) phases.Open phases.Closed ≡ news.Ended 5)
    × (news_of (SentReset 5 []) phases.Closed phases.Closed ≡ news.Quiet) × (news_if None phases.Open phases.Closed ≡ news.Quiet)
    × (news_if (Some (WasReset 2)) phases.Open phases.TimeWait ≡ news.Ended 2)
    × (news_kept (Some Kept) (news.Data 16 20) ≡ news.Waits) × (news_kept (Some (arrival.Dropped 2)) (news.Data 16 20) ≡ news.Dropped 2)
    × (news_kept None (news.Data 16 20) ≡ news.Data 16 20)
what_an_owner_is_told why = (refl, refl, refl, refl, refl, refl, refl, refl, refl, refl, refl, refl)

-- Which packets were taken, and which brought data; and how a refusal is named.
what_was_taken : (why : Why) →
    (is_delivery (Took (Some (16, 20))) ≡ true) × (is_delivery (Took None) ≡ false) × (is_delivery (Dropped why) ≡ false)
    × (is_delivery (Synced 7) ≡ false) × (is_delivery (WasReset 2) ≡ false) × (is_delivery (SentReset 5 []) ≡ false)
    × (is_taken (Took (Some (16, 20))) ≡ true) × (is_taken (Took None) ≡ true) × (is_taken (Dropped why) ≡ false) × (is_taken (Synced 7) ≡ false)
    × (is_taken (WasReset 2) ≡ false) × (is_taken (SentReset 5 []) ≡ false)
    × (refusal_named (Ok tt) ≡ Ok tt) × (refusal_named (Err WindowFull) ≡ Err (refusals.Refused WindowFull))
what_was_taken why = (refl, refl, refl, refl, refl, refl, refl, refl, refl, refl, refl, refl, refl, refl)
