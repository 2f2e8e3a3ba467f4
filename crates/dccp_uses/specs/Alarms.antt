-- When the timers of an end run out (RFC 4340, sections 3.4, 6.6.3, 8.1.1, 8.1.5 and 8.3; RFC 4341, section 5, which
-- leads to RFC 2988). Times are in milliseconds. Where the standard leaves a wait open it is own.
use Rattle.std.specs.Prelude.{ℕ, ◌≤◌, ◌-◌, ◌==◌, ◌&&◌, if◌then◌else◌, max, min, nat_le, Bool, true, false, not, Option, Some, None, is_some}
use Rattle.dccp_endpoint.specs.Calling.{applies_in}
use Rattle.dccp_states.specs.declared.calls.Timer.{Timer}
use Rattle.dccp_states.specs.declared.calls.Timer.TheVariants as timers
use Rattle.dccp_states.specs.declared.phase.Phase.{Phase}
use Rattle.dccp_uses.specs.declared.alarms.Alarm.{Alarm}
use Rattle.dccp_uses.specs.declared.alarms.Alarms.{Alarms}
use Rattle.dccp_uses.specs.declared.alarms.Condition.{Condition}
use Rattle.dccp_uses.specs.declared.waits.Waits.{Waits}
use Rattle.path_rules.specs.Waits.{wait_after}
use Rattle.path_rules.specs.declared.waits.Wait.{Wait}

-- how long an alarm has still to wait; at 0 it has run out
abbrev pub time_left : Alarm → ℕ → ℕ
time_left alarm now = alarm.wait - (now - alarm.since)

-- a timer that runs has no time left; one that does not run never runs out
abbrev pub has_run_out : Option Alarm → ℕ → Bool
has_run_out None now = false
has_run_out (Some alarm) now = time_left alarm now == 0

-- the alarm of a timer, if it runs
abbrev pub alarm_of : Alarms → Timer → Option Alarm
alarm_of alarms timers.Request = alarms.request
alarm_of alarms timers.Ack = alarms.ack
alarm_of alarms timers.Negotiate = alarms.negotiate
alarm_of alarms timers.Rto = alarms.rto
alarm_of alarms timers.Close = alarms.close
alarm_of alarms timers.TimeWait = alarms.time_wait

-- the same alarms with this one for a timer
abbrev pub with_alarm : Alarms → Timer → Option Alarm → Alarms
with_alarm alarms timers.Request alarm = record alarms { request = alarm }
with_alarm alarms timers.Ack alarm = record alarms { ack = alarm }
with_alarm alarms timers.Negotiate alarm = record alarms { negotiate = alarm }
with_alarm alarms timers.Rto alarm = record alarms { rto = alarm }
with_alarm alarms timers.Close alarm = record alarms { close = alarm }
with_alarm alarms timers.TimeWait alarm = record alarms { time_wait = alarm }

-- The waits of an end that knows nothing of its path. At first: a second for an answer to the Request (section 8.1.1), for a Confirm (own) and
-- for a report (RFC 4341, section 5); 200 for an Ack (section 8.1.5); two round trips of 200 for the answer to a Close (sections 3.4 and 8.3);
-- two maximum segment lifetimes, of two minutes each, in TIMEWAIT (sections 3.4 and 8.3). At most 64 seconds (sections 6.6.3, 8.1.1 and 8.3; RFC
-- 2988, sections 2.5 and 5.5).
abbrev pub classic_waits : Waits
classic_waits =
    record {
      request = record { first = 1000; most = 64000 };
      ack = record { first = 200; most = 64000 };
      negotiate = record { first = 1000; most = 64000 };
      rto = record { first = 1000; most = 64000 };
      close = record { first = 400; most = 64000 };
      time_wait = record { first = 240000; most = 64000 };
    }

-- the wait of a timer
abbrev pub timer_wait : Waits → Timer → Wait
timer_wait waits timers.Request = waits.request
timer_wait waits timers.Ack = waits.ack
timer_wait waits timers.Negotiate = waits.negotiate
timer_wait waits timers.Rto = waits.rto
timer_wait waits timers.Close = waits.close
timer_wait waits timers.TimeWait = waits.time_wait

-- no timer runs, and rto begins with its first wait
abbrev pub no_alarms : Alarms
no_alarms =
    record { request = None; ack = None; negotiate = None; rto = None; close = None; time_wait = None; rto_wait = classic_waits.rto.first }

-- each wait is twice the one before, within the waits of its timer, and at least a millisecond
abbrev pub next_wait : Wait → ℕ → ℕ
next_wait kind wait = max 1 (wait_after kind wait)

-- The wait with which a timer begins: its first, but that of the timer rto stays as long as its timeouts have made it,
-- and is never below its first (RFC 2988, sections 2.4 and 5.5).
abbrev pub starting_wait_by : Waits → Alarms → Timer → ℕ
starting_wait_by waits alarms timers.Rto = max (max 1 waits.rto.first) alarms.rto_wait
starting_wait_by waits alarms timer = max 1 (timer_wait waits timer).first

-- A timer runs in the phases in which the end would do something when it runs out; the timer negotiate runs even if no row asks.
abbrev pub runs_in : Timer → Condition → Bool
runs_in timers.Rto c = applies_in timers.Rto c.phase && c.in_flight
runs_in timer c = applies_in timer c.phase

-- a timer that does not run, and that this phase does not have
abbrev pub is_idle : Alarms → Timer → Phase → Bool
is_idle alarms timer phase = not (is_some (alarm_of alarms timer)) && not (applies_in timer phase)

-- the alarm of a timer: it goes on or begins if the timer runs
abbrev pub alarm_after : Bool → Option Alarm → ℕ → ℕ → Option Alarm
alarm_after false old wait now = None
alarm_after true (Some alarm) wait now = Some alarm
alarm_after true None wait now = Some (record { since = now; wait = wait })

-- the alarm of a timer as this condition needs it: it goes on, begins, or is none
abbrev pub arranged_alarm_by : Waits → Alarms → Timer → Condition → ℕ → Option Alarm
arranged_alarm_by waits alarms timer c now = alarm_after (runs_in timer c) (alarm_of alarms timer) (starting_wait_by waits alarms timer) now

-- the alarms of an end in this condition
abbrev pub arranged_by : Waits → Alarms → Condition → ℕ → Alarms
arranged_by waits alarms c now =
    record {
      request = arranged_alarm_by waits alarms timers.Request c now;
      ack = arranged_alarm_by waits alarms timers.Ack c now;
      negotiate = arranged_alarm_by waits alarms timers.Negotiate c now;
      rto = arranged_alarm_by waits alarms timers.Rto c now;
      close = arranged_alarm_by waits alarms timers.Close c now;
      time_wait = arranged_alarm_by waits alarms timers.TimeWait c now;
      rto_wait = alarms.rto_wait;
    }

-- a timer that has run out waits longer the next time
abbrev pub set_back : Wait → Option Alarm → ℕ → Option Alarm
set_back kind None now = None
set_back kind (Some alarm) now = Some (record { since = now; wait = next_wait kind alarm.wait })

-- The alarms once a timer has run out: it is set back, and the timer rto then also begins with twice its wait, even if nothing is in flight any
-- more (RFC 4341, section 5; RFC 2988, section 5.5).
abbrev pub rung_by : Waits → Alarms → Timer → ℕ → Alarms
rung_by waits alarms timers.Rto now =
    record alarms { rto = set_back waits.rto alarms.rto now; rto_wait = next_wait waits.rto alarms.rto_wait }
rung_by waits alarms timer now = with_alarm alarms timer (set_back (timer_wait waits timer) (alarm_of alarms timer) now)

-- an alarm with a longer wait than its first is none, so that it begins again, and any other goes on
abbrev pub first_again : Option Alarm → ℕ → Option Alarm
first_again None wait = None
first_again (Some alarm) wait = if nat_le alarm.wait wait then Some alarm else None

-- If a packet that arrived took something out of flight, the timer rto starts again, with its first wait (RFC 4341, section 5; RFC 2988, section
-- 5.3).
abbrev pub progressed_by : Waits → Alarms → Bool → Alarms
progressed_by waits alarms true = record alarms { rto = None; rto_wait = waits.rto.first }
progressed_by waits alarms false = alarms

-- If data were delivered, an Ack goes out no later than after the first wait of its timer.
abbrev pub ack_hurried_by : Waits → Alarms → Bool → Alarms
ack_hurried_by waits alarms true = record alarms { ack = first_again alarms.ack waits.ack.first }
ack_hurried_by waits alarms false = alarms

-- all alarms, with the classic waits
abbrev pub arranged : Alarms → Condition → ℕ → Alarms
arranged alarms c now = arranged_by classic_waits alarms c now

-- the alarms once a timer has run out, with the classic waits
abbrev pub rung : Alarms → Timer → ℕ → Alarms
rung alarms timer now = rung_by classic_waits alarms timer now

-- the alarms if something came out of flight, with the classic waits
abbrev pub with_progress : Alarms → Bool → Alarms
with_progress alarms progress = progressed_by classic_waits alarms progress

-- the alarms if data were delivered, with the classic waits
abbrev pub with_delivery : Alarms → Bool → Alarms
with_delivery alarms delivered = ack_hurried_by classic_waits alarms delivered

-- the shorter of a wait and of what is left of an alarm
abbrev pub sooner : Option ℕ → Option Alarm → ℕ → Option ℕ
sooner left None now = left
sooner None (Some alarm) now = Some (time_left alarm now)
sooner (Some left) (Some alarm) now = Some (min left (time_left alarm now))

-- in how many milliseconds the first timer runs out
unfoldable pub until_first : Alarms → ℕ → Option ℕ
until_first alarms now =
    sooner (sooner (sooner (sooner (sooner (sooner None alarms.request now) alarms.ack now) alarms.negotiate now) alarms.rto now) alarms.close now) alarms.time_wait now

-- a timer that runs does not run out before that
abbrev pub IsNoSooner : Option Alarm → ℕ → Option ℕ → Type 0
IsNoSooner None now first = Unit {0}
IsNoSooner (Some alarm) now None = ⊥
IsNoSooner (Some alarm) now (Some first) = first ≤ time_left alarm now
