-- The timers of a session, one after another.
use Rattle.std.proofs.Common.{◌≡◌, refl, ℕ, ◌≤◌, ◌-◌, ◌==◌, Bool, true, false, Option, Some, None, arith}
use Rattle.dccp_states.specs.declared.calls.Timer.{Timer}
use Rattle.dccp_states.specs.declared.calls.Timer.TheVariants as timers
use Rattle.dccp_uses.specs.Alarms.{alarm_after, alarm_of, arranged_by, has_run_out, next_wait, rung_by, runs_in, set_back, starting_wait_by}
use Rattle.dccp_uses.specs.declared.alarms.Alarm.{Alarm}
use Rattle.dccp_uses.specs.declared.alarms.Alarms.{Alarms}
use Rattle.dccp_uses.specs.declared.alarms.Condition.{Condition}
use Rattle.dccp_uses.specs.declared.waits.Waits.{Waits}
use Rattle.path_rules.specs.declared.waits.Wait.{Wait}

-- An alarm that begins now has not run out.

pub fresh_runs : (now wait : ℕ) → 1 ≤ wait → (wait - (now - now) == 0) ≡ false
fresh_runs now wait some = search (arith, some)

after-runs : (runs : Bool) (old : Option Alarm) (wait now : ℕ) → 1 ≤ wait → has_run_out old now ≡ false
    → has_run_out (alarm_after runs old wait now) now ≡ false
after-runs false old wait now some quiet = refl
after-runs true (Some alarm) wait now some quiet = quiet
after-runs true None wait now some quiet = fresh_runs now wait some

-- With any waits an alarm that has not run out stays so, and one that was told has not run out.

pub arranged_stays : (waits : Waits) (alarms : Alarms) (timer : Timer) (c : Condition) (now : ℕ) → has_run_out (alarm_of alarms timer) now ≡ false
    → has_run_out (alarm_of (arranged_by waits alarms c now) timer) now ≡ false
arranged_stays waits alarms timers.Request c now quiet =
    after-runs (runs_in timers.Request c) alarms.request (starting_wait_by waits alarms timers.Request) now (omega arith) quiet
arranged_stays waits alarms timers.Ack c now quiet =
    after-runs (runs_in timers.Ack c) alarms.ack (starting_wait_by waits alarms timers.Ack) now (omega arith) quiet
arranged_stays waits alarms timers.Negotiate c now quiet =
    after-runs (runs_in timers.Negotiate c) alarms.negotiate (starting_wait_by waits alarms timers.Negotiate) now (omega arith) quiet
arranged_stays waits alarms timers.Rto c now quiet =
    after-runs (runs_in timers.Rto c) alarms.rto (starting_wait_by waits alarms timers.Rto) now (omega arith) quiet
arranged_stays waits alarms timers.Close c now quiet =
    after-runs (runs_in timers.Close c) alarms.close (starting_wait_by waits alarms timers.Close) now (omega arith) quiet
arranged_stays waits alarms timers.TimeWait c now quiet =
    after-runs (runs_in timers.TimeWait c) alarms.time_wait (starting_wait_by waits alarms timers.TimeWait) now (omega arith) quiet

pub back_runs : (kind : Wait) (alarm : Option Alarm) (now : ℕ) → has_run_out (set_back kind alarm now) now ≡ false
back_runs kind None now = refl
back_runs kind (Some alarm) now = fresh_runs now (next_wait kind alarm.wait) (omega arith)

pub told_stays : (waits : Waits) (alarms : Alarms) (timer : Timer) (now : ℕ) → has_run_out (alarm_of (rung_by waits alarms timer now) timer) now ≡ false
told_stays waits alarms timers.Request now = back_runs waits.request alarms.request now
told_stays waits alarms timers.Ack now = back_runs waits.ack alarms.ack now
told_stays waits alarms timers.Negotiate now = back_runs waits.negotiate alarms.negotiate now
told_stays waits alarms timers.Rto now = back_runs waits.rto alarms.rto now
told_stays waits alarms timers.Close now = back_runs waits.close alarms.close now
told_stays waits alarms timers.TimeWait now = back_runs waits.time_wait alarms.time_wait now
