-- Of the timers that run none runs out before the first.
use Rattle.std.proofs.Common.{ℕ, Option, Some, None, arith}
use Rattle.dccp_states.specs.declared.calls.Timer.{Timer}
use Rattle.dccp_states.specs.declared.calls.Timer.TheVariants as timers
use Rattle.dccp_uses.specs.Alarms.{IsNoSooner, alarm_of, sooner, until_first}
use Rattle.dccp_uses.specs.declared.alarms.Alarm.{Alarm}
use Rattle.dccp_uses.specs.declared.alarms.Alarms.{Alarms}

-- one alarm more makes the wait no longer
still : (left : Option ℕ) (alarm other : Option Alarm) (now : ℕ) → IsNoSooner other now left → IsNoSooner other now (sooner left alarm now)
still left None other now kept = kept
still left (Some alarm) None now kept = tt
still None (Some alarm) (Some other) now kept = absurd kept
still (Some left) (Some alarm) (Some other) now kept = omega (arith, kept)

-- and it waits no longer than that alarm
own : (left : Option ℕ) (alarm : Option Alarm) (now : ℕ) → IsNoSooner alarm now (sooner left alarm now)
own left None now = tt
own None (Some alarm) now = omega arith
own (Some left) (Some alarm) now = omega arith

pub no_sooner : (alarms : Alarms) (now : ℕ) (timer : Timer) → IsNoSooner (alarm_of alarms timer) now (until_first alarms now)
unfolding until_first
no_sooner alarms now timer =
    let a = sooner None alarms.request now in
    let b = sooner a alarms.ack now in
    let c = sooner b alarms.negotiate now in
    let d = sooner c alarms.rto now in
    let e = sooner d alarms.close now in
    elim timer as (λ (t : Timer). IsNoSooner (alarm_of alarms t) now (sooner e alarms.time_wait now)) [
      | timers.Request ↦ still e alarms.time_wait alarms.request now (still d alarms.close alarms.request now (still c alarms.rto alarms.request now
          (still b alarms.negotiate alarms.request now (still a alarms.ack alarms.request now (own None alarms.request now)))))
      | timers.Ack ↦ still e alarms.time_wait alarms.ack now (still d alarms.close alarms.ack now (still c alarms.rto alarms.ack now
          (still b alarms.negotiate alarms.ack now (own a alarms.ack now))))
      | timers.Negotiate ↦ still e alarms.time_wait alarms.negotiate now (still d alarms.close alarms.negotiate now (still c alarms.rto alarms.negotiate now
          (own b alarms.negotiate now)))
      | timers.Rto ↦ still e alarms.time_wait alarms.rto now (still d alarms.close alarms.rto now (own c alarms.rto now))
      | timers.Close ↦ still e alarms.time_wait alarms.close now (own d alarms.close now)
      | timers.TimeWait ↦ own e alarms.time_wait now
    ]
