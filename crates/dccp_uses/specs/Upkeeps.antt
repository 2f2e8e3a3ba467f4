-- What the owner of an end keeps for it: its timers, and what is known of its path (own; the end is that of RFC 4340).
use Rattle.std.specs.Prelude.{◌^◌, ◌+◌, ◌==◌, ◌&&◌, nat_lt, min, ℕ, Bool, true, false, not, List, [], ◌∷◌, Option, Some, None, if◌then◌else◌}
use Rattle.std.specs.Option.{option_map}
use Rattle.congestion_trait.specs.Control.{Control}
use Rattle.dccp_endpoint.specs.Controlled.{End, in_flight_of}
use Rattle.dccp_states.specs.declared.calls.Timer.{Timer}
use Rattle.dccp_states.specs.declared.calls.Timer.TheVariants as timers
use Rattle.dccp_states.specs.declared.outcome.Outcome.{Outcome}
use Rattle.dccp_states.specs.declared.outcome.Outcome.TheVariants.{Took, Dropped, Synced, WasReset, SentReset}
use Rattle.seq_circle.specs.Circle.{distance}
use Rattle.dccp_uses.specs.Alarms.{ack_hurried_by, alarm_of, arranged_by, has_run_out, is_idle, no_alarms, progressed_by, rung_by, starting_wait_by}
use Rattle.dccp_uses.specs.Path.{arranged_path, data_timed, handshake_timed, is_probing, path_begins, path_heard, path_waits, sight_of, told_timer, with_flight}
use Rattle.dccp_uses.specs.Rules.{alarms_by_rule, path_by_rule}
use Rattle.dccp_uses.specs.Session.{is_delivery}
use Rattle.dccp_uses.specs.declared.alarms.Alarm.{Alarm}
use Rattle.dccp_uses.specs.declared.alarms.Alarms.{Alarms}
use Rattle.dccp_uses.specs.declared.alarms.Condition.{Condition}
use Rattle.dccp_uses.specs.declared.pace.Pace.{Pace}
use Rattle.dccp_uses.specs.declared.path.Path.{Path}
use Rattle.dccp_uses.specs.declared.rule.Rule.{Rule}
use Rattle.dccp_uses.specs.declared.sight.Sight.{Sight}
use Rattle.dccp_uses.specs.declared.timed_end.Due.{Due}
use Rattle.dccp_uses.specs.declared.timed_end.Due.TheVariants as due
use Rattle.dccp_uses.specs.declared.upkeep.HeardDatagram.{HeardDatagram}
use Rattle.dccp_uses.specs.declared.upkeep.Upkeep.{Upkeep}
use Rattle.dccp_uses.specs.declared.waits.Waits.{Waits}

-- no timer runs, and nothing is known of the path
abbrev pub upkeep_begins : Pace → Upkeep
upkeep_begins pace = record { alarms = no_alarms; path = path_begins pace }

-- the condition by which the timers run: rto does not run while a question comes first
abbrev pub ruled_condition : Path → Sight → Condition
ruled_condition path sight = record { phase = sight.phase; in_flight = nat_lt 0 sight.in_flight && not (is_probing path sight) }

-- The timers and the rules go on for an end of which the rules see this, from these alarms and this path on; no rule is due before `least`
-- milliseconds have gone by.
abbrev pub kept_seen : ℕ → ℕ → Alarms → Path → Sight → Upkeep
kept_seen now least alarms path sight =
    record {
      alarms = arranged_by (path_waits path) alarms (ruled_condition path sight) now;
      path = arranged_path path (starting_wait_by (path_waits path) alarms timers.Rto) sight least now;
    }

-- the same by what the rules see of this end
abbrev pub kept_on : {C : Type 0} → Control C → ℕ → ℕ → Alarms → Path → End C → Upkeep
kept_on control now least alarms path e = kept_seen now least alarms path (sight_of control e)

-- the end took a call that changes only its phase
abbrev pub kept_called : {C : Type 0} → Control C → ℕ → Upkeep → End C → Upkeep
kept_called control now u e = kept_on control now 0 u.alarms u.path e

-- it has sent the first packet of its handshake, which is timed
abbrev pub kept_opened : {C : Type 0} → Control C → ℕ → Upkeep → End C → Upkeep
kept_opened control now u e = kept_on control now 0 u.alarms (handshake_timed u.path e.state.marks.gss now) e

-- what is kept of the path after data went out
abbrev pub path_sent : {C : Type 0} → Control C → Path → End C → ℕ → Path
path_sent control path e now = with_flight (data_timed path e.state.marks.gss now) (in_flight_of control e.congestion) now

-- data went out: one packet at a time is timed
abbrev pub kept_sent : {C : Type 0} → Control C → ℕ → Upkeep → End C → Upkeep
kept_sent control now u e = kept_on control now 0 u.alarms (path_sent control u.path e now) e

-- it began to close: the wait for its peer's answer starts
abbrev pub kept_closed : {C : Type 0} → Control C → ℕ → Upkeep → End C → Upkeep
kept_closed control now u e = kept_on control now 0 u.alarms (record u.path { give_up = None }) e

-- it took a wish: the timer negotiate starts again
abbrev pub kept_preferred : {C : Type 0} → Control C → ℕ → Upkeep → End C → Upkeep
kept_preferred control now u e = kept_on control now 0 (record u.alarms { negotiate = None }) u.path e

-- the packet was taken
abbrev pub is_taken : Outcome → Bool
is_taken (Took delivered) = true
is_taken (Dropped why) = false
is_taken (Synced number) = false
is_taken (WasReset code) = false
is_taken (SentReset code detail) = false

-- a datagram that an end heard, of which the rules saw this before
abbrev pub heard_so : Sight → Outcome → Bool → HeardDatagram
heard_so was outcome silent = record { was = was; taken = is_taken outcome; delivered = is_delivery outcome; silent = silent }

-- data came with a hole before them, and nothing went out that reports the hole
abbrev pub is_hole : Path → Sight → Sight → Bool → Bool → Bool
is_hole path old new delivered silent = path.pace.acks_soon && (delivered && (silent && nat_lt 1 (distance old.gsr new.gsr)))

-- then an Ack goes out at once
abbrev pub acks_now : Alarms → Bool → ℕ → Alarms
acks_now alarms true now = record alarms { ack = Some (record { since = now; wait = 0 }) }
acks_now alarms false now = alarms

-- the timers after a datagram, with these waits, by what the rules then see
abbrev pub alarms_heard : Waits → Upkeep → HeardDatagram → Sight → ℕ → Alarms
alarms_heard waits u it is now =
    acks_now (ack_hurried_by waits (progressed_by waits u.alarms (nat_lt is.in_flight it.was.in_flight)) it.delivered)
    (is_hole u.path it.was is it.delivered it.silent) now

-- its end has heard a datagram, which leaves this path
abbrev pub kept_with_path : ℕ → Upkeep → HeardDatagram → Sight → Path → Upkeep
kept_with_path now u it is path = kept_seen now 0 (alarms_heard (path_waits path) u it is now) path is

-- the same by what the rules see of the end afterwards
abbrev pub kept_heard : {C : Type 0} → Control C → ℕ → Upkeep → HeardDatagram → End C → Upkeep
kept_heard control now u it e = kept_with_path now u it (sight_of control e) (path_heard u.path it.was (sight_of control e) it.taken now)

-- A timer has fired. If it is idle afterwards, what is kept stays.
abbrev pub kept_rung_if : {C : Type 0} → Control C → ℕ → Upkeep → Timer → End C → Bool → Upkeep
kept_rung_if control now u timer e true = u
kept_rung_if control now u timer e false =
    kept_on control now 0 (rung_by (path_waits u.path) u.alarms timer now) (told_timer u.path timer (sight_of control e) now) e

-- the same by the phase after it
abbrev pub kept_rung : {C : Type 0} → Control C → ℕ → Upkeep → Timer → End C → Upkeep
kept_rung control now u timer e = kept_rung_if control now u timer e (is_idle u.alarms timer e.state.phase)

-- a rule made it do something; none is due again in the same millisecond
abbrev pub kept_ruled : {C : Type 0} → Control C → ℕ → Upkeep → Rule → End C → Upkeep
kept_ruled control now u rule e =
    kept_on control now 1 (alarms_by_rule (path_waits u.path) u.alarms rule now) (path_by_rule u.path rule (sight_of control e) now) e

-- what may be due, in the order in which it is looked at: the six timers, and then the rules
abbrev pub every_due : List Due
every_due =
    due.Timer timers.Request ∷ due.Timer timers.Ack ∷ due.Timer timers.Negotiate ∷ due.Timer timers.Rto ∷ due.Timer timers.Close
    ∷ due.Timer timers.TimeWait ∷ due.Rules ∷ []

-- the alarm of what may be due
abbrev pub due_alarm : Upkeep → Due → Option Alarm
due_alarm u (due.Timer timer) = alarm_of u.alarms timer
due_alarm u due.Rules = u.path.rules

-- the first of these that is due
abbrev pub first_due : Upkeep → ℕ → List Due → Option Due
first_due u now [] = None
first_due u now (it ∷ rest) = if has_run_out (due_alarm u it) now then Some it else first_due u now rest

-- a time, if it is within a clock of 64 bits
abbrev pub on_clock : ℕ → Option ℕ
on_clock time = if nat_lt time (2 ^ 64) then Some time else None

-- when an alarm runs out: one that waits for nothing has always run out
abbrev pub alarm_end : Option Alarm → Option ℕ
alarm_end None = None
alarm_end (Some alarm) = if alarm.wait == 0 then Some 0 else on_clock (alarm.since + alarm.wait)

-- the earlier of two times
abbrev pub earlier : Option ℕ → Option ℕ → Option ℕ
earlier None other = other
earlier (Some time) None = Some time
earlier (Some time) (Some other) = Some (min time other)

-- the time at which the first of these is due
abbrev pub first_end : Upkeep → List Due → Option ℕ
first_end u [] = None
first_end u (it ∷ rest) = earlier (alarm_end (due_alarm u it)) (first_end u rest)

-- the moment at which something is first due; there is one class
abbrev pub upkeep_moment : Upkeep → Option (ℕ × ℕ)
upkeep_moment u = option_map (λ time. (0, time)) (first_end u every_due)
