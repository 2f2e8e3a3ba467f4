-- An end with its timers and the rules of its path (own; the end is that of RFC 4340).
use Rattle.std.specs.Prelude.{ℕ, Bool, true, false, not, List, Option, Some, None, is_some, Result, Ok, Err}
use Rattle.congestion_trait.specs.Control.{Control, may_send}
use Rattle.dccp_packets.specs.Outgoing.{Outgoing}
use Rattle.dccp_endpoint.specs.Calling.{aborts, closes, fires, opens, prefers}
use Rattle.dccp_endpoint.specs.Controlled.{End, EndStep, begins, has_in_flight, in_flight_of, with_control}
use Rattle.dccp_endpoint.specs.Early.{sends_soon}
use Rattle.dccp_endpoint.specs.Receiving.{receives}
use Rattle.dccp_endpoint.specs.declared.config.Config.{Config}
use Rattle.dccp_states.specs.declared.calls.AbortFault.{AbortFault}
use Rattle.dccp_states.specs.declared.calls.CloseFault.{CloseFault}
use Rattle.dccp_states.specs.declared.calls.OpenFault.{OpenFault}
use Rattle.dccp_states.specs.declared.calls.SendFault.{SendFault}
use Rattle.dccp_states.specs.declared.calls.Timer.{Timer}
use Rattle.dccp_states.specs.declared.outcome.Outcome.{Outcome}
use Rattle.feature_lists.specs.declared.features.Feature.{Feature}
use Rattle.feature_lists.specs.declared.features.Place.{Place}
use Rattle.feature_lists.specs.declared.wishes.PreferFault.{PreferFault}
use Rattle.dccp_uses.specs.Alarms.{sooner, until_first}
use Rattle.dccp_uses.specs.Path.{sight_of}
use Rattle.dccp_uses.specs.Reader.{restraint_of}
use Rattle.dccp_uses.specs.Rules.{due_rule, rule_does}
use Rattle.dccp_uses.specs.Syncs.{admitted}
use Rattle.dccp_uses.specs.Upkeeps.{heard_so, kept_called, kept_closed, kept_heard, kept_opened, kept_preferred, kept_ruled, kept_rung, kept_sent, upkeep_begins}
use Rattle.dccp_uses.specs.declared.pace.Pace.{Pace}
use Rattle.dccp_uses.specs.declared.path.Path.{Path}
use Rattle.dccp_uses.specs.declared.reader.Restraint.{Restraint}
use Rattle.dccp_uses.specs.declared.reader.SendRefusal.{SendRefusal}
use Rattle.dccp_uses.specs.declared.reader.SendRefusal.TheVariants as refusals
use Rattle.dccp_uses.specs.declared.rule.Rule.{Rule}
use Rattle.dccp_uses.specs.declared.timed_end.Due.{Due}
use Rattle.dccp_uses.specs.declared.timed_end.Due.TheVariants as due
use Rattle.dccp_uses.specs.declared.upkeep.Upkeep.{Upkeep}

-- an end, and what is kept of it: its timers and its path
pub record TimedState (C : Type 0) : Type 0 where
  pub end : End C
  pub upkeep : Upkeep

-- both after something happened, the frame that the end made, if any, and the answer
pub record TimedStep (C Answer : Type 0) : Type 0 where
  pub timed : TimedState C
  pub frame : Option Outgoing
  pub answer : Answer

-- an end that has sent and received nothing, for which no timer runs, and of whose path nothing is known
abbrev pub timed_begins : {C : Type 0} → Control C → Config → C → Pace → TimedState C
timed_begins control config congestion pace = record { end = begins control config congestion; upkeep = upkeep_begins pace }

-- a step of the end, and what is then kept of it
abbrev pub timed_step : {C Answer : Type 0} → Upkeep → EndStep C Answer → TimedStep C Answer
timed_step upkeep step = record { timed = record { end = step.after; upkeep = upkeep }; frame = step.frame; answer = step.answer }

-- A call of the end, by its answer: one that was refused leaves all as it is.
abbrev pub timed_called : {C Fault : Type 0} → TimedState C → Upkeep → EndStep C (Result (Unit {0}) Fault) → Result (Unit {0}) Fault
    → TimedStep C (Result (Unit {0}) Fault)
timed_called s upkeep step (Ok _) = timed_step upkeep step
timed_called s upkeep step (Err fault) = record { timed = s; frame = None; answer = Err fault }

-- the same, where this is kept of an end that took the call
abbrev pub timed_calls : {C Fault : Type 0} → TimedState C → (Upkeep → End C → Upkeep) → EndStep C (Result (Unit {0}) Fault)
    → TimedStep C (Result (Unit {0}) Fault)
timed_calls s kept step = timed_called s (kept s.upkeep step.after) step step.answer

-- a client asks for its service: its Request is timed
abbrev pub timed_opens : {C : Type 0} → Control C → ℕ → TimedState C → TimedStep C (Result (Unit {0}) OpenFault)
timed_opens control now s = timed_calls s (kept_opened control now) (with_control control s.end.congestion (opens s.end.state))

-- data go to the end
abbrev pub timed_hands : {C : Type 0} → Control C → ℕ → TimedState C → List ℕ → TimedStep C (Result (Unit {0}) SendFault)
timed_hands control now s payload =
    timed_calls s (kept_sent control now)
    (with_control control s.end.congestion (sends_soon s.end.state payload (may_send control s.end.congestion)))

-- a refusal of the end, as one of the two kinds of refusals
abbrev pub refusal_named : Result (Unit {0}) SendFault → Result (Unit {0}) SendRefusal
refusal_named (Ok done) = Ok done
refusal_named (Err fault) = Err (refusals.Refused fault)

-- a step with its refusal named so
abbrev pub with_refusal_named : {C : Type 0} → TimedStep C (Result (Unit {0}) SendFault) → TimedStep C (Result (Unit {0}) SendRefusal)
with_refusal_named step = record { timed = step.timed; frame = step.frame; answer = refusal_named step.answer }

-- Data go out, or have to wait: then nothing happens.
abbrev pub timed_sends_by : {C : Type 0} → Control C → ℕ → TimedState C → List ℕ → Option Restraint → TimedStep C (Result (Unit {0}) SendRefusal)
timed_sends_by control now s payload None = with_refusal_named (timed_hands control now s payload)
timed_sends_by control now s payload (Some why) = record { timed = s; frame = None; answer = Err (refusals.Held why) }

-- the same, by what the peer's application leaves of the window
abbrev pub timed_sends : {C : Type 0} → Control C → ℕ → TimedState C → List ℕ → TimedStep C (Result (Unit {0}) SendRefusal)
timed_sends control now s payload = timed_sends_by control now s payload (restraint_of s.upkeep.path.reader (in_flight_of control s.end.congestion))

-- a wish for a feature
abbrev pub timed_prefers : {C : Type 0} → Control C → ℕ → TimedState C → Feature → Place → List ℕ → TimedStep C (Result (Unit {0}) PreferFault)
timed_prefers control now s feature place values =
    timed_calls s (kept_preferred control now) (with_control control s.end.congestion (prefers s.end.state (feature, place) values))

-- the connection is closed in order
abbrev pub timed_closes : {C : Type 0} → Control C → ℕ → TimedState C → TimedStep C (Result (Unit {0}) CloseFault)
timed_closes control now s = timed_calls s (kept_closed control now) (with_control control s.end.congestion (closes s.end.state))

-- the connection is given up
abbrev pub timed_aborts : {C : Type 0} → Control C → ℕ → TimedState C → TimedStep C (Result (Unit {0}) AbortFault)
timed_aborts control now s = timed_calls s (kept_called control now) (with_control control s.end.congestion (aborts s.end.state))

-- the end has received a packet
abbrev pub timed_heard : {C : Type 0} → Control C → ℕ → TimedState C → EndStep C Outcome → TimedStep C Outcome
timed_heard control now s step =
    timed_step (kept_heard control now s.upkeep (heard_so (sight_of control s.end) step.answer (not (is_some step.frame))) step.after) step

-- a datagram arrives
abbrev pub timed_hears : {C : Type 0} → Control C → ℕ → TimedState C → List ℕ → TimedStep C Outcome
timed_hears control now s bytes = timed_heard control now s (with_control control s.end.congestion (receives s.end.state bytes))

-- a step with the outcome of what was heard
abbrev pub heard_out : {C : Type 0} → TimedStep C Outcome → TimedStep C (Option Outcome)
heard_out step = record { timed = step.timed; frame = step.frame; answer = Some step.answer }

-- an end with its timers, with this kept of its path
abbrev pub with_path : {C : Type 0} → TimedState C → Path → TimedState C
with_path s path = record s { upkeep = record s.upkeep { path = path } }

-- A datagram is heard, or left out: then nothing is sent and no number is used.
abbrev pub heard_if : {C : Type 0} → Control C → ℕ → TimedState C → List ℕ → Bool → TimedStep C (Option Outcome)
heard_if control now s bytes true = heard_out (timed_hears control now s bytes)
heard_if control now s bytes false = record { timed = s; frame = None; answer = None }

-- the same, by whether there is a token if a Sync would answer the datagram
abbrev pub timed_takes : {C : Type 0} → Control C → ℕ → TimedState C → List ℕ → TimedStep C (Option Outcome)
timed_takes control now s bytes =
    heard_if control now (with_path s (admitted s.end.state s.upkeep.path bytes now).path) bytes (admitted s.end.state s.upkeep.path bytes now).heard

-- a timer has run out, and its end was called for it
abbrev pub timed_told : {C : Type 0} → Control C → ℕ → TimedState C → Timer → EndStep C Bool → TimedStep C Bool
timed_told control now s timer step = timed_step (kept_rung control now s.upkeep timer step.after) step

-- the timer is the end's own, or one that its owner keeps
abbrev pub timed_fires : {C : Type 0} → Control C → ℕ → TimedState C → Timer → TimedStep C Bool
timed_fires control now s timer =
    timed_told control now s timer (with_control control s.end.congestion (fires s.end.state timer (has_in_flight control s.end.congestion)))

-- the end has done what a rule says
abbrev pub ruled : {C : Type 0} → Control C → ℕ → TimedState C → Rule → EndStep C Bool → TimedStep C Bool
ruled control now s rule step = timed_step (kept_ruled control now s.upkeep rule step.after) step

-- the end does what this rule says
abbrev pub obeys : {C : Type 0} → Control C → ℕ → TimedState C → Rule → TimedStep C Bool
obeys control now s rule = ruled control now s rule (rule_does control s.end rule s.upkeep.path.aim)

-- the end does what the first rule that is due says
abbrev pub tells_rules : {C : Type 0} → Control C → ℕ → TimedState C → TimedStep C Bool
tells_rules control now s = obeys control now s (due_rule s.upkeep.path now)

-- the end does what is due
abbrev pub due_told : {C : Type 0} → Control C → ℕ → TimedState C → Due → TimedStep C Bool
due_told control now s (due.Timer timer) = timed_fires control now s timer
due_told control now s due.Rules = tells_rules control now s

-- in how many milliseconds something is due
abbrev pub first_wait_left : {C : Type 0} → TimedState C → ℕ → Option ℕ
first_wait_left s now = sooner (until_first s.upkeep.alarms now) s.upkeep.path.rules now
