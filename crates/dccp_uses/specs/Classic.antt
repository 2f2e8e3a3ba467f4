-- What an end with its timers is if no rule of its path is followed: a session with only the timers (own).
use Rattle.std.specs.Prelude.{◌≡◌, ℕ, false, List, None, Result}
use Rattle.congestion_trait.specs.Control.{Control, may_send}
use Rattle.dccp_endpoint.specs.Calling.{aborts, closes, opens, prefers}
use Rattle.dccp_endpoint.specs.Controlled.{with_control}
use Rattle.dccp_endpoint.specs.Early.{sends_soon}
use Rattle.dccp_endpoint.specs.declared.config.Config.{Config}
use Rattle.dccp_states.specs.declared.calls.SendFault.{SendFault}
use Rattle.dccp_states.specs.declared.calls.Timer.{Timer}
use Rattle.feature_lists.specs.declared.features.Feature.{Feature}
use Rattle.feature_lists.specs.declared.features.Place.{Place}
use Rattle.dccp_uses.specs.Alarms.{has_run_out}
use Rattle.dccp_uses.specs.Path.{classic_pace, path_begins}
use Rattle.dccp_uses.specs.Reader.{reader_begins}
use Rattle.dccp_uses.specs.Session.{SessionState, SessionStep, calls, calls_anew, hears, rings, session_begins, tells_end}
use Rattle.dccp_uses.specs.Sessions.{rings_due, session_hears}
use Rattle.dccp_uses.specs.Timed.{TimedState, TimedStep, refusal_named, timed_aborts, timed_begins, timed_closes, timed_fires, timed_opens, timed_prefers, timed_sends}
use Rattle.dccp_uses.specs.Upkeeps.{due_alarm}
use Rattle.dccp_uses.specs.declared.path.Path.{Path}
use Rattle.dccp_uses.specs.declared.reader.SendRefusal.{SendRefusal}
use Rattle.dccp_uses.specs.declared.timed_end.Due.TheVariants as due

-- no rule is followed, and none has anything to do
pub record IsClassic (path : Path) : Type 0 where
  pub follows_none : path.pace ≡ classic_pace
  pub asks_nothing : path.ratio ≡ None
  pub nothing_is_due : path.rules ≡ None
  pub heeds_nothing : path.reader ≡ reader_begins

-- an end and its alarms, without what is kept of a path
abbrev pub session_of : {C : Type 0} → TimedState C → SessionState C
session_of s = record { end = s.end; alarms = s.upkeep.alarms }

-- a session's step with the refusal of data named as that of an end with its timers
abbrev pub session_refusal_named : {C : Type 0} → SessionStep C (Result (Unit {0}) SendFault) → SessionStep C (Result (Unit {0}) SendRefusal)
session_refusal_named step = record { session = step.session; frame = step.frame; answer = refusal_named step.answer }

-- An end with its timers takes this step as a session does: with the same end, alarms, frame and answer, and no rule is followed after it
-- either.
pub record IsSessionStep {C Answer : Type 0} (step : TimedStep C Answer) (session : SessionStep C Answer) : Type 0 where
  pub session_is : session_of step.timed ≡ session.session
  pub frame_is : step.frame ≡ session.frame
  pub answer_is : step.answer ≡ session.answer
  pub stays_classic : IsClassic step.timed.upkeep.path

-- This holds after any inputs, at any times. No rule is ever due.
pub record ClassicIsTheSession {C : Type 0} (control : Control C) : Type 0 where
  pub begins : (config : Config) (congestion : C)
      → session_of (timed_begins control config congestion classic_pace) ≡ session_begins control config congestion
  pub begins_classic : IsClassic (path_begins classic_pace)
  pub opens : (now : ℕ) (s : TimedState C) → IsClassic s.upkeep.path
      → IsSessionStep (timed_opens control now s) (calls control now (session_of s) (with_control control s.end.congestion (opens s.end.state)))
  pub sends : (now : ℕ) (s : TimedState C) (payload : List ℕ) → IsClassic s.upkeep.path
      → IsSessionStep (timed_sends control now s payload)
      (session_refusal_named
      (calls control now (session_of s) (with_control control s.end.congestion (sends_soon s.end.state payload (may_send control s.end.congestion)))))
  pub prefers : (now : ℕ) (s : TimedState C) (feature : Feature) (place : Place) (values : List ℕ) → IsClassic s.upkeep.path
      → IsSessionStep (timed_prefers control now s feature place values)
      (calls_anew control now (session_of s) (with_control control s.end.congestion (prefers s.end.state (feature, place) values)))
  pub closes : (now : ℕ) (s : TimedState C) → IsClassic s.upkeep.path
      → IsSessionStep (timed_closes control now s) (calls control now (session_of s) (with_control control s.end.congestion (closes s.end.state)))
  pub aborts : (now : ℕ) (s : TimedState C) → IsClassic s.upkeep.path
      → IsSessionStep (timed_aborts control now s) (calls control now (session_of s) (with_control control s.end.congestion (aborts s.end.state)))
  pub hears : (now : ℕ) (s : TimedState C) (bytes : List ℕ) → IsClassic s.upkeep.path
      → IsSessionStep (session_hears control now s bytes) (hears control now (session_of s) bytes)
  pub tells : (now : ℕ) (s : TimedState C) (timer : Timer) → IsClassic s.upkeep.path
      → IsSessionStep (timed_fires control now s timer) (tells_end control now (session_of s) timer)
  pub rings : (now : ℕ) (s : TimedState C) (timer : Timer) → IsClassic s.upkeep.path
      → IsSessionStep (rings_due control now s (due.Timer timer)) (rings control now (session_of s) timer)
  pub never_rules : (now : ℕ) (s : TimedState C) → IsClassic s.upkeep.path → has_run_out (due_alarm s.upkeep due.Rules) now ≡ false
