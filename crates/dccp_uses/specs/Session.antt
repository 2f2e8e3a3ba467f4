-- An end with the timers that its owner keeps for it (own; the end is that of RFC 4340).
use Rattle.dccp_states.specs.Phases.{is_closed}
use Rattle.std.specs.Prelude.{nat_lt, nat_le, ℕ, Bool, true, false, not, ◌&&◌, List, length, Option, Some, None, is_some, Result, Ok, Err, if◌then◌else◌}
use Rattle.congestion_trait.specs.Control.{Control}
use Rattle.dccp_packets.specs.Outgoing.{Outgoing}
use Rattle.dccp_endpoint.specs.Calling.{fires}
use Rattle.dccp_endpoint.specs.Controlled.{End, EndStep, begins, has_in_flight, in_flight_of, with_control}
use Rattle.dccp_endpoint.specs.Receiving.{receives}
use Rattle.dccp_states.specs.declared.calls.Timer.{Timer}
use Rattle.dccp_endpoint.specs.declared.config.Config.{Config}
use Rattle.dccp_states.specs.declared.outcome.Outcome.{Outcome}
use Rattle.dccp_states.specs.declared.outcome.Outcome.TheVariants.{Took, Dropped, Synced, WasReset, SentReset}
use Rattle.dccp_states.specs.declared.phase.Phase.{Phase}
use Rattle.dccp_states.specs.declared.phase.Phase.TheVariants as phases
use Rattle.dccp_uses.specs.Alarms.{alarm_of, arranged, has_run_out, is_idle, no_alarms, rung, with_delivery, with_progress}
use Rattle.dccp_uses.specs.declared.alarms.Alarms.{Alarms}
use Rattle.dccp_uses.specs.declared.alarms.Condition.{Condition}
use Rattle.dccp_uses.specs.declared.news.News.{News}
use Rattle.dccp_uses.specs.declared.news.News.TheVariants as news

-- an end, and the alarms of the timers that run for it
pub record SessionState (C : Type 0) : Type 0 where
  pub end : End C
  pub alarms : Alarms

-- a session after something happened, the frame that its end made, if any, and the answer
pub record SessionStep (C Answer : Type 0) : Type 0 where
  pub session : SessionState C
  pub frame : Option Outgoing
  pub answer : Answer

-- an end that has sent and received nothing, for which no timer runs
abbrev pub session_begins : {C : Type 0} → Control C → Config → C → SessionState C
session_begins control config congestion = record { end = begins control config congestion; alarms = no_alarms }

-- the condition by which the timers of an end run
abbrev pub condition_of : {C : Type 0} → Control C → End C → Condition
condition_of control end = record { phase = end.state.phase; in_flight = has_in_flight control end.congestion }

-- The timers run as the end needs them after a step of it, from these alarms on.
abbrev pub goes_on_with : {C Answer : Type 0} → Control C → ℕ → Alarms → EndStep C Answer → SessionStep C Answer
goes_on_with control now alarms step =
    record {
      session = record { end = step.after; alarms = arranged alarms (condition_of control step.after) now };
      frame = step.frame;
      answer = step.answer;
    }

-- A call of the end, by its answer: one that was refused leaves all as it is.
abbrev pub called : {C Fault : Type 0} → Control C → ℕ → SessionState C → Alarms → EndStep C (Result (Unit {0}) Fault) → Result (Unit {0}) Fault
    → SessionStep C (Result (Unit {0}) Fault)
called control now s alarms step (Ok _) = goes_on_with control now alarms step
called control now s alarms step (Err fault) = record { session = s; frame = None; answer = Err fault }

-- a call of the end, after which its timers go on if they are still needed
abbrev pub calls : {C Fault : Type 0} → Control C → ℕ → SessionState C → EndStep C (Result (Unit {0}) Fault) → SessionStep C (Result (Unit {0}) Fault)
calls control now s step = called control now s s.alarms step step.answer

-- a wish for a feature: the timer negotiate starts anew
abbrev pub calls_anew : {C Fault : Type 0} → Control C → ℕ → SessionState C → EndStep C (Result (Unit {0}) Fault) → SessionStep C (Result (Unit {0}) Fault)
calls_anew control now s step = called control now s (record s.alarms { negotiate = None }) step step.answer

-- the connection has ended with this step
abbrev pub has_closed : Phase → Phase → Bool
has_closed was is = not (is_closed was) && is_closed is

-- The news of an outcome for the owner, by the phases before and after it.
abbrev pub news_of : Outcome → Phase → Phase → News
news_of (Took (Some place)) was is = news.Data place.0 place.1
news_of (Took None) was is = news.Quiet
news_of (Dropped why) was is = news.Quiet
news_of (Synced number) was is = news.Quiet
news_of (WasReset code) was is = news.Ended code
news_of (SentReset code detail) was is = if has_closed was is then news.Ended code else news.Quiet

-- the packet was taken and has brought data for the owner
abbrev pub is_delivery : Outcome → Bool
is_delivery (Took delivered) = is_some delivered
is_delivery (Dropped why) = false
is_delivery (Synced number) = false
is_delivery (WasReset code) = false
is_delivery (SentReset code detail) = false

-- a step that took bytes, with its news for the owner
abbrev pub tells_news : {C : Type 0} → SessionState C → SessionStep C Outcome → SessionStep C News
tells_news s step =
    record {
      session = step.session;
      frame = step.frame;
      answer = news_of step.answer s.end.state.phase step.session.end.state.phase;
    }

-- The end has received a packet. Its timers depend on what came out of flight with it, by a report or since a new CCID begins with nothing in
-- flight, and on data that were delivered. A timeout, which empties the flight too, goes by `tells_end`, and is no progress.
abbrev pub after_hearing : {C : Type 0} → Control C → ℕ → SessionState C → EndStep C Outcome → SessionStep C Outcome
after_hearing control now s step =
    goes_on_with control now
    (with_delivery (with_progress s.alarms (nat_lt (in_flight_of control step.after.congestion) (in_flight_of control s.end.congestion))) (is_delivery step.answer))
    step

-- A datagram arrives. One that is longer than an end takes changes nothing.
abbrev pub hears : {C : Type 0} → Control C → ℕ → SessionState C → List ℕ → SessionStep C News
hears control now s bytes =
    if nat_le (length bytes) 2044 then tells_news s (after_hearing control now s (with_control control s.end.congestion (receives s.end.state bytes)))
    else record { session = s; frame = None; answer = news.TooLong }

-- A timer has run out, and its end was called for it. Of one that is idle afterwards the timers take no notice.
abbrev pub session_told_if : {C : Type 0} → Control C → ℕ → SessionState C → Timer → EndStep C Bool → Bool → SessionStep C Bool
session_told_if control now s timer step true = record { session = record s { end = step.after }; frame = step.frame; answer = step.answer }
session_told_if control now s timer step false = goes_on_with control now (rung s.alarms timer now) step

-- the same by the phase after it
abbrev pub session_told : {C : Type 0} → Control C → ℕ → SessionState C → Timer → EndStep C Bool → SessionStep C Bool
session_told control now s timer step = session_told_if control now s timer step (is_idle s.alarms timer step.after.state.phase)

-- A timer has run out: its end is called once for it.
abbrev pub tells_end : {C : Type 0} → Control C → ℕ → SessionState C → Timer → SessionStep C Bool
tells_end control now s timer =
    session_told control now s timer (with_control control s.end.congestion (fires s.end.state timer (has_in_flight control s.end.congestion)))

-- the same if it has run out; otherwise nothing happens
abbrev pub rings : {C : Type 0} → Control C → ℕ → SessionState C → Timer → SessionStep C Bool
rings control now s timer =
    if has_run_out (alarm_of s.alarms timer) now then tells_end control now s timer else record { session = s; frame = None; answer = false }

-- A server's end for a peer that has heard its first datagram is a connection if it has left LISTEN.
abbrev pub is_listening : Phase → Bool
is_listening phases.Closed = false
is_listening phases.Listen = true
is_listening phases.Request = false
is_listening phases.Respond = false
is_listening phases.PartOpen = false
is_listening phases.Open = false
is_listening phases.CloseReq = false
is_listening phases.Closing = false
is_listening phases.TimeWait = false
