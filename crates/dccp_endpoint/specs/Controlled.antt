-- An end with its congestion control (RFC 4340, section 10).
use Rattle.std.specs.Prelude.{nat_lt, ℕ, Bool, true, List, Option}
use Rattle.std.specs.List.{filter}
use Rattle.congestion_trait.specs.Calls.{Call, Starts, Sends, Reports, TimesOut, run}
use Rattle.congestion_trait.specs.Control.{Control}
use Rattle.congestion_trait.specs.Flight.{numbers_reported, pipe_of}
use Rattle.feature_lists.specs.Features.{initial_of}
use Rattle.feature_lists.specs.declared.features.Feature.TheVariants.{Ccid}
use Rattle.dccp_packets.specs.Outgoing.{Outgoing}
use Rattle.dccp_endpoint.specs.End.{EndState, new_end}
use Rattle.dccp_endpoint.specs.Steps.{Step}
use Rattle.dccp_endpoint.specs.declared.config.Config.{Config}

-- the state of an end, and that of its congestion control
pub record End (C : Type 0) : Type 0 where
  pub state : EndState
  pub congestion : C

-- an end of this state and this congestion control
abbrev pub end_with : {C : Type 0} → EndState → C → End C
end_with state congestion = record { state = state; congestion = congestion }

-- both after a step, the frame that goes out, if any, and the answer
pub record EndStep (C EndAnswer : Type 0) : Type 0 where
  pub after : End C
  pub frame : Option Outgoing
  pub answer : EndAnswer

-- A start with a CCID that the congestion control does not know is passed over (own); all other calls are made.
abbrev pub is_made : {C : Type 0} → Control C → Call → Bool
is_made control (Starts ccid) = control.is_known ccid
is_made control (Sends number) = true
is_made control (Reports states ratio) = true
is_made control TimesOut = true

-- the congestion control after what was due to it
abbrev pub after_calls : {C : Type 0} → Control C → C → List Call → C
after_calls control congestion calls = run control congestion (filter (is_made control) calls)

-- a step of an end with what it makes of the congestion control
abbrev pub with_control : {C EndAnswer : Type 0} → Control C → C → Step EndAnswer → EndStep C EndAnswer
with_control control congestion step =
    record {
      after = record { state = step.after; congestion = after_calls control congestion step.calls };
      frame = step.frame;
      answer = step.answer;
    }

-- An end that has sent and received nothing: its congestion control is started with the CCID that the feature has at
-- first.
abbrev pub begins : {C : Type 0} → Control C → Config → C → End C
begins control config congestion = record { state = new_end config; congestion = control.started congestion (initial_of Ccid) }

-- how many data packets may be in flight, and how many are
abbrev pub window_of : {C : Type 0} → Control C → C → ℕ
window_of control congestion = control.window congestion

-- the pipe of RFC 4341: the data packets that still stand as Out
abbrev pub in_flight_of : {C : Type 0} → Control C → C → ℕ
in_flight_of control congestion = pipe_of (control.flight congestion)

-- at least one data packet is in flight, so that the timer rto has a cause
abbrev pub has_in_flight : {C : Type 0} → Control C → C → Bool
has_in_flight control congestion = nat_lt 0 (in_flight_of control congestion)

-- the numbers of its own data packets that the end believes received
abbrev pub reported_of : {C : Type 0} → Control C → C → List ℕ
reported_of control congestion = numbers_reported (control.flight congestion)
