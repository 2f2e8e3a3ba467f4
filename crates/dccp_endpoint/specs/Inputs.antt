-- All that may happen to an end, and its step.
use Rattle.std.specs.Prelude.{ℕ, Bool, List, Result}
use Rattle.dccp_endpoint.specs.End.{EndState}
use Rattle.dccp_endpoint.specs.Receiving.{receives}
use Rattle.dccp_endpoint.specs.Calling.{aborts, closes, fires, opens, prefers, sends_payload}
use Rattle.dccp_endpoint.specs.Early.{sends_early}
use Rattle.dccp_endpoint.specs.Steps.{Step}
use Rattle.feature_lists.specs.declared.wishes.PreferFault.{PreferFault}
use Rattle.dccp_endpoint.specs.Turns.{Key}
use Rattle.dccp_states.specs.declared.calls.AbortFault.{AbortFault}
use Rattle.dccp_states.specs.declared.calls.CloseFault.{CloseFault}
use Rattle.dccp_states.specs.declared.calls.OpenFault.{OpenFault}
use Rattle.dccp_states.specs.declared.calls.SendFault.{SendFault}
use Rattle.dccp_states.specs.declared.calls.Timer.{Timer}
use Rattle.dccp_states.specs.declared.outcome.Outcome.{Outcome}

-- Bytes arrive, the user calls, or a timer has run out. What the congestion control says comes with the input: with
-- data, whether a further packet may be sent; with a timer, whether something is in flight.
pub data Input : Type 0 where
  Arrives : (bytes : List ℕ) → Input
  Opens Closes Aborts : Input
  Prefers : (key : Key) (values : List ℕ) → Input
  Sends : (payload : List ℕ) (may_send : Bool) → Input
  SendsEarly : (payload : List ℕ) (may_send : Bool) → Input
  Fires : (timer : Timer) (in_flight : Bool) → Input

-- what the end answers
pub data EndAnswer : Type 0 where
  Received : (outcome : Outcome) → EndAnswer
  Opened : (result : Result (Unit {0}) OpenFault) → EndAnswer
  Closed : (result : Result (Unit {0}) CloseFault) → EndAnswer
  Aborted : (result : Result (Unit {0}) AbortFault) → EndAnswer
  Fired : (applies : Bool) → EndAnswer
  Preferred : (result : Result (Unit {0}) PreferFault) → EndAnswer
  Sent : (result : Result (Unit {0}) SendFault) → EndAnswer

-- a step with its answer as one of these
abbrev pub step_shown : {A : Type 0} → (A → EndAnswer) → Step A → Step EndAnswer
step_shown show step = record { after = step.after; frame = step.frame; calls = step.calls; answer = show step.answer }

-- what an end does on an input: it receives the bytes, takes the call, or fires the timer
abbrev pub end_stepped : EndState → Input → Step EndAnswer
end_stepped e (Arrives bytes) = step_shown Received (receives e bytes)
end_stepped e Opens = step_shown Opened (opens e)
end_stepped e Closes = step_shown Closed (closes e)
end_stepped e Aborts = step_shown Aborted (aborts e)
end_stepped e (Fires timer in_flight) = step_shown Fired (fires e timer in_flight)
end_stepped e (Prefers k values) = step_shown Preferred (prefers e k values)
end_stepped e (Sends payload may_send) = step_shown Sent (sends_payload e payload may_send)
end_stepped e (SendsEarly payload may_send) = step_shown Sent (sends_early e payload may_send)
