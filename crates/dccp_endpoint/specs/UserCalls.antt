-- A call of an end by its user as one value: its input, and what the step answers (own).
use Rattle.std.specs.Prelude.{Bool, Result, Ok, Err}
use Rattle.congestion_trait.specs.Control.{Control, may_send}
use Rattle.dccp_endpoint.specs.Controlled.{End, EndStep, has_in_flight, with_control}
use Rattle.dccp_endpoint.specs.Inputs.{EndAnswer, Input, end_stepped}
use Rattle.dccp_endpoint.specs.Inputs as input
use Rattle.dccp_endpoint.specs.Steps.{Step}
use Rattle.dccp_states.specs.Refusals.{refusal_of, send_refusal_of}
use Rattle.dccp_states.specs.declared.calls.UserCall.{UserCall}
use Rattle.dccp_states.specs.declared.calls.UserCall.TheVariants as call
use Rattle.dccp_states.specs.declared.seen.Refusal.{Refusal}
use Rattle.dccp_states.specs.declared.seen.Refusal.TheVariants as refusal
use Rattle.dccp_states.specs.declared.seen.Seen.{Seen}
use Rattle.dccp_states.specs.declared.seen.Seen.TheVariants as seen

-- The call as the end takes it, with what the congestion control says: whether a further data packet may be sent, and
-- whether some are in flight.
abbrev pub input_of : UserCall → Bool → Bool → Input
input_of call.Open may_send in_flight = input.Opens
input_of (call.Send payload) may_send in_flight = input.Sends payload.now may_send
input_of (call.SendEarly payload) may_send in_flight = input.SendsEarly payload.now may_send
input_of (call.Prefer feature place values) may_send in_flight = input.Prefers (feature, place) values.now
input_of call.Close may_send in_flight = input.Closes
input_of call.Abort may_send in_flight = input.Aborts
input_of (call.Timer timer) may_send in_flight = input.Fires timer in_flight

-- the answer to a call, with this name for a refusal
abbrev pub seen_of_call : {Fault : Type 0} → (Fault → Refusal) → Result (Unit {0}) Fault → Seen
seen_of_call named (Ok _) = seen.Called (Ok tt)
seen_of_call named (Err fault) = seen.Called (Err (named fault))

-- an outcome, the result of a call, or whether a timer applied
abbrev pub seen_of : EndAnswer → Seen
seen_of (input.Received outcome) = seen.Received outcome
seen_of (input.Opened result) = seen_of_call (λ fault. refusal.NotFresh) result
seen_of (input.Preferred result) = seen_of_call refusal_of result
seen_of (input.Sent result) = seen_of_call send_refusal_of result
seen_of (input.Closed result) = seen_of_call (λ fault. refusal.NotOpen) result
seen_of (input.Aborted result) = seen_of_call (λ fault. refusal.NotLive) result
seen_of (input.Fired applies) = seen.Fired applies

-- a step with its answer as a `Seen`
abbrev pub step_seen : Step EndAnswer → Step Seen
step_seen step = record { after = step.after; frame = step.frame; calls = step.calls; answer = seen_of step.answer }

-- What an end does on its user's call, with its congestion control, and what it answers.
abbrev pub call_step : {C : Type 0} → Control C → End C → UserCall → EndStep C Seen
call_step control e call =
    with_control control e.congestion
    (step_seen (end_stepped e.state (input_of call (may_send control e.congestion) (has_in_flight control e.congestion))))
