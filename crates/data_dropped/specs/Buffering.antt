-- An end with a bounded inbox: what it does with bytes that arrive, and what its calls do (own; the end's part is that of RFC 4340, section
-- 8.5).
use Rattle.std.specs.Prelude.{ℕ, ◌≤◌, Bool, true, false, List, length, Option, Some, None, slice_range}
use Rattle.congestion_trait.specs.Control.{Control}
use Rattle.dccp_endpoint.specs.Controlled.{End, EndStep, begins, with_control}
use Rattle.dccp_endpoint.specs.End.{last_taken}
use Rattle.dccp_endpoint.specs.Receiving.{receives}
use Rattle.dccp_endpoint.specs.declared.config.Config.{Config}
use Rattle.dccp_packets.specs.Outgoing.{Outgoing}
use Rattle.dccp_states.specs.declared.outcome.Outcome.{Outcome}
use Rattle.dccp_states.specs.declared.outcome.Outcome.TheVariants.{Took, Dropped, Synced, WasReset, SentReset}
use Rattle.data_dropped.specs.Frames.{buffered_frame}
use Rattle.data_dropped.specs.Inbox.{InboxState, after_arrival, arrival_answer, dropping, empty_inbox, fits_item, reason}
use Rattle.data_dropped.specs.declared.answers.Arrival.{Arrival}
use Rattle.data_dropped.specs.declared.answers.Arrival.TheVariants as arrival

-- the state of an end, and that of its inbox
pub record BufferedState (C : Type 0) : Type 0 where
  pub end : End C
  pub inbox : InboxState

-- an end that has sent and received nothing, and an empty inbox
abbrev pub begins_buffered : {C : Type 0} → Control C → Config → C → ℕ → BufferedState C
begins_buffered control config congestion capacity =
    record { end = begins control config congestion; inbox = empty_inbox capacity }

-- the inbox once a packet was received, and what became of its data, if any were delivered
pub record Delivery : Type 0 where
  pub inbox : InboxState
  pub arrival : Option Arrival

-- data that were delivered under this number, by whether they fit an item; longer ones are dropped
abbrev pub data_delivered : Bool → InboxState → ℕ → List ℕ → Delivery
data_delivered true held n payload = record { inbox = after_arrival held n payload; arrival = Some (arrival_answer held) }
data_delivered false held n payload = record { inbox = dropping held n; arrival = Some (arrival.Dropped (reason held)) }

-- by their length
abbrev pub delivered_data : InboxState → ℕ → List ℕ → Delivery
delivered_data held n payload = data_delivered (fits_item held payload) held n payload

-- none were delivered
abbrev pub nothing_delivered : InboxState → Delivery
nothing_delivered held = record { inbox = held; arrival = None }

-- by their place in the bytes that arrived
abbrev pub delivered_from : InboxState → ℕ → List ℕ → Option (ℕ × ℕ) → Delivery
delivered_from held n bytes None = nothing_delivered held
delivered_from held n bytes (Some place) = delivered_data held n (slice_range bytes place.0 place.1)

-- by the outcome of the end
abbrev pub delivery_by : InboxState → ℕ → List ℕ → Outcome → Delivery
delivery_by held n bytes (Took delivered) = delivered_from held n bytes delivered
delivery_by held n bytes (Dropped why) = nothing_delivered held
delivery_by held n bytes (Synced number) = nothing_delivered held
delivery_by held n bytes (WasReset code) = nothing_delivered held
delivery_by held n bytes (SentReset code detail) = nothing_delivered held

-- the data that an outcome delivers lie within the bytes
abbrev pub HasDataWithin : List ℕ → Outcome → Type 0
HasDataWithin bytes (Took None) = Unit {0}
HasDataWithin bytes (Took (Some place)) = (place.0 ≤ place.1) × (place.1 ≤ length bytes)
HasDataWithin bytes (Dropped why) = Unit {0}
HasDataWithin bytes (Synced number) = Unit {0}
HasDataWithin bytes (WasReset code) = Unit {0}
HasDataWithin bytes (SentReset code detail) = Unit {0}

-- the end and the inbox after a step, the frame that goes out, if any, the outcome, and what became of data, if any
-- were delivered
pub record BufferedStep (C : Type 0) : Type 0 where
  pub after : BufferedState C
  pub frame : Option Outgoing
  pub outcome : Outcome
  pub arrival : Option Arrival

-- The end's step, and what it does to the inbox: the frame then says what the inbox has to say.
abbrev pub with_inbox : {C : Type 0} → EndStep C Outcome → Delivery → BufferedStep C
with_inbox step delivery =
    record {
      after = record { end = step.after; inbox = delivery.inbox };
      frame = buffered_frame step.after.state.config.pseudo_out delivery.inbox step.frame;
      outcome = step.answer;
      arrival = delivery.arrival;
    }

-- by the end's step: data come under the number that it took last
abbrev pub buffers_step : {C : Type 0} → InboxState → List ℕ → EndStep C Outcome → BufferedStep C
buffers_step held bytes step = with_inbox step (delivery_by held (last_taken step.after.state) bytes step.answer)

-- What an end with an inbox does with bytes that arrive: the end's step is that of any end.
abbrev pub buffers : {C : Type 0} → Control C → BufferedState C → List ℕ → BufferedStep C
buffers control b bytes =
    buffers_step b.inbox bytes (with_control control b.end.congestion (receives b.end.state bytes))

-- the end and the inbox after a call of the end, the frame that goes out, if any, and the end's answer
pub record BufferedCall (C Answer : Type 0) : Type 0 where
  pub after : BufferedState C
  pub frame : Option Outgoing
  pub answer : Answer

-- A step of the end that leaves its inbox unchanged: the frame says what the inbox has to say.
abbrev pub beside : {C Answer : Type 0} → InboxState → EndStep C Answer → BufferedCall C Answer
beside held step =
    record {
      after = record { end = step.after; inbox = held };
      frame = buffered_frame step.after.state.config.pseudo_out held step.frame;
      answer = step.answer;
    }
