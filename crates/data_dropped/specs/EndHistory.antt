-- An end with an inbox, call by call (own).
use Rattle.std.specs.Prelude.{◌≡◌, ℕ, Bool, true, false, List, [], ◌∷◌, ◌++◌, Option, Some, None, slice_range}
use Rattle.congestion_trait.specs.Control.{Control}
use Rattle.dccp_endpoint.specs.End.{last_taken}
use Rattle.dccp_endpoint.specs.Inputs.{Input, end_stepped}
use Rattle.dccp_endpoint.specs.Controlled.{End, EndStep, begins, with_control}
use Rattle.dccp_endpoint.specs.Receiving.{receives}
use Rattle.dccp_endpoint.specs.declared.config.Config.{Config}
use Rattle.dccp_states.specs.declared.outcome.Outcome.{Outcome}
use Rattle.dccp_states.specs.declared.outcome.Outcome.TheVariants.{Took, Dropped, Synced, WasReset, SentReset}
use Rattle.data_dropped.specs.Buffering.{BufferedState}
use Rattle.data_dropped.specs.History.{History, InboxCall, DataArrive, LongDataArrive, Takes, Stops, history_after, history_after_all, no_history}
use Rattle.data_dropped.specs.Inbox.{InboxState, fits_item}
use Rattle.data_dropped.specs.declared.answers.Arrival.{Arrival}
use Rattle.data_dropped.specs.declared.answers.Arrival.TheVariants.{Kept}
use Rattle.data_dropped.specs.declared.answers.Arrival.TheVariants as arrival

-- a call that changes an end with an inbox: only the end, or both
pub data EndCall : Type 0 where
  EndCalls : (given : Input) → EndCall
  EndReceives : (bytes : List ℕ) → EndCall
  EndTakes EndStops : EndCall

-- an end, and the history of its inbox
pub record BufferedPast (C : Type 0) : Type 0 where
  pub end : End C
  pub past : History

-- the end and the inbox as they are
abbrev pub buffered_now : {C : Type 0} → BufferedPast C → BufferedState C
buffered_now p = record { end = p.end; inbox = p.past.held }

-- before all calls
abbrev pub no_past : {C : Type 0} → Control C → Config → C → ℕ → BufferedPast C
no_past control config congestion capacity = record { end = begins control config congestion; past = no_history capacity }

-- data that were delivered are a call of the inbox, by their length
abbrev pub data_call : Bool → ℕ → List ℕ → InboxCall
data_call true n payload = DataArrive n payload
data_call false n payload = LongDataArrive n

-- the calls of the inbox by the place of data that were delivered
abbrev pub calls_from : InboxState → ℕ → List ℕ → Option (ℕ × ℕ) → List InboxCall
calls_from held n bytes None = []
calls_from held n bytes (Some place) =
    data_call (fits_item held (slice_range bytes place.0 place.1)) n (slice_range bytes place.0 place.1) ∷ []

-- by the outcome of a packet of this number
abbrev pub calls_by : InboxState → ℕ → List ℕ → Outcome → List InboxCall
calls_by held n bytes (Took delivered) = calls_from held n bytes delivered
calls_by held n bytes (Dropped why) = []
calls_by held n bytes (Synced number) = []
calls_by held n bytes (WasReset code) = []
calls_by held n bytes (SentReset code detail) = []

-- an end's step, and the calls that it makes of the inbox
abbrev pub past_step : {C : Type 0} → History → List ℕ → EndStep C Outcome → BufferedPast C
past_step past bytes step =
    record { end = step.after; past = history_after_all past (calls_by past.held (last_taken step.after.state) bytes step.answer) }

-- after one more call: the end's step is that of any end
abbrev pub past_after : {C : Type 0} → Control C → BufferedPast C → EndCall → BufferedPast C
past_after control p (EndCalls given) = record p { end = (with_control control p.end.congestion (end_stepped p.end.state given)).after }
past_after control p (EndReceives bytes) =
    past_step p.past bytes (with_control control p.end.congestion (receives p.end.state bytes))
past_after control p EndTakes = record p { past = history_after p.past Takes }
past_after control p EndStops = record p { past = history_after p.past Stops }

-- What is said about the data of a packet with this number is what became of them: the inbox kept them, it dropped them for this reason, or
-- nothing was done with it.
abbrev pub IsToldSo : ℕ → Option Arrival → History → History → Type 0
IsToldSo n None old new = new ≡ old
IsToldSo n (Some Kept) old new = ((payload : List ℕ) × (new.kept ≡ old.kept ++ record { number = n; payload = payload } ∷ [])) × (new.dropped ≡ old.dropped)
IsToldSo n (Some (arrival.Dropped code)) old new = (new.kept ≡ old.kept) × (new.dropped ≡ old.dropped ++ record { number = n; code = code } ∷ [])

-- after these calls, in order
abbrev pub past_all : {C : Type 0} → Control C → BufferedPast C → List EndCall → BufferedPast C
past_all control p [] = p
past_all control p (call ∷ calls) = past_all control (past_after control p call) calls

-- the application stopped listening by this call
abbrev pub is_end_stop : EndCall → Bool
is_end_stop (EndCalls given) = false
is_end_stop (EndReceives bytes) = false
is_end_stop EndTakes = false
is_end_stop EndStops = true
