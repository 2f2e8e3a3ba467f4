-- The calls of an end with an inbox are calls of the inbox.
use Rattle.std.proofs.Common.{◌≡◌, ℕ, ◌||◌, Bool, true, false, List, [], ◌∷◌, Some, None, refl, ap, sym, subst, append-nil}
use Rattle.std.proofs.Math.Bool.{or-false, or_assoc}
use Rattle.std.specs.Prelude.{slice_range}
use Rattle.std.specs.List.{list_any}
use Rattle.congestion_trait.specs.Control.{Control}
use Rattle.dccp_endpoint.specs.Controlled.{EndStep, with_control}
use Rattle.dccp_endpoint.specs.End.{last_taken}
use Rattle.dccp_endpoint.specs.Receiving.{receives}
use Rattle.dccp_endpoint.specs.declared.config.Config.{Config}
use Rattle.dccp_states.specs.declared.outcome.Outcome.{Outcome}
use Rattle.dccp_states.specs.declared.outcome.Outcome.TheVariants.{Took, Dropped, Synced, WasReset, SentReset}
use Rattle.data_dropped.specs.Buffering.{buffers, delivery_by, data_delivered}
use Rattle.data_dropped.specs.Drops.{HaveCodes}
use Rattle.data_dropped.specs.EndHistory.{BufferedPast, EndCall, EndCalls, EndReceives, EndTakes, EndStops, IsToldSo, buffered_now, calls_by, data_call, is_end_stop, no_past, past_after, past_all}
use Rattle.data_dropped.specs.History.{History, IsAccounted, Takes, Stops, history_answered, history_after, history_after_all, is_stop}
use Rattle.data_dropped.specs.Inbox.{InboxState, after_arrival, arrival_answer, dropping, fits_item, reason}
use Rattle.data_dropped.specs.declared.answers.Arrival.{Arrival}
use Rattle.data_dropped.specs.declared.answers.Arrival.TheVariants.{Kept}
use Rattle.data_dropped.specs.declared.answers.Arrival.TheVariants as arrivals
use Rattle.data_dropped.proofs.History.{all-accounted, history_after-accounted, counted-codes, first-accounted}

-- data of any length
held-data : (h : History) (n : ℕ) (payload : List ℕ) (short : Bool)
    → (data_delivered short h.held n payload).inbox ≡ (history_after h (data_call short n payload)).held
held-data h n payload true = refl
held-data h n payload false = refl

held-by : (h : History) (n : ℕ) (bytes : List ℕ) (outcome : Outcome)
    → (delivery_by h.held n bytes outcome).inbox ≡ (history_after_all h (calls_by h.held n bytes outcome)).held
held-by h n bytes (Took (Some place)) = held-data h n (slice_range bytes place.0 place.1) (fits_item h.held (slice_range bytes place.0 place.1))
held-by h n bytes _ = refl

-- what is told of data is what became of them
told-answer : (h : History) (n : ℕ) (payload : List ℕ) (held : InboxState) (answer : Arrival) → IsToldSo n (Some answer) h (history_answered h answer n payload held)
told-answer h n payload held Kept = ((payload, refl), append-nil h.dropped)
told-answer h n payload held (arrivals.Dropped code) = (append-nil h.kept, refl)

told-data : (h : History) (n : ℕ) (payload : List ℕ) (short : Bool)
    → IsToldSo n (data_delivered short h.held n payload).arrival h (history_after h (data_call short n payload))
told-data h n payload true = told-answer h n payload (after_arrival h.held n payload) (arrival_answer h.held)
told-data h n payload false = told-answer h n [] (dropping h.held n) (arrivals.Dropped (reason h.held))

told-by : (h : History) (n : ℕ) (bytes : List ℕ) (outcome : Outcome)
    → IsToldSo n (delivery_by h.held n bytes outcome).arrival h (history_after_all h (calls_by h.held n bytes outcome))
told-by h n bytes (Took (Some place)) = told-data h n (slice_range bytes place.0 place.1) (fits_item h.held (slice_range bytes place.0 place.1))
told-by h n bytes _ = refl

module _ {C : Type 0} (control : Control C) where
  pub receives-tell : (p : BufferedPast C) (bytes : List ℕ)
      → IsToldSo (last_taken (receives p.end.state bytes).after) (buffers control (buffered_now p) bytes).arrival p.past (past_after control p (EndReceives bytes)).past
  receives-tell p bytes = told-by p.past (last_taken (receives p.end.state bytes).after) bytes (receives p.end.state bytes).answer

  -- receiving is what the definitions of one step say
  pub receives-held : (p : BufferedPast C) (bytes : List ℕ)
      → (buffers control (buffered_now p) bytes).after ≡ buffered_now (past_after control p (EndReceives bytes))
  receives-held p bytes =
      let step : EndStep C Outcome = with_control control p.end.congestion (receives p.end.state bytes) in
      let n : ℕ = last_taken step.after.state in
      ap (λ (inbox : InboxState). record { end = step.after; inbox = inbox }) (held-by p.past n bytes step.answer)

  data_call-goes_on : (short : Bool) (n : ℕ) (payload : List ℕ) → is_stop (data_call short n payload) ≡ false
  data_call-goes_on true n payload = refl
  data_call-goes_on false n payload = refl

  none-stops : (held : InboxState) (n : ℕ) (bytes : List ℕ) (outcome : Outcome) → list_any is_stop (calls_by held n bytes outcome) ≡ false
  none-stops held n bytes (Took (Some place)) =
      ap (λ (b : Bool). b || false) (data_call-goes_on (fits_item held (slice_range bytes place.0 place.1)) n (slice_range bytes place.0 place.1))
  none-stops held n bytes _ = refl

  after-accounted : (capacity : ℕ) (stopped : Bool) (p : BufferedPast C) (call : EndCall) → IsAccounted capacity stopped p.past
      → IsAccounted capacity (stopped || is_end_stop call) (past_after control p call).past
  after-accounted capacity stopped p (EndCalls given) before = subst (λ (b : Bool). IsAccounted capacity b p.past) (sym (or-false stopped)) before
  after-accounted capacity stopped p (EndReceives bytes) before =
      let n : ℕ = last_taken (receives p.end.state bytes).after in
      let outcome : Outcome = (receives p.end.state bytes).answer in
      subst (λ (b : Bool). IsAccounted capacity (stopped || b) (history_after_all p.past (calls_by p.past.held n bytes outcome))) (none-stops p.past.held n bytes outcome)
      (all-accounted capacity stopped p.past (calls_by p.past.held n bytes outcome) before)
  after-accounted capacity stopped p EndTakes before = history_after-accounted capacity stopped p.past Takes before
  after-accounted capacity stopped p EndStops before = history_after-accounted capacity stopped p.past Stops before

  pub past-accounted : (capacity : ℕ) (stopped : Bool) (p : BufferedPast C) (calls : List EndCall) → IsAccounted capacity stopped p.past
      → IsAccounted capacity (stopped || list_any is_end_stop calls) (past_all control p calls).past
  past-accounted capacity stopped p [] before = subst (λ (b : Bool). IsAccounted capacity b p.past) (sym (or-false stopped)) before
  past-accounted capacity stopped p (call ∷ calls) before =
      subst (λ (b : Bool). IsAccounted capacity b (past_all control (past_after control p call) calls).past)
      (or_assoc stopped (is_end_stop call) (list_any is_end_stop calls))
      (past-accounted capacity (stopped || is_end_stop call) (past_after control p call) calls (after-accounted capacity stopped p call before))

  pub every-past : (config : Config) (congestion : C) (capacity : ℕ) (calls : List EndCall)
      → IsAccounted capacity (list_any is_end_stop calls) (past_all control (no_past control config congestion capacity) calls).past
  every-past config congestion capacity calls =
      past-accounted capacity false (no_past control config congestion capacity) calls (first-accounted capacity)

  pub every-past-codes : (config : Config) (congestion : C) (capacity : ℕ) (calls : List EndCall)
      → HaveCodes (past_all control (no_past control config congestion capacity) calls).past.held.drops
  every-past-codes config congestion capacity calls =
      counted-codes capacity (list_any is_end_stop calls) (past_all control (no_past control config congestion capacity) calls).past
      (every-past config congestion capacity calls)
