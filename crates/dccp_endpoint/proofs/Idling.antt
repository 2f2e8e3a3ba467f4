-- What the answer of a timer says, and what a timer leaves that has nothing to do.
use Rattle.std.proofs.Common.{◌≡◌, refl, ap, sym, subst, ◌∙◌, ◌&&◌, Bool, true, false, if◌then◌else◌, List, [], ◌∷◌, None}
use Rattle.std.proofs.lemmas.Bool.{true≢false}
use Rattle.congestion_trait.specs.Control.{Control}
use Rattle.dccp_states.specs.declared.calls.Timer.{Timer}
use Rattle.dccp_states.specs.declared.calls.Timer.TheVariants as timers
use Rattle.dccp_states.specs.declared.phase.Phase.{Phase}
use Rattle.feature_machine.specs.Negotiating.{due_keys}
use Rattle.dccp_endpoint.specs.Calling.{applies, applies_in, asks_all, fires, fires_in, fires_now, has_cause, has_keys, times_out}
use Rattle.dccp_endpoint.specs.Controlled.{End, EndStep, has_in_flight, with_control}
use Rattle.dccp_endpoint.specs.End.{EndState}
use Rattle.dccp_endpoint.specs.Steps.{Step, idle}
use Rattle.dccp_endpoint.specs.Turns.{Key}

module _ (e : EndState) where
  record IsFired (applying : Bool) (step : Step Bool) : Type 0 where
    pub answers : step.answer ≡ applying
    pub stays : applying ≡ false → step ≡ idle e false

  done : (step : Step Bool) → step.answer ≡ true → IsFired true step
  done step is = record { answers = is; stays = λ never. absurd (true≢false never) }

  none : IsFired false (idle e false)
  none = record { answers = refl; stays = λ _. refl }

  asked : (keys : List Key) → IsFired (has_keys keys) (asks_all e keys)
  asked [] = none
  asked (k ∷ keys) = done _ refl

  waited : (in_flight : Bool) → IsFired in_flight (times_out e in_flight)
  waited true = done _ refl
  waited false = none

  now : (timer : Timer) (in_flight : Bool) (ph : Phase) → IsFired (has_cause timer e in_flight) (fires_now e timer in_flight ph)
  now timers.Negotiate in_flight ph = asked (due_keys e.rows)
  now timers.Rto in_flight ph = waited in_flight
  now _ in_flight ph = done _ refl

  by-phase : (timer : Timer) (in_flight : Bool) (ph : Phase) (fits : Bool)
      → IsFired (fits && has_cause timer e in_flight) (if fits then fires_now e timer in_flight ph else idle e false)
  by-phase timer in_flight ph true = now timer in_flight ph
  by-phase timer in_flight ph false = none

  fired : (timer : Timer) (in_flight : Bool) → IsFired (applies timer e in_flight) (fires e timer in_flight)
  unfolding fires
  fired timer in_flight = by-phase timer in_flight e.phase (applies_in timer e.phase)

-- what holds of a timer of an end with its congestion control
pub record Timed {C : Type 0} (control : Control C) (old : End C) (timer : Timer) (made : EndStep C Bool) : Type 0 where
  pub step : made ≡ with_control control old.congestion (fires old.state timer (has_in_flight control old.congestion))
  pub applies : made.answer ≡ applies timer old.state (has_in_flight control old.congestion)
  pub idle : made.answer ≡ false → made.after ≡ old
  pub sends_nothing : made.answer ≡ false → made.frame ≡ None

timed-inside : {C : Type 0} (control : Control C) (inside : End C) (timer : Timer) (made : EndStep C Bool)
    → made ≡ with_control control inside.congestion (fires inside.state timer (has_in_flight control inside.congestion))
    → Timed control inside timer made
timed-inside {C} control inside timer made is =
    let in_flight : Bool = has_in_flight control inside.congestion in
    let by : IsFired inside.state (applies timer inside.state in_flight) (fires inside.state timer in_flight) = fired inside.state timer in_flight in
    let said : made.answer ≡ applies timer inside.state in_flight = ap (λ (step : EndStep C Bool). step.answer) is ∙ by.answers in
    let left : made.answer ≡ false → made ≡ with_control control inside.congestion (idle inside.state false) =
    λ stays. is ∙ ap (with_control control inside.congestion) (by.stays (sym said ∙ stays)) in
    record {
      step = is;
      applies = said;
      idle = λ stays. ap (λ (step : EndStep C Bool). step.after) (left stays);
      sends_nothing = λ stays. ap (λ (step : EndStep C Bool). step.frame) (left stays);
    }

-- by its parts
pub timed : {C : Type 0} (control : Control C) (inside old : End C) → inside ≡ old → (timer : Timer) (made : EndStep C Bool)
    → made ≡ with_control control inside.congestion (fires inside.state timer (has_in_flight control inside.congestion))
    → Timed control old timer made
timed control inside old same timer made is = subst (λ (e : End _). Timed control e timer made) same (timed-inside control inside timer made is)
