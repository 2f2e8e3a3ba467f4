-- What the contract of `receive` says. A packet that is dropped leaves the end and its congestion control as they were, and nothing goes out.
use Rattle.std.proofs.Common.{◌≡◌, refl, ap, sym, ◌∙◌, subst, List, [], None, ℕ}
use Rattle.congestion_trait.specs.Calls.{Call}
use Rattle.congestion_trait.specs.Control.{Control}
use Rattle.dccp_endpoint.specs.Controlled.{End, EndStep, after_calls, with_control}
use Rattle.dccp_endpoint.specs.Effects.{Effect, Silent, effect_of_sending, end_after, frame_by}
use Rattle.dccp_endpoint.specs.End.{EndState, IsProper}
use Rattle.dccp_endpoint.specs.Outcomes.{HasCause, HasEffectOf, HasNoOtherCause, OnDropped}
use Rattle.dccp_endpoint.specs.Receiving.{receives}
use Rattle.dccp_endpoint.specs.Steps.{Step}
use Rattle.dccp_endpoint.proofs.Deriving.{widened}
use Rattle.dccp_endpoint.proofs.Exactly.{no_other_cause}
use Rattle.dccp_endpoint.proofs.Handing.{of_the_end}
use Rattle.dccp_endpoint.proofs.Walking.{receives-told, told_of_step}
use Rattle.dccp_states.specs.declared.outcome.Outcome.{Outcome}
use Rattle.dccp_states.specs.declared.outcome.Outcome.TheVariants.{Dropped, SentReset, Synced, Took, WasReset}

unchanged : (e : EndState) → IsProper e → end_after e (effect_of_sending e Silent) ≡ e
unchanged e proper = subst (λ (x : EndState). end_after x (effect_of_sending x Silent) ≡ x) (sym (widened e proper)) refl

module _ {C : Type 0} (control : Control C) (old : C) (e : EndState) (bytes : List ℕ) (proper : IsProper e) where
  dropped-step : (step : Step Outcome) (outcome : Outcome) → step.answer ≡ outcome → HasEffectOf e bytes outcome step.after step.frame step.calls
      → OnDropped outcome
      (((with_control control old step).after ≡ record { state = e; congestion = old }) × ((with_control control old step).frame ≡ None))
  dropped-step step (Dropped why) same has =
      let state : step.after ≡ e = has.after_is ∙ ap (end_after e) has.form ∙ unchanged e proper in
      let calls : step.calls ≡ [] = has.calls_are ∙ ap (λ (f : Effect). f.calls) has.form in (
        ap (λ (x : EndState). record { state = x; congestion = after_calls control old step.calls }) state
            ∙ ap (λ (cs : List Call). record { state = e; congestion = after_calls control old cs }) calls,
        has.frame_is ∙ ap (λ (f : Effect). frame_by e f f.sending) has.form,
      )
  dropped-step step _ same has = tt

  dropped-rests : (made : EndStep C Outcome) → made ≡ with_control control old (receives e bytes)
      → OnDropped made.answer ((made.after ≡ record { state = e; congestion = old }) × (made.frame ≡ None))
  dropped-rests made same =
      subst (λ (m : EndStep C Outcome). OnDropped m.answer ((m.after ≡ record { state = e; congestion = old }) × (m.frame ≡ None))) (sym same)
      (dropped-step (receives e bytes) (receives e bytes).answer refl (receives-told e bytes proper).effect)

-- what holds of the step of an end that receives bytes
pub record Received {C : Type 0} (control : Control C) (old : End C) (bytes : List ℕ) (made : EndStep C Outcome) : Type 0 where
  pub step : made ≡ with_control control old.congestion (receives old.state bytes)
  pub cause : HasCause old.state bytes made.answer
  pub no_other_cause : HasNoOtherCause old.state bytes made.answer
  pub dropped : OnDropped made.answer ((made.after ≡ old) × (made.frame ≡ None))
  pub effect : HasEffectOf old.state bytes made.answer made.after.state made.frame (receives old.state bytes).calls

-- of a proper end, by its parts
pub received : {C : Type 0} (control : Control C) (bytes : List ℕ) (inside old : End C) → inside ≡ old → IsProper inside.state → (made : EndStep C Outcome)
    → made ≡ with_control control inside.congestion (receives inside.state bytes) → Received control old bytes made
received control bytes inside old is proper made same =
    let e : EndState = inside.state in
    let whole = of_the_end control inside.congestion (receives e bytes) made same in
    let told = told_of_step e bytes _ proper whole in
    subst (λ (x : End _). Received control x bytes made) is
    (record {
      step = same;
      cause = told.cause;
      no_other_cause = no_other_cause e bytes _ whole;
      dropped = dropped-rests control inside.congestion e bytes proper made same;
      effect = told.effect;
    })
