-- What a step on bytes leaves and sends, depending on its outcome.
use Rattle.std.proofs.Common.{◌≡◌, ◌∙◌, ◌⊎◌, inl, inr, refl, ap, sym, subst, ℕ, not, Bool, true, List, [], Option, Some}
use Rattle.congestion_trait.specs.Calls.{Call}
use Rattle.dccp_endpoint.specs.Causes.{AreTurns}
use Rattle.dccp_endpoint.specs.Effects.{Effect, Transmission, Silent, Next, WithoutConnection, frame_by, is_acking_sent}
use Rattle.dccp_endpoint.specs.End.{EndState}
use Rattle.dccp_endpoint.specs.Inputs.{Arrives}
use Rattle.dccp_endpoint.specs.Outcomes.{HasCause, HasEffectOf, HasForm, IsReset, OutOfWindow, Unexpected, NoConnection, OtherService, NoAnswer, WrongService, Faulted, AnswersClose, effect_of_reset}
use Rattle.dccp_packets.specs.Outgoing.{Outgoing}
use Rattle.dccp_states.specs.declared.outcome.Fault.{Fault}
use Rattle.dccp_states.specs.declared.outcome.Outcome.{Outcome}
use Rattle.dccp_states.specs.declared.outcome.Outcome.TheVariants.{Took, Dropped, Synced, WasReset, SentReset}
use Rattle.feature_machine.specs.Turns.{Turn, turned}

-- something goes out
abbrev IsSaid : Transmission → Type 0
IsSaid Silent = ⊥
IsSaid (Next packet) = Unit {0}
IsSaid (WithoutConnection number packet) = Unit {0}

said-some : (e : EndState) (f : Effect) (sending : Transmission) → IsSaid sending → (frame : Outgoing) × (frame_by e f sending ≡ Some frame)
said-some e f Silent said = absurd said
said-some e f (Next packet) said = (_, refl)
said-some e f (WithoutConnection number packet) said = (_, refl)

-- a Sync goes out, and neither the phase nor a row moves
record IsSyncing (e : EndState) (f : Effect) : Type 0 where
  stays : f.phase ≡ e.phase
  still : f.turns ≡ []
  said : IsSaid f.sending

reset-said : (e : EndState) (bytes : List ℕ) (fault : Fault) (why : IsReset e bytes fault) → IsSaid (effect_of_reset e bytes fault why).sending
reset-said e bytes _ (NoConnection a came is) = tt
reset-said e bytes _ (OtherService a came is other) = tt
reset-said e bytes _ (NoAnswer a came not) = tt
reset-said e bytes _ (WrongService a entered valid expected other) = tt
reset-said e bytes _ (Faulted a entered first admitted is) = tt
reset-said e bytes _ (AnswersClose a entered h to admitted is row) = tt

-- an acknowledgement is due if nothing goes out
owed-or-said : (owed : Bool) (sending : Transmission) → owed ≡ not (is_acking_sent sending) → (owed ≡ true) ⊎ IsSaid sending
owed-or-said owed Silent is = inl is
owed-or-said owed (Next packet) is = inr tt
owed-or-said owed (WithoutConnection number packet) is = inr tt

-- what an outcome says about what goes out
abbrev Tells : EndState → Effect → Outcome → Type 0
Tells e f (Synced number) = IsSyncing e f
Tells e f (SentReset code detail) = IsSaid f.sending
Tells e f (Took delivered) = (f.owed ≡ true) ⊎ IsSaid f.sending
Tells e f (Dropped why) = Unit {0}
Tells e f (WasReset code) = Unit {0}

telling : (e : EndState) (bytes : List ℕ) (o : Outcome) (cause : HasCause e bytes o) (f : Effect) (turns : AreTurns e (Arrives bytes) f.hearing f.turns)
    → HasForm e bytes o cause f turns → Tells e f o
telling e bytes (Synced told) (OutOfWindow a came check bad) f turns form =
    record {
      stays = ap (λ (x : Effect). x.phase) form;
      still = ap (λ (x : Effect). x.turns) form;
      said = subst (λ (x : Effect). IsSaid x.sending) (sym form) tt;
    }
telling e bytes (Synced told) (Unexpected a entered valid out same) f turns form =
    record {
      stays = ap (λ (x : Effect). x.phase) form;
      still = ap (λ (x : Effect). x.turns) form;
      said = subst (λ (x : Effect). IsSaid x.sending) (sym form) tt;
    }
telling e bytes (SentReset code detail) cause f turns form =
    subst (λ (x : Effect). IsSaid x.sending) (sym form) (reset-said e bytes cause.fault cause.why)
telling e bytes (Took delivered) cause f turns form = owed-or-said f.owed f.sending form.owes
telling e bytes (Dropped why) cause f turns form = tt
telling e bytes (WasReset code) cause f turns form = tt

module _ (e : EndState) (bytes : List ℕ) (o : Outcome) (after : EndState) (frame : Option Outgoing) (calls : List Call)
    (has : HasEffectOf e bytes o after frame calls) where
  told : (other : Outcome) → o ≡ other → Tells e has.effect other
  told other is = subst (Tells e has.effect) is (telling e bytes o has.cause has.effect has.because.turns has.form)

  goes-out : IsSaid has.effect.sending → (out : Outgoing) × (frame ≡ Some out)
  goes-out said = let some = said-some e has.effect has.effect.sending said in (some.0, has.frame_is ∙ some.1)

  pub synced-so : (number : ℕ) → o ≡ Synced number → ((out : Outgoing) × (frame ≡ Some out)) × ((after.phase ≡ e.phase) × (after.rows ≡ e.rows))
  synced-so number is =
      let s = told (Synced number) is in (
        goes-out s.said,
        (
          ap (λ (x : EndState). x.phase) has.after_is ∙ s.stays,
          ap (λ (x : EndState). x.rows) has.after_is ∙ ap (λ (turns : List Turn). turned e.rows turns) s.still,
        ),
      )

  pub reset-so : (code : ℕ) (detail : List ℕ) → o ≡ SentReset code detail → (out : Outgoing) × (frame ≡ Some out)
  reset-so code detail is = goes-out (told (SentReset code detail) is)

  pub taken-so : (place : Option (ℕ × ℕ)) → o ≡ Took place → (after.owed ≡ true) ⊎ ((out : Outgoing) × (frame ≡ Some out))
  taken-so place is =
      elim (told (Took place) is) [
        | inl owed ↦ inl (ap (λ (x : EndState). x.owed) has.after_is ∙ owed)
        | inr said ↦ inr (goes-out said)
      ]
