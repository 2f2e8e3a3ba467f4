-- What the laws say about a pair that a schedule with inboxes reached, and about outcomes without their place.
use Rattle.std.proofs.Common.{◌≡◌, ◌⊎◌, inl, inr, refl, sym, subst, ap, ◌∙◌, ℕ, Some, None}
use Rattle.congestion_trait.specs.Control.{Control}
use Rattle.dccp_states.specs.declared.outcome.Outcome.{Outcome}
use Rattle.dccp_states.specs.declared.outcome.Outcome.TheVariants as outcome
use Rattle.dccp_states.specs.declared.outcome.Why.{Why}
use Rattle.tests_claims.specs.Inboxed.{ReachedWithInboxes}
use Rattle.two_ends.specs.Controlled.{plays_from_start}
use Rattle.two_inboxes.specs.Alike.{without_place}
use Rattle.two_inboxes.specs.Apart.{TellOfTheirData, TellsOfItsData}
use Rattle.two_inboxes.specs.Inboxes.{InboxPair, RunAsAlone, of_ends}
use Rattle.world_events.specs.declared.event.Side.{Side}

module _ {C : Type 0} (control : Control C) where
  pub alone : RunAsAlone control → (w : InboxPair C) → (r : ReachedWithInboxes control w)
      → w.ends ≡ plays_from_start control r.client r.server r.for_client r.for_server (of_ends r.events)
  alone law w r =
      ap (λ (x : InboxPair C). x.ends) r.same
      ∙ law r.client r.server r.for_client r.for_server r.client_most r.server_most r.events r.client_fits r.server_fits (r.there, r.back)

  pub tells : TellOfTheirData control → (w : InboxPair C) → ReachedWithInboxes control w → (side : Side) → TellsOfItsData w side
  tells law w r side =
      subst (λ (x : InboxPair C). TellsOfItsData x side) (sym r.same)
      (law
      r.client
      r.server
      r.for_client
      r.for_server
      r.client_most
      r.server_most
      r.events
      r.is_client
      r.is_server
      r.client_fits
      r.server_fits
      (r.there, r.back)
      side)

-- Only the place of data is left out of an outcome.
all-but-the-place : (o : Outcome) → (o ≡ without_place o) ⊎ ((place : ℕ × ℕ) × (o ≡ outcome.Took (Some place)))
all-but-the-place (outcome.Took (Some place)) = inr (place, refl)
all-but-the-place (outcome.Took None) = inl refl
all-but-the-place (outcome.Dropped why) = inl refl
all-but-the-place (outcome.Synced number) = inl refl
all-but-the-place (outcome.WasReset code) = inl refl
all-but-the-place (outcome.SentReset code detail) = inl refl

-- An outcome is dropped, took nothing or took data, if another is that differs only in the place of its data.
pub dropped-so : (o : Outcome) (why : Why) → without_place o ≡ outcome.Dropped why → o ≡ outcome.Dropped why
dropped-so o why same =
    elim (all-but-the-place o) [ inl is ↦ is ∙ same | inr took ↦ cc (sym same ∙ ap without_place took.1) ]

pub quiet-so : (o : Outcome) → without_place o ≡ outcome.Took None → o ≡ outcome.Took None
quiet-so o same = elim (all-but-the-place o) [ inl is ↦ is ∙ same | inr took ↦ cc (sym same ∙ ap without_place took.1) ]

pub delivered-so : (o : Outcome) → without_place o ≡ outcome.Took (Some (0, 0)) → (other : ℕ × ℕ) × (o ≡ outcome.Took (Some other))
delivered-so o same = elim (all-but-the-place o) [ inl is ↦ ((0, 0), is ∙ same) | inr took ↦ took ]
