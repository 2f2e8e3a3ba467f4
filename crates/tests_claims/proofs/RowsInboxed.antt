-- Rows of what two ends with inboxes are compared by, computed from the definitions.
use Rattle.std.proofs.Common.{◌≡◌, refl, [], ◌∷◌, Some, None}
use Rattle.dccp_states.specs.declared.outcome.Outcome.TheVariants.{Dropped, SentReset, Synced, Took, WasReset}
use Rattle.dccp_states.specs.declared.outcome.Why.{Why}
use Rattle.two_inboxes.specs.Alike.{without_place}

-- an outcome loses the place of its data, and nothing else
what_outcomes_lose : (why : Why) →
    (without_place (Took (Some (16, 20))) ≡ without_place (Took (Some (20, 24)))) × (without_place (Took None) ≡ Took None)
    × (without_place (Dropped why) ≡ Dropped why) × (without_place (Synced 7) ≡ Synced 7) × (without_place (WasReset 2) ≡ WasReset 2)
    × (without_place (SentReset 5 (1 ∷ [])) ≡ SentReset 5 (1 ∷ []))
what_outcomes_lose why = (refl, refl, refl, refl, refl, refl)
