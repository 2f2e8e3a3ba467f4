-- What the remote row of a feature that is not negotiable confirms.
use Rattle.std.proofs.Common.{◌≡◌, ℕ, ◌<◌, ◌≤◌, inl, List, [], ◌∷◌, ap, sym, ◌∙◌, arith}
use Rattle.std.proofs.Math.Logic.{∥∥₁_elim}
use Rattle.std.proofs.Props.{props}
use Rattle.two_ends.specs.FeatureView.{FeatureSide, carried_at}
use Rattle.two_ends.specs.FeatureView.FeatureNews.{Change, Confirm}
use Rattle.feature_machine.specs.declared.stands.Stand.TheVariants.{Stable}
use Rattle.two_ends.specs.FeatureMoves.{IsReachable, own_value, at_server, at_client}
use Rattle.two_ends.specs.FeatureFacts.{IsConfirmed}
use Rattle.two_ends.proofs.OfFeatures.FeatureFacts.{Kept, changed}
use Rattle.two_ends.proofs.OfFeatures.FeatureFrames.{frame_in, change_seen}
use Rattle.two_ends.proofs.OfFeatures.Located.{Located, server_located, client_located, client_kept, single_value}
use Rattle.two_ends.proofs.OfFeatures.FeatureSteps.{reached_keeps}

module _ (location remote : FeatureSide) (kept : Kept own_value location remote) (facts : Located location remote) where
  remote_stable : remote.stand ≡ Stable
  remote_stable = kept.peers.unopened_stable facts.remote_unopened

  -- the wish of the Change that a Confirm acknowledges is its value
  changed_value : (count acknowledged value : ℕ) (wish : List ℕ) → carried_at remote.frames count ≡ Confirm acknowledged value wish
      → changed (carried_at location.frames acknowledged) ≡ value ∷ []
  changed_value count acknowledged value wish carried =
      let change = kept.back.confirms_change count acknowledged value wish carried in
      single_value (changed (carried_at location.frames acknowledged)) wish value
      (facts.changes_single acknowledged (changed (carried_at location.frames acknowledged)) change)
      (kept.back.confirms_ruled count acknowledged value wish carried)

  told : (count acknowledged value : ℕ) (wish : List ℕ) → carried_at remote.frames count ≡ Confirm acknowledged value wish
      → carried_at location.frames acknowledged ≡ Change (value ∷ [])
  told count acknowledged value wish carried =
      kept.back.confirms_change count acknowledged value wish carried
      ∙ ap (λ list. Change list) (changed_value count acknowledged value wish carried)

  opened : (count acknowledged value : ℕ) (wish : List ℕ) → carried_at remote.frames count ≡ Confirm acknowledged value wish
      → 0 < location.opened
  opened count acknowledged value wish carried =
      let change = told count acknowledged value wish carried in grind (arith, change_seen location.frames acknowledged)

  confirmed : (count acknowledged value : ℕ) (wish : List ℕ) → carried_at remote.frames count ≡ Confirm acknowledged value wish
      → location.opened ≤ acknowledged → (value ≡ remote.value) × (location.active ≡ value ∷ [])
  confirmed count acknowledged value wish carried answers =
      let change = told count acknowledged value wish carried in
      let begun = opened count acknowledged value wish carried in
      let unopened = facts.remote_unopened in
      let stands : remote.opened < count = grind (arith, frame_in) in (
        kept.back.confirms_value count acknowledged value wish carried stands begun answers,
        sym (kept.own.changes_active acknowledged (value ∷ []) change answers),
      )

  settled : 0 < location.opened → location.stand ≡ Stable
      → (location.opened ≤ remote.greatest) × (location.active ≡ location.value ∷ []) × (remote.value ≡ location.value)
  settled begun stable = (
    kept.back.settled_heard begun stable,
    single_value location.active remote.active location.value (facts.active_single begun) (kept.settled.ruled stable remote_stable (inl begun)),
    sym (kept.settled.equal stable remote_stable),
  )

  confirmed_by_remote : IsConfirmed location remote
  confirmed_by_remote = record {
    remote_stable = remote_stable;
    told = told;
    changes_active = kept.own.changes_active;
    confirmed = confirmed;
    settled = settled;
  }

pub server_confirmed : (initial : ℕ) (server client : FeatureSide) → IsReachable (at_server initial) server client → IsConfirmed server client
server_confirmed initial server client reachable =
    ∥∥₁_elim reachable (hlevel props) (λ reached. confirmed_by_remote server client (reached_keeps (at_server initial) server client reached)
    (server_located initial server client reached))

pub client_confirmed : (initial : ℕ) (server client : FeatureSide) → IsReachable (at_client initial) server client → IsConfirmed client server
client_confirmed initial server client reachable =
    ∥∥₁_elim reachable (hlevel props) (λ reached. confirmed_by_remote client server (client_kept initial server client reached)
    (client_located initial server client reached))
