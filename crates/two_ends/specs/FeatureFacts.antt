-- What holds of a side towards its peer, whatever moves both made (own).
use Rattle.std.specs.Prelude.{◌≡◌, ℕ, ◌<◌, ◌≤◌, List, [], ◌∷◌, Some, IsTrue}
use Rattle.feature_machine.specs.declared.stands.Stand.TheVariants.{Stable}
use Rattle.two_ends.specs.FeatureView.{FeatureSide, carried_at, carries_change}
use Rattle.two_ends.specs.FeatureView.FeatureNews.{Change, Confirm}
use Rattle.two_ends.specs.FeatureMoves.{Rule}

-- what the frames of a side say about its row, towards its peer
pub record SpeaksForItsRow (rule : Rule) (side peer : FeatureSide) : Type 0 where
  -- from its last opening on, its Changes carry its active wish, and its Confirms after that do; if it never opened, all do
  pub changes_active : (count : ℕ) (wish : List ℕ) → carried_at side.frames count ≡ Change wish → side.opened ≤ count
      → wish ≡ side.active
  pub confirms_active : (count acknowledged value : ℕ) (wish : List ℕ)
      → carried_at side.frames count ≡ Confirm acknowledged value wish → side.opened < count → wish ≡ side.active
  -- a Confirm acknowledges a frame that was taken and carries a Change; if its wish and that of the Change lead to a value, it has this value
  pub confirms_taken : (count acknowledged value : ℕ) (wish : List ℕ)
      → carried_at side.frames count ≡ Confirm acknowledged value wish
      → (acknowledged ≤ side.greatest) × IsTrue (carries_change (carried_at peer.frames acknowledged))
  pub confirms_ruled : (count acknowledged value agreed : ℕ) (wish other : List ℕ)
      → carried_at side.frames count ≡ Confirm acknowledged value wish → carried_at peer.frames acknowledged ≡ Change other
      → rule wish other ≡ Some agreed → value ≡ agreed
  -- of two Confirms the later acknowledges the later frame; no other fact needs this
  pub confirms_rise : (earlier later acknowledged other value held : ℕ) (wish list : List ℕ)
      → carried_at side.frames earlier ≡ Confirm acknowledged value wish → carried_at side.frames later ≡ Confirm other held list
      → earlier < later → acknowledged < other
  -- an opening of the peer that settled was heard here
  pub settled_heard : 0 < peer.opened → peer.stand ≡ Stable → peer.opened ≤ side.greatest
  -- A Confirm that the peer could still take and that answers the peer's last opening has the active wish and the value of its side, unless the
  -- side has opened after it and is not STABLE. This follows from the other facts, which moves keep.
  pub takable : (count acknowledged value : ℕ) (wish : List ℕ)
      → carried_at side.frames count ≡ Confirm acknowledged value wish → peer.greatest < count → peer.opened ≤ acknowledged
      → (count < side.opened → side.stand ≡ Stable) → (wish ≡ side.active) × (value ≡ side.value)

-- The same for a feature that is not negotiable: the remote row confirms what the location sent.
pub record IsConfirmed (location remote : FeatureSide) : Type 0 where
  pub remote_stable : remote.stand ≡ Stable
  -- a Confirm has the value of the Change that it acknowledges
  pub told : (count acknowledged value : ℕ) (wish : List ℕ) → carried_at remote.frames count ≡ Confirm acknowledged value wish
      → carried_at location.frames acknowledged ≡ Change (value ∷ [])
  -- from its last opening on, the location's Changes carry its active value
  pub changes_active : (count : ℕ) (wish : List ℕ) → carried_at location.frames count ≡ Change wish → location.opened ≤ count
      → wish ≡ location.active
  -- a Confirm that answers the location's last opening has the remote row's value, which is the location's active one
  pub confirmed : (count acknowledged value : ℕ) (wish : List ℕ) → carried_at remote.frames count ≡ Confirm acknowledged value wish
      → location.opened ≤ acknowledged → (value ≡ remote.value) × (location.active ≡ value ∷ [])
  -- an opening that settled was heard at the peer, and both values are the active one
  pub settled : 0 < location.opened → location.stand ≡ Stable
      → (location.opened ≤ remote.greatest) × (location.active ≡ location.value ∷ []) × (remote.value ≡ location.value)
