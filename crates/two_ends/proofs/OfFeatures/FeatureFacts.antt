-- What holds of two sides after every move. No fact says that something exists, so that search alone proves most steps.
use Rattle.std.proofs.Common.{◌≡◌, ℕ, ◌<◌, ◌≤◌, true, ◌⊎◌, List, [], length}
use Rattle.std.specs.Prelude.{Some, is_some, unwrap_or}
use Rattle.two_ends.specs.FeatureView.{FeatureNews, FeatureSide, carried_at, has_change, last_wish}
use Rattle.feature_machine.specs.declared.stands.Stand.TheVariants.{Stable}
use Rattle.two_ends.specs.FeatureView.FeatureNews.{Nothing, Change, Confirm}
use Rattle.two_ends.specs.FeatureMoves.{Rule, swapped}

-- the wish of a Change
abbrev pub changed : FeatureNews → List ℕ
changed Nothing = []
changed (Change wish) = wish
changed (Confirm acknowledged value wish) = []

-- what holds of one side by itself
pub record Own (side : FeatureSide) : Type 0 where
  pub opened_in : side.opened ≤ length side.frames
  -- a row that never opened is STABLE, and sent no Change
  pub unopened_stable : side.opened ≡ 0 → side.stand ≡ Stable
  pub unopened_silent : has_change side.frames ≡ true → 0 < side.opened
  -- the last opening is a Change, and from it on each wish that was sent is the active one
  pub opening_change : 0 < side.opened → carried_at side.frames side.opened ≡ Change side.active
  pub changes_active : (count : ℕ) (wish : List ℕ) → carried_at side.frames count ≡ Change wish → side.opened ≤ count
      → wish ≡ side.active
  pub confirms_active : (count acknowledged value : ℕ) (wish : List ℕ)
      → carried_at side.frames count ≡ Confirm acknowledged value wish → side.opened < count → wish ≡ side.active
  pub last_active : (wish : List ℕ) → last_wish side.frames ≡ Some wish → wish ≡ side.active

-- what holds of a side towards its peer
pub record Towards (rule : Rule) (side peer : FeatureSide) : Type 0 where
  pub greatest_in : side.greatest ≤ length peer.frames
  -- a Confirm acknowledges a frame that was taken, and that is a Change
  pub confirms_taken : (count acknowledged value : ℕ) (wish : List ℕ)
      → carried_at side.frames count ≡ Confirm acknowledged value wish → acknowledged ≤ side.greatest
  pub confirms_change : (count acknowledged value : ℕ) (wish : List ℕ)
      → carried_at side.frames count ≡ Confirm acknowledged value wish
      → carried_at peer.frames acknowledged ≡ Change (changed (carried_at peer.frames acknowledged))
  -- where its wish and that Change's lead to a value, a Confirm has that value
  pub confirms_ruled : (count acknowledged value : ℕ) (wish : List ℕ)
      → carried_at side.frames count ≡ Confirm acknowledged value wish
      → unwrap_or (rule wish (changed (carried_at peer.frames acknowledged))) value ≡ value
  -- a Confirm after its sender's last opening that answers the peer's last opening has its sender's present value
  pub confirms_value : (count acknowledged value : ℕ) (wish : List ℕ)
      → carried_at side.frames count ≡ Confirm acknowledged value wish → side.opened < count → 0 < peer.opened
      → peer.opened ≤ acknowledged → value ≡ side.value
  -- an opening of the peer that settled was heard here, and answered
  pub settled_heard : 0 < peer.opened → peer.stand ≡ Stable → peer.opened ≤ side.greatest
  pub settled_answered : 0 < peer.opened → peer.stand ≡ Stable → is_some (last_wish side.frames) ≡ true
  -- wishes are sent only once a row has opened
  pub wish_opened : is_some (last_wish side.frames) ≡ true → (0 < side.opened) ⊎ (0 < peer.opened)

-- what holds where both rows are STABLE: the values are equal, and what the rule says of the active wishes once a row opened
pub record Settled (rule : Rule) (side peer : FeatureSide) : Type 0 where
  pub equal : side.stand ≡ Stable → peer.stand ≡ Stable → side.value ≡ peer.value
  pub ruled : side.stand ≡ Stable → peer.stand ≡ Stable → (0 < side.opened) ⊎ (0 < peer.opened)
      → unwrap_or (rule side.active peer.active) side.value ≡ side.value

pub record Kept (rule : Rule) (side peer : FeatureSide) : Type 0 where
  pub own : Own side
  pub peers : Own peer
  pub out : Towards rule side peer
  pub back : Towards (swapped rule) peer side
  pub settled : Settled rule side peer
