-- What the owner of an end asked for last, and what a row does with it (RFC 4340, section 6; the call `prefer` is own).
use Rattle.std.specs.Prelude.{◌≡◌, ℕ, List, [], ◌∷◌, ◌++◌, Ok}
use Rattle.congestion_trait.specs.Control.{Control}
use Rattle.two_ends.specs.FeatureRows.{entries_of}
use Rattle.feature_lists.specs.declared.features.Feature.{Feature}
use Rattle.feature_lists.specs.declared.features.Place.{Place}
use Rattle.feature_machine.specs.Lists.{listed_at}
use Rattle.feature_machine.specs.Negotiating.{row_at}
use Rattle.feature_machine.specs.declared.row.Row.{Row}
use Rattle.feature_machine.specs.declared.stands.Stand.TheVariants.{Unstable}
use Rattle.world_events.specs.declared.event.Event.{Event}
use Rattle.world_events.specs.declared.event.Event.TheVariants as event
use Rattle.dccp_states.specs.declared.seen.Seen.TheVariants as seen
use Rattle.world_events.specs.declared.event.Side.{Side}
use Rattle.two_ends.specs.Controlled.{ControlledWorld, controlled_after, happens_to, plays}
use Rattle.two_ends.specs.World.{WorldState, half_of}

-- the row of a side for a feature at a place
abbrev pub row_of : WorldState → Side → Feature → Place → Row
row_of w side feature place = row_at (half_of w side).end.rows feature place

-- the values with which a side is configured for a feature at a place
abbrev pub values_configured : WorldState → Side → Feature → Place → List ℕ
values_configured w side feature place = entries_of (listed_at (half_of w side).end.config.lists feature place).wish

-- The event asks this side for other values of the feature.
abbrev pub AsksFor : Side → Feature → Place → Event → Type 0
AsksFor side feature place (event.Prefer asked other there values) = (asked ≡ side) × (other ≡ feature) × (there ≡ place)
AsksFor side feature place _ = ⊥

-- The event takes place, and its call is not refused.
pub record IsAccepted {C : Type 0} (control : Control C) (w : ControlledWorld C) (given : Event) : Type 0 where
  pub after : ControlledWorld C
  pub takes_place : happens_to control w given ≡ Ok (record { after = after; seen = seen.Called (Ok tt) })

-- In this schedule the side is asked for no values of the feature, or refuses all of them.
abbrev pub AsksNothing : {C : Type 0} → Control C → ControlledWorld C → List Event → Side → Feature → Place → Type 0
AsksNothing control w [] side feature place = Unit {0}
AsksNothing control w (first ∷ later) side feature place =
    (AsksFor side feature place first → IsAccepted control w first → ⊥)
    × AsksNothing control (controlled_after w (happens_to control w first)) later side feature place

-- These values are the last ones for which a side was asked and which it did not refuse.
pub record IsLastAsked {C : Type 0} (control : Control C) (w : ControlledWorld C) (events : List Event) (side : Side) (feature : Feature) (place : Place) (values : List ℕ)
    : Type 0 where
  pub before : List Event
  pub since : List Event
  pub in_order : events ≡ before ++ event.Prefer side feature place values ∷ since
  pub accepted : IsAccepted control (plays control w before) (event.Prefer side feature place values)
  pub nothing_since : AsksNothing control accepted.after since side feature place

-- These values are a row's active ones, or in UNSTABLE those that wait for its next Change.
pub record WantsValues (row : Row) (values : List ℕ) : Type 0 where
  pub active : (row.stand ≡ Unstable → ⊥) → entries_of row.active ≡ values
  pub waiting : row.stand ≡ Unstable → entries_of row.pending ≡ values
