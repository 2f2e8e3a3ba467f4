-- What the owner of an end may conclude from the values of features that it holds, besides what `Safe` says (RFC 4340, section 6).
use Rattle.std.specs.Prelude.{◌≡◌, ℕ, false, List, Some, None}
use Rattle.two_ends.specs.FeatureRows.{entries_of}
use Rattle.feature_lists.specs.Features.{initial_of}
use Rattle.feature_machine.specs.Negotiating.{row_at}
use Rattle.feature_machine.specs.declared.row.Row.{Row}
use Rattle.feature_machine.specs.declared.stands.Stand.TheVariants.{Stable}
use Rattle.world_events.specs.declared.event.Side.{Side}
use Rattle.two_ends.specs.Negotiated.{IsServerPriority, last_list_sent, pair_was_negotiated}
use Rattle.two_ends.specs.Pairs.{FeatureAt, held_at, place_at}
use Rattle.two_ends.specs.World.{WorldState, half_of}

-- the row of a side for a pair
abbrev pub row_for : WorldState → FeatureAt → Side → Row
row_for w pair side = row_at (half_of w side).end.rows pair.feature (place_at side pair.location)

-- What no frame asks for has its initial value at both ends, whatever their stands.
abbrev pub KeepsInitialValues : WorldState → Type 0
KeepsInitialValues w = (pair : FeatureAt) (side : Side) → pair_was_negotiated w pair ≡ false → (held_at w pair side).value ≡ initial_of pair.feature

-- The last list that an end sent for a pair, if it sent one, is the active one of its row: what the owner asked for last, as far as it went out.
-- If the row is STABLE, no later request waits.
pub record SendsWhatIsAsked (w : WorldState) (pair : FeatureAt) (side : Side) : Type 0 where
  pub last_is_active : IsServerPriority pair → (list : List ℕ) → last_list_sent w pair side ≡ Some list → list ≡ entries_of (row_for w pair side).active
  pub nothing_waits : (held_at w pair side).stand ≡ Stable → (row_for w pair side).pending ≡ None

-- the same for every pair at either end
abbrev pub AllIsAsked : WorldState → Type 0
AllIsAsked w = (pair : FeatureAt) (side : Side) → SendsWhatIsAsked w pair side
