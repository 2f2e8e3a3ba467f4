-- What changes the value of a feature that is negotiated by lists (RFC 4340, section 6.3.1).
use Rattle.std.specs.Prelude.{◌≡◌, ◌≢◌, ℕ, List, Option, Some}
use Rattle.two_ends.specs.FeatureRows.{entries_of}
use Rattle.feature_lists.specs.Lists.{reconciled}
use Rattle.world_events.specs.Actors.{other}
use Rattle.world_events.specs.declared.event.Side.{Side}
use Rattle.world_events.specs.declared.event.Side.TheVariants.{Client, Server}
use Rattle.two_ends.specs.Asked.{row_for}
use Rattle.two_ends.specs.Negotiated.{HasSent, IsServerPriority}
use Rattle.two_ends.specs.Pairs.{FeatureAt, held_at}
use Rattle.two_ends.specs.World.{WorldState}

-- the first entry of the server's list that the client's has, by a side's own list and one of the other side's
abbrev pub reconciled_for : Side → List ℕ → List ℕ → Option ℕ
reconciled_for Client own theirs = reconciled theirs own
reconciled_for Server own theirs = reconciled own theirs

-- The value that a side holds in the new world is the first entry that its active list in the old world shares with a list in a frame of the
-- other side.
pub record IsShared (old new : WorldState) (pair : FeatureAt) (side : Side) : Type 0 where
  pub theirs : List ℕ
  pub was_sent : HasSent old pair (other side) theirs
  pub is_first : reconciled_for side (entries_of (row_for old pair side).active) theirs ≡ Some (held_at new pair side).value

-- no value of a feature that is negotiated by lists changes otherwise
abbrev pub ChangesByLists : WorldState → WorldState → Type 0
ChangesByLists old new = (pair : FeatureAt) (side : Side) → IsServerPriority pair → (held_at new pair side).value ≢ (held_at old pair side).value
    → IsShared old new pair side
