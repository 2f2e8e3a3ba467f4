-- Agreement of the two ends, and where their values come from, read from the frames that they sent (RFC 4340, section
-- 6.3).
use Rattle.std.specs.Prelude.{◌≡◌, ℕ, ◌||◌, Bool, true, false, List, [], ◌∷◌, length, slice_get, Option, Some, None, IsSome, IsTrue}
use Rattle.std.specs.List.{list_any}
use Rattle.byteorder.specs.Endian.{big_number}
use Rattle.feature_lists.specs.Features.{described, initial_of}
use Rattle.feature_lists.specs.Lists.{reconciled}
use Rattle.feature_machine.specs.declared.stands.Stand.TheVariants.{Stable}
use Rattle.two_ends.specs.declared.frames.SentFrame.{SentFrame}
use Rattle.world_events.specs.declared.event.Side.{Side}
use Rattle.world_events.specs.declared.event.Side.TheVariants.{Client, Server}
use Rattle.two_ends.specs.Lists.{last_some}
use Rattle.two_ends.specs.World.{WorldState, half_of}
use Rattle.two_ends.specs.Pairs.{FeatureAt, PairStatement, Nothing, Change, Confirm, held_at, said_by}

-- a Change for the pair, not a Confirm or nothing
abbrev pub says_change : PairStatement → Bool
says_change Nothing = false
says_change (Change values) = true
says_change (Confirm values) = false

-- some frame of either side carries a Change for the pair
abbrev pub side_changed : WorldState → FeatureAt → Side → Bool
side_changed w pair side = list_any (λ frame. says_change (said_by pair side frame.bytes)) (half_of w side).frames

-- client or server has sent a Change for the feature at this location
abbrev pub pair_was_negotiated : WorldState → FeatureAt → Bool
pair_was_negotiated w pair = side_changed w pair Client || side_changed w pair Server

-- the preference list that a Change or a Confirm carries; a Confirm has one after its value, if any
abbrev pub confirmed_list : List ℕ → Option (List ℕ)
confirmed_list [] = None
confirmed_list (value ∷ []) = None
confirmed_list (value ∷ (first ∷ rest)) = Some (first ∷ rest)

-- the preference list of a Change is all of its values
abbrev pub list_said : PairStatement → Option (List ℕ)
list_said Nothing = None
list_said (Change values) = Some values
list_said (Confirm values) = confirmed_list values

-- the list in the last frame of a side that carries one for the pair
abbrev pub last_list_sent : WorldState → FeatureAt → Side → Option (List ℕ)
last_list_sent w pair side = last_some (λ (frame : SentFrame). list_said (said_by pair side frame.bytes)) (half_of w side).frames

-- the value of a feature that is not negotiable, in as many bytes as its Change carries
abbrev pub value_said : PairStatement → Option ℕ
value_said Nothing = None
value_said (Change values) = Some (big_number (length values) values)
value_said (Confirm values) = None

-- the value in the location's last Change
abbrev pub last_value : WorldState → FeatureAt → Option ℕ
last_value w pair = last_some (λ (frame : SentFrame). value_said (said_by pair pair.location frame.bytes)) (half_of w pair.location).frames

-- a feature that both ends reconcile by preference lists, the server's first (RFC 4340, section 6.3.1)
abbrev pub IsServerPriority : FeatureAt → Type 0
IsServerPriority pair = (described pair.feature).is_server_priority ≡ true

-- a feature whose value its location decides, and which the other end has to take (RFC 4340, section 6.3.2)
abbrev pub IsNotNegotiable : FeatureAt → Type 0
IsNotNegotiable pair = (described pair.feature).is_server_priority ≡ false

-- both ends call the feature settled
abbrev pub IsSettled : WorldState → FeatureAt → Type 0
IsSettled w pair = ((held_at w pair Client).stand ≡ Stable) × ((held_at w pair Server).stand ≡ Stable)

-- They hold the same value. If the feature was negotiated by lists, each side has sent one, and if the last ones share an entry, the value is
-- their reconciliation, the server's first. A value that is not negotiable is the last one that its location sent.
pub record AgreeOn (w : WorldState) (pair : FeatureAt) : Type 0 where
  pub equal : (held_at w pair Client).value ≡ (held_at w pair Server).value
  pub both_sent : IsServerPriority pair → IsTrue (pair_was_negotiated w pair)
      → IsSome (last_list_sent w pair Client) × IsSome (last_list_sent w pair Server)
  pub is_reconciled : IsServerPriority pair → (servers clients : List ℕ) (value : ℕ) → last_list_sent w pair Server ≡ Some servers
      → last_list_sent w pair Client ≡ Some clients → reconciled servers clients ≡ Some value → (held_at w pair Server).value ≡ value
  pub is_last_sent : IsNotNegotiable pair → IsTrue (pair_was_negotiated w pair) → last_value w pair ≡ Some (held_at w pair pair.location).value

-- for every feature at every location, ends that are both STABLE agree
abbrev pub Agree : WorldState → Type 0
Agree w = (pair : FeatureAt) → IsSettled w pair → AgreeOn w pair

-- A list is in some frame of a side.
pub record HasSent (w : WorldState) (pair : FeatureAt) (side : Side) (list : List ℕ) : Type 0 where
  pub index : ℕ
  pub frame : SentFrame
  pub is_there : slice_get (half_of w side).frames index ≡ Some frame
  pub is_said : list_said (said_by pair side frame.bytes) ≡ Some list

-- A value is in some Change of the location.
pub record HasTold (w : WorldState) (pair : FeatureAt) (value : ℕ) : Type 0 where
  pub index : ℕ
  pub frame : SentFrame
  pub is_there : slice_get (half_of w pair.location).frames index ≡ Some frame
  pub is_said : value_said (said_by pair pair.location frame.bytes) ≡ Some value

-- where a value may come from: the beginning, two lists that were sent, or a value that its location sent
pub data Origin (w : WorldState) (pair : FeatureAt) (value : ℕ) : Type 0 where
  Initial : value ≡ initial_of pair.feature → Origin w pair value
  Reconciled : (servers clients : List ℕ) → IsServerPriority pair → HasSent w pair Server servers → HasSent w pair Client clients
      → reconciled servers clients ≡ Some value → Origin w pair value
  Told : IsNotNegotiable pair → HasTold w pair value → Origin w pair value

-- no end holds a value that comes from elsewhere
abbrev pub Given : WorldState → Type 0
Given w = (pair : FeatureAt) (side : Side) → Origin w pair (held_at w pair side).value
