-- What holds of two sides: they agree, and their values were given to them. Both depend only on frames, stands and values (own).
use Rattle.std.specs.Prelude.{◌≡◌, ℕ, Bool, Some, is_some, List, [], ◌∷◌, ◌||◌, IsTrue}
use Rattle.two_ends.specs.FeatureView.{FeatureNews, FeatureSide, carried_at, wish_carried, has_change, last_change, last_wish}
use Rattle.feature_machine.specs.declared.stands.Stand.TheVariants.{Stable}
use Rattle.two_ends.specs.FeatureView.FeatureNews.{Change}
use Rattle.two_ends.specs.FeatureMoves.{Rule}

-- some frame of either side carries a Change
abbrev pub was_negotiated : FeatureSide → FeatureSide → Bool
was_negotiated server client = has_change server.frames || has_change client.frames

-- both rows are STABLE
abbrev pub AreStable : FeatureSide → FeatureSide → Type 0
AreStable server client = (server.stand ≡ Stable) × (client.stand ≡ Stable)

-- If both rows are STABLE, their values are equal. If the feature was negotiated, both sides have sent a wish, and if the rule gives a value for
-- the last ones, it is that value.
pub record SidesAgree (rule : Rule) (server client : FeatureSide) : Type 0 where
  pub equal : AreStable server client → server.value ≡ client.value
  pub both_sent : AreStable server client → IsTrue (was_negotiated server client)
      → IsTrue (is_some (last_wish server.frames)) × IsTrue (is_some (last_wish client.frames))
  pub reconciled : AreStable server client → (servers clients : List ℕ) → last_wish server.frames ≡ Some servers
      → last_wish client.frames ≡ Some clients → (value : ℕ) → rule servers clients ≡ Some value → server.value ≡ value

-- A value is the initial one, or what the rule gives for a wish in some frame of the server and one in some frame of
-- the client.
pub data IsGiven (initial : ℕ) (rule : Rule) (servers clients : List FeatureNews) (value : ℕ) : Type 0 where
  Initial : value ≡ initial → IsGiven initial rule servers clients value
  Ruled : (count counterpart : ℕ) (servers_wish clients_wish : List ℕ) → wish_carried (carried_at servers count) ≡ Some servers_wish
      → wish_carried (carried_at clients counterpart) ≡ Some clients_wish → rule servers_wish clients_wish ≡ Some value
      → IsGiven initial rule servers clients value

-- both values are, whatever the stands
pub record SidesAreGiven (initial : ℕ) (rule : Rule) (server client : FeatureSide) : Type 0 where
  pub servers : IsGiven initial rule server.frames client.frames server.value
  pub clients : IsGiven initial rule server.frames client.frames client.value

-- A feature that is not negotiable: if both rows are STABLE, their values are equal, and if the feature was negotiated, the value is the one in
-- the last Change of the end where it is located.
pub record AgreeByLocation (location remote : FeatureSide) : Type 0 where
  pub equal : AreStable location remote → location.value ≡ remote.value
  pub last_sent : AreStable location remote → IsTrue (was_negotiated location remote)
      → last_change location.frames ≡ Some (location.value ∷ [])

-- A value is the initial one, or is in a Change of the location.
pub data IsToldValue (initial : ℕ) (locations : List FeatureNews) (value : ℕ) : Type 0 where
  Untold : value ≡ initial → IsToldValue initial locations value
  Told : (count : ℕ) → carried_at locations count ≡ Change (value ∷ []) → IsToldValue initial locations value

-- both values are, whatever the stands
pub record GivenByLocation (initial : ℕ) (location remote : FeatureSide) : Type 0 where
  pub locations : IsToldValue initial location.frames location.value
  pub remotes : IsToldValue initial location.frames remote.value
