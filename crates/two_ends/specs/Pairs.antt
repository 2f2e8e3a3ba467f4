-- A feature at its location, with what the two ends hold and what their frames say about it (RFC 4340, sections 6 and 6.1).
use Rattle.std.specs.Prelude.{ℕ, ◌+◌, ◌==◌, ◌||◌, Bool, List, [], ◌∷◌, Option, Some, None, Result, Ok, Err, if◌then◌else◌}
use Rattle.dccp_options.specs.Grammar.{Entry}
use Rattle.dccp_options.specs.declared.option.OptFault.{OptFault}
use Rattle.feature_lists.specs.Features.{feature_number}
use Rattle.feature_lists.specs.declared.features.Feature.{Feature}
use Rattle.feature_lists.specs.declared.features.Place.{Place}
use Rattle.feature_lists.specs.declared.features.Place.TheVariants.{Here, There}
use Rattle.dccp_endpoint.specs.End.{held_of}
use Rattle.feature_machine.specs.declared.stands.Held.{Held}
use Rattle.world_events.specs.declared.event.Side.{Side}
use Rattle.world_events.specs.declared.event.Side.TheVariants.{Client, Server}
use Rattle.two_ends.specs.World.{WorldState, half_of}
use Rattle.two_ends.specs.Frames.{options_in}

-- The feature at this side: the row Here of its end and the row There of the other's.
pub record FeatureAt : Type 0 where
  pub feature : Feature
  pub location : Side

-- where a side sees the feature
abbrev pub place_at : Side → Side → Place
place_at Client Client = Here
place_at Client Server = There
place_at Server Client = There
place_at Server Server = Here

-- what a side holds for the pair
abbrev pub held_at : WorldState → FeatureAt → Side → Held
held_at w pair side = held_of (half_of w side).end pair.feature (place_at side pair.location)

-- what a packet says of a pair
pub data PairStatement : Type 0 where
  Nothing : PairStatement
  Change : (values : List ℕ) → PairStatement
  Confirm : (values : List ℕ) → PairStatement

-- the option types with which a side speaks of a feature: Change L and Confirm L for one Here, Change R and Confirm R for one There
abbrev pub change_option : Place → ℕ
change_option Here = 32
change_option There = 34

-- Confirm L for a feature Here, and Confirm R for one There
abbrev pub confirm_option : Place → ℕ
confirm_option Here = 33
confirm_option There = 35

-- an option for this feature carries its number first, and values after it
abbrev pub values_for : ℕ → List ℕ → Option (List ℕ)
values_for number [] = None
values_for number (first ∷ values) = if first == number then Some values else None

-- the values that follow the feature number in a Change or a Confirm
abbrev pub change_or_confirm : Bool → List ℕ → PairStatement
change_or_confirm is_change values = if is_change then Change values else Confirm values

-- the first option for the pair is what the packet says of it (own)
abbrev pub said_then : Option (List ℕ) → Bool → PairStatement → PairStatement
said_then None is_change later = later
said_then (Some values) is_change later = change_or_confirm is_change values

-- of several options for one feature the first counts; a list without one says nothing
abbrev pub said_in : ℕ → Place → List (Result Entry OptFault) → PairStatement
said_in number place [] = Nothing
said_in number place (Err _ ∷ rest) = said_in number place rest
said_in number place (Ok entry ∷ rest) =
    if (entry.kind == change_option place) || (entry.kind == confirm_option place)
    then said_then (values_for number entry.body) (entry.kind == change_option place) (said_in number place rest)
    else said_in number place rest

-- what a frame of a side says of a pair
abbrev pub said_by : FeatureAt → Side → List ℕ → PairStatement
said_by pair side bytes = said_in (feature_number pair.feature) (place_at side pair.location) (options_in bytes)

-- how many options of a packet speak of a pair
abbrev pub one_if_said : Option (List ℕ) → ℕ
one_if_said None = 0
one_if_said (Some values) = 1

-- Changes and Confirms for a feature, counted over all options of a packet
abbrev pub said_times : ℕ → Place → List (Result Entry OptFault) → ℕ
said_times number place [] = 0
said_times number place (Err _ ∷ rest) = said_times number place rest
said_times number place (Ok entry ∷ rest) =
    if (entry.kind == change_option place) || (entry.kind == confirm_option place)
    then one_if_said (values_for number entry.body) + said_times number place rest
    else said_times number place rest

-- how often the frame of a side names the pair in a Change or a Confirm
abbrev pub times_said : FeatureAt → Side → List ℕ → ℕ
times_said pair side bytes = said_times (feature_number pair.feature) (place_at side pair.location) (options_in bytes)
