-- What an end may wish for a feature (own).
use Rattle.std.specs.Prelude.{◌≡◌, ℕ, ◌≤◌, ◌==◌, ◌&&◌, ◌||◌, not, nat_le, Bool, true, false, List, length, Option, Some, None, Result, Ok, Err, if◌then◌else◌, slice_index, All, AllPairs, ◌≢◌}
use Rattle.std.specs.List.{list_all}
use Rattle.feature_lists.specs.Features.{described, is_permitted, usual_values}
use Rattle.feature_lists.specs.Lists.{is_distinct}
use Rattle.feature_lists.specs.declared.features.Feature.{Feature}
use Rattle.feature_lists.specs.declared.features.Place.{Place}
use Rattle.feature_lists.specs.declared.features.Place.TheVariants as place
use Rattle.feature_lists.specs.declared.wishes.PreferFault.{PreferFault}
use Rattle.feature_lists.specs.declared.wishes.PreferFault.TheVariants as fault
use Rattle.feature_lists.specs.declared.wishes.Wanted.{Wanted}
use Rattle.feature_lists.specs.declared.wishes.Wanted.TheVariants as wanted

-- this many values are allowed: one to eight, and for a non-negotiable feature just one
abbrev pub is_counted : Feature → ℕ → Bool
is_counted feature count = nat_le 1 count && nat_le count 8 && ((described feature).is_server_priority || count == 1)

-- an allowed number of values, each permitted, and none twice
abbrev pub is_allowed : Feature → Place → List ℕ → Bool
is_allowed feature place values =
    is_counted feature (length values) && list_all (is_permitted feature place) values && is_distinct values

-- an end may wish for the feature there: for a non-negotiable one, only if it is located at this end
abbrev pub is_ours : Feature → Place → Bool
is_ours feature place.Here = true
is_ours feature place.There = (described feature).is_server_priority

-- an end may wish for the feature there
abbrev pub IsOurs : Feature → Place → Type 0
IsOurs feature place = is_ours feature place ≡ true

-- an end may not: the feature is non-negotiable, and the place is the other end
abbrev pub IsNotOurs : Feature → Place → Type 0
IsNotOurs feature place = is_ours feature place ≡ false

-- the wish for these values: a list, or the one number of a non-negotiable feature
abbrev pub wanted_of : Feature → List ℕ → Wanted
wanted_of feature values =
    if (described feature).is_server_priority then wanted.List values else wanted.Number (slice_index values 0)

-- the wish, or the first refusal
abbrev pub wish_of : Feature → Place → List ℕ → Result Wanted PreferFault
wish_of feature place values =
    if not (is_allowed feature place values) then Err fault.BadList
    else if not (is_ours feature place) then Err fault.NotOurs
    else Ok (wanted_of feature values)

-- the default wish of an end, if it may have one
abbrev pub usual_of : Feature → Place → Option Wanted
usual_of feature place =
    if is_ours feature place then Some (wanted_of feature (usual_values feature place)) else None

-- the wish is one that an end may have for the feature at this place
abbrev pub is_wish : Feature → Place → Wanted → Bool
is_wish feature place (wanted.List list) = (described feature).is_server_priority && is_allowed feature place list
is_wish feature place (wanted.Number number) =
    not (described feature).is_server_priority && is_ours feature place && is_permitted feature place number

-- the same as `is_allowed`, with the meaning of each part
pub record IsAllowed (feature : Feature) (place : Place) (values : List ℕ) : Type 0 where
  pub some : 1 ≤ length values
  pub few : length values ≤ 8
  pub permitted : All (λ value. is_permitted feature place value ≡ true) values
  pub distinct : AllPairs (λ one other. one ≢ other) values
  pub single : (described feature).is_server_priority ≡ false → length values ≡ 1
