-- What happens to an end's rows, in order (own).
use Rattle.std.specs.Prelude.{◌≡◌, ◌==◌, ℕ, Bool, true, Option, Some, None, List, [], ◌∷◌, map, filter, All}
use Rattle.feature_lists.specs.Wishes.{is_wish}
use Rattle.feature_lists.specs.declared.features.Feature.{Feature}
use Rattle.feature_lists.specs.declared.features.Place.{Place}
use Rattle.feature_machine.specs.declared.row.Row.{Row}
use Rattle.feature_machine.specs.Lists.{index_of}
use Rattle.feature_machine.specs.Negotiating.{stepped}
use Rattle.feature_machine.specs.Rows.{RowEvent, Prefers, RowAnswer, Confirms, Ignored, Settled, Fatal, Opens, Waits, Quiet, row_step}

-- one event of the row of a feature at a place
pub record Turn : Type 0 where
  pub feature : Feature
  pub place : Place
  pub event : RowEvent

-- an event happens to the row of a feature at a place
abbrev pub turn : Feature → Place → RowEvent → Turn
turn feature place event = record { feature = feature; place = place; event = event }

-- the rows after turns
abbrev pub turned : List Row → List Turn → List Row
turned rows [] = rows
turned rows (first ∷ rest) = turned (stepped rows first.feature first.place first.event).rows rest

-- the turn is one of this row; its place among the eighteen says which
abbrev pub is_turn_of : Feature → Place → Turn → Bool
is_turn_of feature place given = index_of given.feature given.place == index_of feature place

-- the events of one row among turns
abbrev pub events_of : Feature → Place → List Turn → List RowEvent
events_of feature place turns = map (λ given. given.event) (filter (is_turn_of feature place) turns)

-- a row after events
abbrev pub row_turned : Row → List RowEvent → Row
row_turned row [] = row
row_turned row (event ∷ events) = row_turned (row_step row event).row events

-- the data of the Confirm that an answer is, if it is one
abbrev pub confirm_of : RowAnswer → Option (List ℕ)
confirm_of (Confirms body) = Some body
confirm_of Ignored = None
confirm_of Settled = None
confirm_of (Fatal code) = None
confirm_of Opens = None
confirm_of Waits = None
confirm_of Quiet = None

-- the data of the Confirm that is due for what the row heard, if one is
abbrev pub reply_due : Row → List RowEvent → Option (List ℕ)
reply_due row [] = None
reply_due row (event ∷ []) = confirm_of (row_step row event).answer
reply_due row (first ∷ (second ∷ rest)) = None

-- what the end wants in a turn is a wish for that row
abbrev pub IsLawfulFor : Feature → Place → RowEvent → Type 0
IsLawfulFor feature place (Prefers wish) = is_wish feature place wish ≡ true
IsLawfulFor feature place _ = Unit {0}

-- all turns that want something have a wish for their row
abbrev pub AreLawful : List Turn → Type 0
AreLawful turns = All (λ given. IsLawfulFor given.feature given.place given.event) turns
