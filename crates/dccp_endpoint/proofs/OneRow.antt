-- Which options speak to a row, and which do not: by the feature number and the letter, by the place among those that were met, and by
-- the row's place among all (RFC 4340, section 6).
use Rattle.std.proofs.Common.{◌≡◌, ◌≢◌, ◌==◌, ◌&&◌, ◌<◌, not, refl, sym, ap, ◌∙◌, arith, ℕ, Bool, true, false, List, [], ◌∷◌, ◌++◌, length, map, Option, Some, None, eqb-true, length-set}
use Rattle.std.specs.Prelude.{if◌then◌else◌, filter}
use Rattle.std.proofs.lemmas.Bool.{and_from, and_parts, eq-eqb, false_from_ne_true, false≢true, ne_eqb, true≢false}
use Rattle.std.proofs.lemmas.List.{map-append}
use Rattle.std.proofs.lemmas.List.Elements.{filter-append}
use Rattle.feature_lists.specs.Features.{feature_number, feature_numbered}
use Rattle.feature_lists.specs.declared.features.Feature.{Feature}
use Rattle.feature_lists.specs.declared.features.Feature.TheVariants as f
use Rattle.feature_lists.specs.declared.features.Place.{Place}
use Rattle.feature_lists.specs.declared.features.Place.TheVariants.{Here, There}
use Rattle.feature_machine.specs.Lists.{index_of}
use Rattle.feature_machine.specs.Negotiating.{RowsStep, changes, confirmed, place_of, row_at, stepped, opposite}
use Rattle.feature_machine.specs.Rows.{RowEvent, Change, Confirm, row_step}
use Rattle.feature_machine.specs.Turns.{Turn, events_of, is_turn_of}
use Rattle.feature_machine.specs.declared.row.Row.{Row}
use Rattle.feature_machine.proofs.Places.{put_others, same_number, same_place}
use Rattle.dccp_endpoint.specs.Heeding.{place_in_used, turn_known}
use Rattle.dccp_endpoint.specs.Speaking.{is_of_place}
use Rattle.dccp_endpoint.specs.Turns.{Key}

-- the letter that speaks to a row: L to one at the peer, R to one here
abbrev pub letter_to : Place → Bool
letter_to Here = false
letter_to There = true

-- the letter says the place
pub letter-place : (place : Place) → place_of (letter_to place) ≡ place
letter-place Here = refl
letter-place There = refl

-- its answer has the other letter
pub letter-answer : (place : Place) → is_of_place (not (letter_to place)) place ≡ true
letter-answer Here = refl
letter-answer There = refl

letter-so : (left : Bool) (place : Place) → is_of_place left (opposite place) ≡ true → left ≡ letter_to place
letter-so true Here is = absurd (false≢true is)
letter-so true There is = refl
letter-so false Here is = refl
letter-so false There is = absurd (false≢true is)

letter-from : (left : Bool) (place : Place) → left ≡ letter_to place → is_of_place left (opposite place) ≡ true
letter-from true Here is = absurd (true≢false is)
letter-from true There is = refl
letter-from false Here is = refl
letter-from false There is = absurd (false≢true is)

letter-placed : (left : Bool) (place : Place) → place_of left ≡ place → left ≡ letter_to place
letter-placed true Here is = cc is
letter-placed true There is = refl
letter-placed false Here is = refl
letter-placed false There is = cc is

letter-answered : (left : Bool) (place : Place) → is_of_place (not left) place ≡ true → left ≡ letter_to place
letter-answered true Here is = absurd (false≢true is)
letter-answered true There is = refl
letter-answered false Here is = refl
letter-answered false There is = absurd (false≢true is)

-- whether an option by this letter for this feature number speaks to the row
abbrev pub is_to : Key → Bool → ℕ → Bool
is_to k left number = number == feature_number k.0 && is_of_place left (opposite k.1)

-- it does
pub record IsTo (k : Key) (left : Bool) (number : ℕ) : Type 0 where
  pub number_is : number ≡ feature_number k.0
  pub left_is : left ≡ letter_to k.1

-- an option that speaks to the row has its number and letter
pub to-so : (k : Key) (left : Bool) (number : ℕ) → is_to k left number ≡ true → IsTo k left number
to-so k left number is =
    let parts = and_parts (number == feature_number k.0) (is_of_place left (opposite k.1)) is in
    record { number_is = eqb-true number (feature_number k.0) parts.0; left_is = letter-so left k.1 parts.1 }

to-from : (k : Key) (left : Bool) (number : ℕ) → number ≡ feature_number k.0 → left ≡ letter_to k.1 → is_to k left number ≡ true
to-from k left number number_is left_is =
    and_from (number == feature_number k.0) (is_of_place left (opposite k.1)) (eq-eqb number (feature_number k.0) number_is) (letter-from left k.1 left_is)

-- the row's place among the options that were met
abbrev pub spot : Key → ℕ
spot k = place_in_used (letter_to k.1) (feature_number k.0)

number-below : (feature : Feature) → feature_number feature < 10
number-below f.Ccid = omega arith
number-below _ = omega arith

-- a row's spot is below 512
pub spot-below : (k : Key) → spot k < 512
spot-below k = by k.1 (number-below k.0) where
  by : (place : Place) → feature_number k.0 < 10 → place_in_used (letter_to place) (feature_number k.0) < 512
  by Here below = omega arith
  by There below = omega arith

spot-so : (one other : Bool) (m n : ℕ) → place_in_used one m ≡ place_in_used other n → (one ≡ other) × (m ≡ n)
spot-so true true m n is = (refl, omega arith)
spot-so false false m n is = (refl, omega arith)
spot-so true false m n is = absurd (omega arith)
spot-so false true m n is = absurd (omega arith)

-- a feature that is found by a number has it
pub found : (number : ℕ) (feature : Feature) → feature_numbered number ≡ Some feature → feature_number feature ≡ number
found number feature is = grind arith

-- An option that does not speak to the row has another place among those that were met, no Confirm for it is for the row, and no turn
-- by it is the row's.
pub record IsBeside (k : Key) (left : Bool) (number : ℕ) : Type 0 where
  pub spots : spot k ≢ place_in_used left number
  pub due : (number == feature_number k.0 && is_of_place (not left) k.1) ≡ false
  pub turn : (feature : Feature) → feature_numbered number ≡ Some feature → index_of feature (place_of left) ≢ index_of k.0 k.1

-- else it has another number or letter
pub beside-so : (k : Key) (left : Bool) (number : ℕ) → is_to k left number ≡ false → IsBeside k left number
beside-so k left number is = record {
  spots = λ same. let parts = spot-so (letter_to k.1) left (feature_number k.0) number same in not_both (sym parts.1) (sym parts.0);
  due = false_from_ne_true (number == feature_number k.0 && is_of_place (not left) k.1) (λ both.
      let parts = and_parts (number == feature_number k.0) (is_of_place (not left) k.1) both in
      not_both (eqb-true number (feature_number k.0) parts.0) (letter-answered left k.1 parts.1));
  turn = λ feature has same.
      not_both (sym (found number feature has) ∙ same_number feature k.0 (place_of left) k.1 same)
      (letter-placed left k.1 (same_place feature k.0 (place_of left) k.1 same));
}
  where
    not_both : number ≡ feature_number k.0 → left ≡ letter_to k.1 → ⊥
    not_both number_is left_is = false≢true (sym is ∙ to-from k left number number_is left_is)

-- turns one after the other
pub events-append : (k : Key) (earlier later : List Turn)
    → events_of k.0 k.1 (earlier ++ later) ≡ events_of k.0 k.1 earlier ++ events_of k.0 k.1 later
events-append k earlier later =
    ap (λ turns. map (λ (given : Turn). given.event) turns) (filter-append (is_turn_of k.0 k.1) earlier later)
    ∙ map-append (λ (given : Turn). given.event) (filter (is_turn_of k.0 k.1) earlier) (filter (is_turn_of k.0 k.1) later)

-- a turn of another row is none of this one, and a turn of this row is its event
pub events-beside : (k : Key) (left : Bool) (number : ℕ) (event : RowEvent) → IsBeside k left number
    → events_of k.0 k.1 (turn_known (feature_numbered number) left event) ≡ []
events-beside k left number event beside = by (feature_numbered number) refl where
  by : (feature : Option Feature) → feature_numbered number ≡ feature → events_of k.0 k.1 (turn_known feature left event) ≡ []
  by None is = refl
  by (Some feature) is =
      let differs : (index_of feature (place_of left) == index_of k.0 k.1) ≡ false =
      ne_eqb (index_of feature (place_of left)) (index_of k.0 k.1) (beside.turn feature is) in
      rw differs refl

-- what is said to a row is its event
pub events-own : (k : Key) (event : RowEvent) → events_of k.0 k.1 (turn_known (Some k.0) (letter_to k.1) event) ≡ event ∷ []
events-own k event =
    let same : (index_of k.0 (place_of (letter_to k.1)) == index_of k.0 k.1) ≡ true =
    eq-eqb (index_of k.0 (place_of (letter_to k.1))) (index_of k.0 k.1) (ap (λ place. index_of k.0 place) (letter-place k.1)) in
    rw same refl

-- What a step of another row leaves.
pub record Leaves (k : Key) (rows : List Row) (step : RowsStep) : Type 0 where
  pub row : row_at step.rows k.0 k.1 ≡ row_at rows k.0 k.1
  pub size : length step.rows ≡ length rows

stepped-leaves : (k : Key) (rows : List Row) (feature : Feature) (place : Place) (event : RowEvent) → index_of feature place ≢ index_of k.0 k.1
    → Leaves k rows (stepped rows feature place event)
stepped-leaves k rows feature place event differs = record {
  row = put_others rows feature place (row_step (row_at rows feature place) event).row k.0 k.1 (λ same. differs (sym same));
  size = length-set rows (index_of feature place) (row_step (row_at rows feature place) event).row;
}

-- a Change for another row leaves it
pub changes-leaves : (k : Key) (rows : List Row) (left : Bool) (number : ℕ) (body : List ℕ) (mandatory : Bool) → IsBeside k left number
    → Leaves k rows (changes rows left number body mandatory)
changes-leaves k rows left number body mandatory beside = by (feature_numbered number) refl where
  by : (feature : Option Feature) → feature_numbered number ≡ feature → Leaves k rows (changes rows left number body mandatory)
  by None is = rw is (record { row = refl; size = refl })
  by (Some feature) is = rw is (stepped-leaves k rows feature (place_of left) (Change body mandatory) (beside.turn feature is))

-- so does a Confirm
pub confirmed-leaves : (k : Key) (rows : List Row) (left : Bool) (number : ℕ) (body : List ℕ) (ack : Option ℕ) → IsBeside k left number
    → Leaves k rows (confirmed rows left number body ack)
confirmed-leaves k rows left number body ack beside = by (feature_numbered number) refl where
  by : (feature : Option Feature) → feature_numbered number ≡ feature → Leaves k rows (confirmed rows left number body ack)
  by None is = rw is (record { row = refl; size = refl })
  by (Some feature) is = rw is (stepped-leaves k rows feature (place_of left) (Confirm body ack) (beside.turn feature is))
