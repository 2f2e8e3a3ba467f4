-- What happens to rows in order is what happens to each.
use Rattle.std.proofs.Common.{◌≡◌, ◌≢◌, ◌<◌, ◌==◌, Bool, true, false, List, [], ◌∷◌, ◌++◌, length, map, cond, refl, sym, ap, ◌∙◌, subst, arith, length-set, eqb-true, get_or-set_same, get_or-set_other}
use Rattle.std.specs.Prelude.{filter}
use Rattle.std.proofs.lemmas.Bool.{eqb-false}
use Rattle.std.proofs.lemmas.List.{get_or-map}
use Rattle.std.proofs.lemmas.List.Elements.{All-head, All-tail}
use Rattle.feature_lists.specs.Wishes.{is_wish}
use Rattle.feature_lists.specs.declared.features.Feature.{Feature}
use Rattle.feature_lists.specs.declared.features.Feature.TheVariants as f
use Rattle.feature_lists.specs.declared.features.Place.{Place}
use Rattle.feature_lists.specs.declared.features.Place.TheVariants as located
use Rattle.feature_machine.specs.declared.offers.RowSetup.{RowSetup}
use Rattle.feature_machine.specs.declared.row.Row.{Row}
use Rattle.feature_machine.specs.declared.stands.Role2.{Role2}
use Rattle.feature_machine.specs.Lists.{index_of, usual_listed, listed_at, list_put, IsLists}
use Rattle.feature_machine.specs.Negotiating.{first_row, first_rows, row_at, stepped, IsNegotiation, AreRowsOf}
use Rattle.feature_machine.specs.Rows.{RowEvent, Change, Confirm, Prefers, Offers, Sends, row_step}
use Rattle.feature_machine.specs.Sound.{IsRowOf, IsEventFor}
use Rattle.feature_machine.specs.Turns.{Turn, turned, row_turned, is_turn_of, events_of, IsLawfulFor, AreLawful}
use Rattle.feature_machine.proofs.Listing.{first_are_rows}
use Rattle.feature_machine.proofs.Places.{index_below, same_feature, same_number, same_place, put_there, put_others}
use Rattle.feature_machine.proofs.Steps.{step_same, stepped_negotiation}

-- the row that an event is of, and the others
stepped_there : (rows : List Row) (feature : Feature) (place : Place) (event : RowEvent) → length rows ≡ 18
    → row_at (stepped rows feature place event).rows feature place ≡ (row_step (row_at rows feature place) event).row
stepped_there rows feature place event size = put_there rows feature place (row_step (row_at rows feature place) event).row size

stepped_same : (rows : List Row) (given feature : Feature) (there place : Place) (event : RowEvent) → length rows ≡ 18
    → index_of given there ≡ index_of feature place
    → row_at (stepped rows given there event).rows feature place ≡ (row_step (row_at rows feature place) event).row
stepped_same rows given feature there place event size same =
    let features : given ≡ feature = same_feature given feature (same_number given feature there place same) in
    let places : there ≡ place = same_place given feature there place same in
    rw (features, places) (stepped_there rows feature place event size)

stepped_other : (rows : List Row) (given feature : Feature) (there place : Place) (event : RowEvent)
    → (index_of given there ≡ index_of feature place → ⊥)
    → row_at (stepped rows given there event).rows feature place ≡ row_at rows feature place
stepped_other rows given feature there place event differs =
    put_others rows given there (row_step (row_at rows given there) event).row feature place (λ same. differs (sym same))

pub turned-row : (feature : Feature) (place : Place) (turns : List Turn) (rows : List Row) → length rows ≡ 18
    → row_at (turned rows turns) feature place ≡ row_turned (row_at rows feature place) (events_of feature place turns)
turned-row feature place [] rows size = refl
turned-row feature place (first ∷ rest) rows size =
    by_row (is_turn_of feature place first) refl
    (turned-row feature place rest (stepped rows first.feature first.place first.event).rows
    (length-set rows (index_of first.feature first.place) _ ∙ size))
  where
    next : List Row
    next = (stepped rows first.feature first.place first.event).rows

    by_row : (its : Bool) → is_turn_of feature place first ≡ its
        → row_at (turned next rest) feature place ≡ row_turned (row_at next feature place) (events_of feature place rest)
        → row_at (turned next rest) feature place
        ≡ row_turned (row_at rows feature place)
        (map (λ given. given.event) (cond its (first ∷ filter (is_turn_of feature place) rest) (filter (is_turn_of feature place) rest)))
    by_row true is later =
        let same : index_of first.feature first.place ≡ index_of feature place =
        eqb-true (index_of first.feature first.place) (index_of feature place) is in
        later ∙ ap (λ row. row_turned row (events_of feature place rest)) (stepped_same rows first.feature feature first.place place first.event size same)
    by_row false is later =
        let differs = eqb-false (index_of first.feature first.place) (index_of feature place) is in
        later ∙ ap (λ row. row_turned row (events_of feature place rest)) (stepped_other rows first.feature feature first.place place first.event differs)

-- what is a wish for a feature at a place is one for its row
lawful_at : (feature : Feature) (place : Place) (event : RowEvent) (row : Row) → IsRowOf feature place row → IsLawfulFor feature place event
    → IsEventFor row event
lawful_at feature place (Change body mandatory) row its lawful = tt
lawful_at feature place (Confirm body ack) row its lawful = tt
lawful_at feature place (Prefers wish) row its lawful =
    subst (λ one. is_wish one row.place wish ≡ true) (sym its.feature_is)
    (subst (λ there. is_wish feature there wish ≡ true) (sym its.place_is) lawful)
lawful_at feature place (Offers confirmed) row its lawful = tt
lawful_at feature place (Sends number) row its lawful = tt

pub turned-sound : (rows : List Row) (turns : List Turn) → IsNegotiation rows → AreLawful turns → IsNegotiation (turned rows turns)
turned-sound rows [] sound lawful = sound
turned-sound rows (first ∷ rest) sound lawful =
    turned-sound (stepped rows first.feature first.place first.event).rows rest
    (stepped_negotiation rows first.feature first.place first.event sound
    (lawful_at first.feature first.place first.event (row_at rows first.feature first.place) (sound.each first.feature first.place)
    (All-head (λ given. IsLawfulFor given.feature given.place given.event) first rest lawful)))
    (All-tail (λ given. IsLawfulFor given.feature given.place given.event) first rest lawful)

pub stepped-role : (role : Role2) (rows : List Row) (feature : Feature) (place : Place) (event : RowEvent) → AreRowsOf role rows
    → IsEventFor (row_at rows feature place) event → AreRowsOf role (stepped rows feature place event).rows
stepped-role role rows feature place event its lawful = record {
  sound = stepped_negotiation rows feature place event its.sound lawful;
  roles = λ other there. by_row other there (index_of feature place == index_of other there) refl;
}
  where
    by_row : (other : Feature) (there : Place) (same : Bool) → (index_of feature place == index_of other there) ≡ same
        → (row_at (stepped rows feature place event).rows other there).role ≡ role
    by_row other there true is =
        ap (λ row. row.role)
        (stepped_same rows feature other place there event its.sound.size (eqb-true (index_of feature place) (index_of other there) is))
        ∙ (step_same (row_at rows other there) event).role ∙ its.roles other there
    by_row other there false is =
        ap (λ row. row.role) (stepped_other rows feature other place there event (eqb-false (index_of feature place) (index_of other there) is))
        ∙ its.roles other there

pub turned-role : (role : Role2) (rows : List Row) (turns : List Turn) → AreRowsOf role rows → AreLawful turns → AreRowsOf role (turned rows turns)
turned-role role rows [] its lawful = its
turned-role role rows (first ∷ rest) its lawful =
    turned-role role (stepped rows first.feature first.place first.event).rows rest
    (stepped-role role rows first.feature first.place first.event its
    (lawful_at first.feature first.place first.event (row_at rows first.feature first.place) (its.sound.each first.feature first.place)
    (All-head (λ given. IsLawfulFor given.feature given.place given.event) first rest lawful)))
    (All-tail (λ given. IsLawfulFor given.feature given.place given.event) first rest lawful)

pub turned-joined : (rows : List Row) (earlier later : List Turn) → turned rows (earlier ++ later) ≡ turned (turned rows earlier) later
turned-joined rows [] later = refl
turned-joined rows (first ∷ rest) later = turned-joined (stepped rows first.feature first.place first.event).rows rest later

pub first-fresh : (role : Role2) (lists : List RowSetup) → IsLists lists → (feature : Feature) (place : Place)
    → row_at (first_rows role lists) feature place ≡ first_row role (listed_at lists feature place)
first-fresh role lists its feature place =
    let inside : index_of feature place < length lists = (let below = index_below feature place in let size = its.size in omega arith) in
    get_or-map (first_row role) lists (index_of feature place) (usual_listed f.Ccid located.Here) _ inside

pub first-role : (role : Role2) (lists : List RowSetup) → IsLists lists → AreRowsOf role (first_rows role lists)
first-role role lists its = record {
  sound = first_are_rows role lists its;
  roles = λ feature place. ap (λ row. row.role) (first-fresh role lists its feature place);
}

-- what is listed
pub listed_there : (lists : List RowSetup) (feature : Feature) (place : Place) (listed : RowSetup) → length lists ≡ 18
    → listed_at (list_put lists feature place listed) feature place ≡ listed
listed_there lists feature place listed size =
    let inside : index_of feature place < length lists = (let below = index_below feature place in omega arith) in
    get_or-set_same lists (index_of feature place) listed _ inside

pub listed_others : (lists : List RowSetup) (feature other : Feature) (place there : Place) (listed : RowSetup)
    → index_of other there ≢ index_of feature place
    → listed_at (list_put lists feature place listed) other there ≡ listed_at lists other there
listed_others lists feature other place there listed differs =
    get_or-set_other lists (index_of feature place) (index_of other there) listed _ differs
