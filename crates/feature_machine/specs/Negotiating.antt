-- The eighteen rows of an end: an event is the step of its row (own).
use Rattle.std.specs.List.{list_all}
use Rattle.std.specs.Prelude.{◌≡◌, ◌≢◌, ◌&&◌, not, ℕ, ◌+◌, Bool, true, false, List, [], ◌∷◌, length, map, filter, Option, Some, None, slice_index_or, slice_set, if◌then◌else◌}
use Rattle.feature_lists.specs.Features.{feature_numbered, initial_of}
use Rattle.feature_lists.specs.declared.features.Feature.{Feature}
use Rattle.feature_lists.specs.declared.features.Feature.TheVariants as f
use Rattle.feature_lists.specs.declared.features.Place.{Place}
use Rattle.feature_lists.specs.declared.features.Place.TheVariants as located
use Rattle.feature_machine.specs.declared.stands.Role2.{Role2}
use Rattle.feature_machine.specs.declared.stands.Role2.TheVariants as role
use Rattle.feature_machine.specs.declared.stands.Stand.{Stand}
use Rattle.feature_machine.specs.declared.stands.Stand.TheVariants as stand
use Rattle.feature_machine.specs.declared.stands.Held.{Held}
use Rattle.feature_machine.specs.declared.offers.RowSetup.{RowSetup}
use Rattle.feature_machine.specs.declared.offers.Offer.{Offer}
use Rattle.feature_machine.specs.declared.offers.Offer.TheVariants as offer
use Rattle.feature_machine.specs.declared.row.Row.{Row}
use Rattle.feature_machine.specs.Lists.{index_of, usual_listed}
use Rattle.feature_machine.specs.Rows.{RowEvent, Change, Confirm, RowAnswer, Confirms, Ignored, Fatal, row_step}
use Rattle.feature_machine.specs.Sound.{IsRowOf}

-- a row before anything was negotiated
abbrev pub first_row : Role2 → RowSetup → Row
first_row role listed =
    record {
      role = role;
      feature = listed.feature;
      place = listed.place;
      value = initial_of listed.feature;
      stand = stand.Stable;
      active = listed.wish;
      pending = None;
      opened = None;
      offer = listed.offer;
      mandatory = false;
    }

-- the rows of an end before anything was negotiated
abbrev pub first_rows : Role2 → List RowSetup → List Row
first_rows role lists = map (first_row role) lists

-- the row of a feature at a place
abbrev pub row_at : List Row → Feature → Place → Row
row_at rows feature place = slice_index_or rows (index_of feature place) (first_row role.Client (usual_listed f.Ccid located.Here))

-- the same rows with this one there
abbrev pub put : List Row → Feature → Place → Row → List Row
put rows feature place row = slice_set rows (index_of feature place) row

-- there is a sound one for each feature at each place
pub record IsNegotiation (rows : List Row) : Type 0 where
  pub size : length rows ≡ 18
  pub each : (feature : Feature) (place : Place) → IsRowOf feature place (row_at rows feature place)

-- and all are of one end
pub record AreRowsOf (role : Role2) (rows : List Row) : Type 0 where
  pub sound : IsNegotiation rows
  pub roles : (feature : Feature) (place : Place) → (row_at rows feature place).role ≡ role

-- all rows are unchanged except that of a feature at a place
abbrev pub RestStays : List Row → List Row → Feature → Place → Type 0
RestStays old new feature place =
    (other : Feature) (there : Place) → index_of other there ≢ index_of feature place → row_at new other there ≡ row_at old other there

-- all rows after an event, and the answer of the row that the event is for
pub record RowsStep : Type 0 where
  pub rows : List Row
  pub answer : RowAnswer

-- an event is the step of its row
abbrev pub stepped : List Row → Feature → Place → RowEvent → RowsStep
stepped rows feature place event =
    let step = row_step (row_at rows feature place) event in
    record { rows = put rows feature place step.row; answer = step.answer }

-- Change L and Confirm L are for a feature at the peer, Change R and Confirm R for one at this end (RFC 4340, section 6)
abbrev pub place_of : Bool → Place
place_of true = located.There
place_of false = located.Here

-- where the peer sees the feature
abbrev pub opposite : Place → Place
opposite located.Here = located.There
opposite located.There = located.Here

-- a Change; for an unknown feature it is not valid
abbrev pub changes_known : List Row → Option Feature → Place → List ℕ → Bool → RowsStep
changes_known rows (Some feature) place body mandatory = stepped rows feature place (Change body mandatory)
changes_known rows None place body mandatory = record { rows = rows; answer = if mandatory then Fatal 6 else Confirms [] }

-- a Change with this feature number: Change L is for a feature at the peer, and Change R for one here
abbrev pub changes : List Row → Bool → ℕ → List ℕ → Bool → RowsStep
changes rows left number body mandatory = changes_known rows (feature_numbered number) (place_of left) body mandatory

-- a Confirm; for an unknown feature it is ignored
abbrev pub confirms_known : List Row → Option Feature → Place → List ℕ → Option ℕ → RowsStep
confirms_known rows (Some feature) place body ack = stepped rows feature place (Confirm body ack)
confirms_known rows None place body ack = record { rows = rows; answer = Ignored }

-- a Confirm with this feature number and letter, on a packet with this acknowledgement number, if it has one
abbrev pub confirmed : List Row → Bool → ℕ → List ℕ → Option ℕ → RowsStep
confirmed rows left number body ack = confirms_known rows (feature_numbered number) (place_of left) body ack

-- a Change of the row is due: it is in CHANGING or UNSTABLE
abbrev pub is_asking : Stand → Bool
is_asking stand.Stable = false
is_asking stand.Changing = true
is_asking stand.Unstable = true

-- the row asks: its Change has to go out, or to go out again
abbrev pub is_due : Row → Bool
is_due row = is_asking row.stand

-- the row of this feature at this place asks
abbrev pub IsDue : List Row → Feature → Place → Type 0
IsDue rows feature place = is_due (row_at rows feature place) ≡ true

-- the rows that ask, by feature and place
abbrev pub due_keys : List Row → List (Feature × Place)
due_keys rows = map (λ row. (row.feature, row.place)) (filter is_due rows)

-- an offer that was made, or that there never was
abbrev pub is_offerless : Offer → Bool
is_offerless offer.Nothing = true
is_offerless offer.Plain = false
is_offerless offer.Mandatory = false

-- the row has nothing to say by itself: no offer is left, and it does not ask
abbrev pub is_quiet : Row → Bool
is_quiet row = is_offerless row.offer && not (is_due row)

-- no row has anything to say by itself
abbrev pub are_quiet : List Row → Bool
are_quiet rows = list_all is_quiet rows

-- 1 for a row that has something to say by itself, and else 0
abbrev pub loud_of : Row → ℕ
loud_of row = if is_quiet row then 0 else 1

-- how many rows have
abbrev pub loud_rows : List Row → ℕ
loud_rows [] = 0
loud_rows (row ∷ rows) = loud_of row + loud_rows rows

-- all features at all places, by features, Here before There
abbrev pub every_place : List (Feature × Place)
every_place =
    (f.Ccid, located.Here)
    ∷ (f.Ccid, located.There)
    ∷ (f.ShortSeqnos, located.Here)
    ∷ (f.ShortSeqnos, located.There)
    ∷ (f.SequenceWindow, located.Here)
    ∷ (f.SequenceWindow, located.There)
    ∷ (f.EcnIncapable, located.Here)
    ∷ (f.EcnIncapable, located.There)
    ∷ (f.AckRatio, located.Here)
    ∷ (f.AckRatio, located.There)
    ∷ (f.SendAckVector, located.Here)
    ∷ (f.SendAckVector, located.There)
    ∷ (f.SendNdpCount, located.Here)
    ∷ (f.SendNdpCount, located.There)
    ∷ (f.MinCsCov, located.Here)
    ∷ (f.MinCsCov, located.There)
    ∷ (f.CheckDataChecksum, located.Here)
    ∷ (f.CheckDataChecksum, located.There)
    ∷ []

-- whether the row's next Change carries Mandatory: that of a new list never does
abbrev pub is_next_mandatory : Stand → Row → Bool
is_next_mandatory stand.Changing row = row.mandatory
is_next_mandatory _ row = false

-- what an owner sees of a row: its value, and its stand
abbrev pub held_by : Row → Held
held_by row = record { value = row.value; stand = row.stand }
