-- What no step changes: which row it is; and nothing at all where the row refuses.
use Rattle.std.proofs.Common.{◌≡◌, ◌≢◌, ℕ, List, Option, refl, ◌∙◌, ap, arith}
use Rattle.std.proofs.lemmas.List.{set-get_or}
use Rattle.feature_lists.specs.Features.{described}
use Rattle.feature_lists.specs.declared.features.Feature.{Feature}
use Rattle.feature_lists.specs.declared.features.Place.{Place}
use Rattle.feature_machine.specs.declared.stands.Stand.{Stand}
use Rattle.feature_machine.specs.declared.stands.Stand.TheVariants as stand
use Rattle.feature_machine.specs.declared.row.Row.{Row}
use Rattle.feature_machine.specs.declared.judging.Confirmation.TheVariants as c
use Rattle.feature_machine.specs.Rows.{TableEvent, Confirmed, RowEvent, Confirm, confirmation, Fatal, says, settled, row_line, row_step, heard}
use Rattle.feature_machine.specs.declared.judging.Confirmation.{Confirmation}
use Rattle.feature_machine.specs.declared.answers.Settling.TheVariants as settling
use Rattle.feature_machine.specs.Answers.{settling_of}
use Rattle.feature_machine.specs.Lists.{index_of}
use Rattle.feature_machine.specs.Negotiating.{row_at, put, stepped, IsNegotiation}
use Rattle.feature_machine.specs.Sound.{IsRowOf, IsSameRow, IsRefusal, IsEventFor}
use Rattle.feature_machine.proofs.Places.{put_negotiation}
use Rattle.feature_machine.proofs.Soundness.{if_both, step_sound}

line_same : (row : Row) (s : Stand) (h : TableEvent) → IsSameRow row (row_line row s h).row
line_same row s h = record { role = grind arith; feature = grind arith; place = grind arith }

pub step_same : (row : Row) (event : RowEvent) → IsSameRow row (row_step row event).row
step_same row event = line_same row row.stand (heard row event)

pub step_its : (feature : Feature) (place : Place) (row : Row) (event : RowEvent) → IsRowOf feature place row → IsEventFor row event
    → IsRowOf feature place (row_step row event).row
step_its feature place row event its lawful =
    let same : IsSameRow row (row_step row event).row = step_same row event in
    record { feature_is = same.feature ∙ its.feature_is; place_is = same.place ∙ its.place_is; sound = step_sound row event its.sound lawful }

-- what a Change or a Confirm is refused leaves the row; nothing else is refused
line_stays : (row : Row) (s : Stand) (h : TableEvent) → IsRefusal (row_line row s h).answer → (row_line row s h).row ≡ row
line_stays row s h refused = grind arith

pub step_stays : (row : Row) (event : RowEvent) → IsRefusal (row_step row event).answer → (row_step row event).row ≡ row
step_stays row event refused = line_stays row row.stand (heard row event) refused

pub put_same : (rows : List Row) (feature : Feature) (place : Place) (row new : Row) → row ≡ row_at rows feature place → new ≡ row
    → put rows feature place new ≡ rows
put_same rows feature place row new is same = ap (λ r. put rows feature place r) (same ∙ is) ∙ set-get_or rows (index_of feature place) _

-- a Confirm that does not settle its row is refused
line_refuses : (row : Row) (s : Stand) (k : Confirmation) → settling_of (row_line row s (Confirmed k)).answer ≢ settling.Settled
    → IsRefusal (row_line row s (Confirmed k)).answer
line_refuses row stand.Stable k other = tt
line_refuses row stand.Unstable k other = tt
line_refuses row stand.Changing c.Late other = tt
line_refuses row stand.Changing c.Empty other =
    if_both (λ step. settling_of step.answer ≢ settling.Settled → IsRefusal step.answer) (described row.feature).is_required (says row (Fatal 5))
    (settled row row.value)
    (λ required refused. tt) (λ not_required refused. absurd (refused refl)) other
line_refuses row stand.Changing c.Wrong other = tt
line_refuses row stand.Changing _ other = absurd (other refl)

pub confirm_refuses : (row : Row) (body : List ℕ) (ack : Option ℕ) → settling_of (row_step row (Confirm body ack)).answer ≢ settling.Settled
    → IsRefusal (row_step row (Confirm body ack)).answer
confirm_refuses row body ack other = line_refuses row row.stand (confirmation row body ack) other

-- the eighteen rows stay sound
pub stepped_negotiation : (rows : List Row) (feature : Feature) (place : Place) (event : RowEvent) → IsNegotiation rows
    → IsEventFor (row_at rows feature place) event → IsNegotiation (stepped rows feature place event).rows
stepped_negotiation rows feature place event n lawful =
    put_negotiation rows feature place (row_step (row_at rows feature place) event).row n
    (step_its feature place (row_at rows feature place) event (n.each feature place) lawful)
