-- What changes a row's stand and the number of its last opening.
use Rattle.std.proofs.Common.{◌≡◌, ◌≢◌, ℕ, Bool, true, false, List, Option, Some, None, refl, sym, ◌∙◌, arith, if◌then◌else◌}
use Rattle.feature_lists.specs.declared.wishes.Wanted.{Wanted}
use Rattle.feature_machine.specs.declared.stands.Stand.{Stand}
use Rattle.feature_machine.specs.declared.stands.Stand.TheVariants as stand
use Rattle.feature_machine.specs.declared.offers.Offer.{Offer}
use Rattle.feature_machine.specs.declared.row.Row.{Row}
use Rattle.feature_machine.specs.declared.judging.Proposal.{Proposal}
use Rattle.feature_machine.specs.declared.judging.Proposal.TheVariants as p
use Rattle.feature_machine.specs.declared.judging.Confirmation.{Confirmation}
use Rattle.feature_machine.specs.declared.judging.Confirmation.TheVariants as c
use Rattle.feature_machine.specs.Rows.{RowEvent, Change, Confirm, Prefers, Offers, Sends, TableEvent, Proposed, Confirmed, Preferred, Offered, Sending, Settled, Opens, row_line, row_step, holding, proposal, confirmation, timely_confirmation, answers_opening}
use Rattle.feature_machine.specs.Sound.{IsItsConfirm, IsSendsEvent}

pub line_opens : (row : Row) (s : Stand) (h : TableEvent) → (row_line row s h).answer ≡ Opens → (row_line row s h).row.opened ≡ None
line_opens row s h opens = grind arith

pub line_settles : (row : Row) (s : Stand) (h : TableEvent) → (row_line row s h).answer ≡ Settled → (row_line row s h).row.opened ≡ row.opened
line_settles row s h settles = grind arith

-- all but a sending and an opening leave the number
proposed_keeps : (row : Row) (s : Stand) (proposed : Proposal) (mandatory : Bool)
    → (row_line row s (Proposed proposed mandatory)).row.opened ≡ row.opened
proposed_keeps row s proposed mandatory = grind arith

confirmed_keeps : (row : Row) (s : Stand) (confirms : Confirmation) → (row_line row s (Confirmed confirms)).row.opened ≡ row.opened
confirmed_keeps row s confirms = grind arith

preferred_keeps : (row : Row) (s : Stand) (wish : Wanted) → (row_line row s (Preferred wish)).answer ≢ Opens
    → (row_line row s (Preferred wish)).row.opened ≡ row.opened
preferred_keeps row s wish quiet = grind arith

offered_keeps : (row : Row) (s : Stand) (confirmed : Bool) (offered : Offer) → (row_line row s (Offered confirmed offered)).answer ≢ Opens
    → (row_line row s (Offered confirmed offered)).row.opened ≡ row.opened
offered_keeps row s confirmed offered quiet = grind arith

pub step_keeps : (row : Row) (event : RowEvent) → (row_step row event).answer ≢ Opens → (IsSendsEvent event → ⊥)
    → (row_step row event).row.opened ≡ row.opened
step_keeps row (Change body mandatory) quiet other = proposed_keeps row row.stand (proposal row body) mandatory
step_keeps row (Confirm body ack) quiet other = confirmed_keeps row row.stand (confirmation row body ack)
step_keeps row (Prefers wish) quiet other = preferred_keeps row row.stand wish quiet
step_keeps row (Offers confirmed) quiet other = offered_keeps row row.stand confirmed row.offer quiet
step_keeps row (Sends number) quiet other = absurd (other tt)

sending_first : (row : Row) (s : Stand) (opened : Option ℕ) (number : ℕ) → s ≡ stand.Changing → opened ≡ None
    → (row_line row s (Sending number opened)).row.opened ≡ Some number
sending_first row s opened number changing unopened = grind arith

pub step_first : (row : Row) (number : ℕ) → row.stand ≡ stand.Changing → row.opened ≡ None → (row_step row (Sends number)).row.opened ≡ Some number
step_first row number = sending_first row row.stand row.opened number

sending_again : (row : Row) (s : Stand) (sent : Option ℕ) (number opened : ℕ) → s ≢ stand.Unstable → sent ≡ Some opened
    → (row_line row s (Sending number sent)).row.opened ≡ row.opened
sending_again row s sent number opened settled is = grind arith

pub step_again : (row : Row) (number opened : ℕ) → row.stand ≢ stand.Unstable → row.opened ≡ Some opened
    → (row_step row (Sends number)).row.opened ≡ Some opened
step_again row number opened settled is = sending_again row row.stand row.opened number opened settled is ∙ is

sending_anew : (row : Row) (s : Stand) (opened : Option ℕ) (number : ℕ) → s ≡ stand.Unstable
    → (row_line row s (Sending number opened)).row.opened ≡ Some number
sending_anew row s opened number unstable = grind arith

pub step_anew : (row : Row) (number : ℕ) → row.stand ≡ stand.Unstable → (row_step row (Sends number)).row.opened ≡ Some number
step_anew row number = sending_anew row row.stand row.opened number

-- a Change changes the value alone
change_line : (row : Row) (s : Stand) (proposed : Proposal) (mandatory : Bool)
    → (row_line row s (Proposed proposed mandatory)).row ≡ holding row (row_line row s (Proposed proposed mandatory)).row.value
change_line row s p.Invalid false = refl
change_line row s p.Invalid true = refl
change_line row stand.Unstable (p.Shared value) mandatory = refl
change_line row stand.Stable (p.Shared value) mandatory = refl
change_line row stand.Changing (p.Shared value) mandatory = refl
change_line row stand.Stable p.Unshared false = refl
change_line row stand.Stable p.Unshared true = refl
change_line row stand.Changing p.Unshared false = refl
change_line row stand.Changing p.Unshared true = refl
change_line row stand.Stable (p.Told value) mandatory = refl
change_line row stand.Changing (p.Told value) mandatory = refl
change_line row stand.Unstable _ mandatory = refl

pub change_keeps : (row : Row) (body : List ℕ) (mandatory : Bool)
    → (row_step row (Change body mandatory)).row ≡ holding row (row_step row (Change body mandatory)).row.value
change_keeps row body mandatory = change_line row row.stand (proposal row body) mandatory

-- only a Confirm leads to STABLE, and only from CHANGING
proposed_stays : (row : Row) (s : Stand) (proposed : Proposal) (mandatory : Bool)
    → ((row_line row s (Proposed proposed mandatory)).row.stand ≡ row.stand) × ((row_line row s (Proposed proposed mandatory)).answer ≢ Settled)
proposed_stays row s proposed mandatory = grind arith

preferred_leaves : (row : Row) (s : Stand) (wish : Wanted)
    → ((row_line row s (Preferred wish)).row.stand ≢ stand.Stable) × ((row_line row s (Preferred wish)).answer ≢ Settled)
preferred_leaves row s wish = grind arith

offered_leaves : (row : Row) (s : Stand) (confirmed : Bool) (offered : Offer)
    → ((row_line row s (Offered confirmed offered)).row.stand ≡ stand.Stable → row.stand ≡ stand.Stable)
    × ((row_line row s (Offered confirmed offered)).answer ≢ Settled)
offered_leaves row s confirmed offered = grind arith

sending_leaves : (row : Row) (s : Stand) (number : ℕ) (opened : Option ℕ)
    → ((row_line row s (Sending number opened)).row.stand ≡ stand.Stable → row.stand ≡ stand.Stable)
    × ((row_line row s (Sending number opened)).answer ≢ Settled)
sending_leaves row s number opened = grind arith

late_stays : (row : Row) (s : Stand) → ((row_line row s (Confirmed c.Late)).row.stand ≡ row.stand) × ((row_line row s (Confirmed c.Late)).answer ≢ Settled)
late_stays row s = grind arith

confirmed_settles : (row : Row) (s : Stand) (confirms : Confirmation) → (row_line row s (Confirmed confirms)).answer ≡ Settled
    → (row_line row s (Confirmed confirms)).row.stand ≡ stand.Stable
confirmed_settles row s confirms settles = grind arith

-- of a Confirm by its time, of any other event not at all
confirm_stand : (row : Row) (body : List ℕ) (ack : Option ℕ) (s : Stand) → row.stand ≡ s → (timely : Bool) → answers_opening row.opened ack ≡ timely
    → row.stand ≢ stand.Stable
    → (row_line row s (Confirmed (if timely then timely_confirmation row body else c.Late))).row.stand ≡ stand.Stable
    → (row.stand ≡ stand.Changing) × (answers_opening row.opened ack ≡ true)
confirm_stand row body ack stand.Changing is true timely asks settles = (is, timely)
confirm_stand row body ack s is false late asks settles = absurd (asks (sym (late_stays row s).0 ∙ settles))
confirm_stand row body ack stand.Stable is true timely asks settles = absurd (asks is)
confirm_stand row body ack stand.Unstable is true timely asks settles = absurd (asks settles)

confirm_answer : (row : Row) (body : List ℕ) (ack : Option ℕ) (s : Stand) → row.stand ≡ s → (timely : Bool) → answers_opening row.opened ack ≡ timely
    → (row_line row s (Confirmed (if timely then timely_confirmation row body else c.Late))).answer ≡ Settled
    → (row.stand ≡ stand.Changing) × (answers_opening row.opened ack ≡ true)
confirm_answer row body ack stand.Changing is true timely settles = (is, timely)
confirm_answer row body ack s is false late settles = absurd ((late_stays row s).1 settles)
confirm_answer row body ack _ is true timely settles = absurd (cc settles)

pub settling_stand : (row : Row) (event : RowEvent) → row.stand ≢ stand.Stable → (row_step row event).row.stand ≡ stand.Stable
    → (row.stand ≡ stand.Changing) × IsItsConfirm row event
settling_stand row (Change body mandatory) asks settles =
    absurd (asks (sym (proposed_stays row row.stand (proposal row body) mandatory).0 ∙ settles))
settling_stand row (Confirm body ack) asks settles =
    confirm_stand row body ack row.stand refl (answers_opening row.opened ack) refl asks settles
settling_stand row (Prefers wish) asks settles = absurd ((preferred_leaves row row.stand wish).0 settles)
settling_stand row (Offers confirmed) asks settles = absurd (asks ((offered_leaves row row.stand confirmed row.offer).0 settles))
settling_stand row (Sends number) asks settles = absurd (asks ((sending_leaves row row.stand number row.opened).0 settles))

pub settling_answer : (row : Row) (event : RowEvent) → (row_step row event).answer ≡ Settled
    → (row.stand ≡ stand.Changing) × IsItsConfirm row event × ((row_step row event).row.stand ≡ stand.Stable)
settling_answer row (Change body mandatory) settles = absurd ((proposed_stays row row.stand (proposal row body) mandatory).1 settles)
settling_answer row (Confirm body ack) settles =
    let its = confirm_answer row body ack row.stand refl (answers_opening row.opened ack) refl settles in
    (its.0, its.1, confirmed_settles row row.stand (confirmation row body ack) settles)
settling_answer row (Prefers wish) settles = absurd ((preferred_leaves row row.stand wish).1 settles)
settling_answer row (Offers confirmed) settles = absurd ((offered_leaves row row.stand confirmed row.offer).1 settles)
settling_answer row (Sends number) settles = absurd ((sending_leaves row row.stand number row.opened).1 settles)
