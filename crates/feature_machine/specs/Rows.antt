-- The step of one row (own; the names of the stands, the options and the reconciliation are RFC 4340's, section 6).
--
-- An event is judged first, and then one table is applied by cases. Validity comes before the stand, and lateness before the data. In STABLE and
-- UNSTABLE every Confirm is passed over. On rows that the preconditions of `open_offer` and `sent` exclude, they change nothing. A row of a
-- non-negotiable feature at the peer never leaves STABLE.
use Rattle.std.specs.Prelude.{ℕ, ◌==◌, ◌&&◌, ◌||◌, not, Bool, true, false, List, [], ◌∷◌, length, Option, Some, None, if◌then◌else◌}
use Rattle.byteorder.specs.Endian.{big_number, big_bytes}
use Rattle.seq_circle.specs.Circle.{is_before}
use Rattle.feature_lists.specs.Features.{described, is_permitted}
use Rattle.feature_lists.specs.Lists.{has_entry, reconciled}
use Rattle.feature_lists.specs.declared.features.Place.{Place}
use Rattle.feature_lists.specs.declared.features.Place.TheVariants as located
use Rattle.feature_lists.specs.declared.wishes.Wanted.{Wanted}
use Rattle.feature_lists.specs.declared.wishes.Wanted.TheVariants as wanted
use Rattle.feature_machine.specs.declared.stands.Role2.{Role2}
use Rattle.feature_machine.specs.declared.stands.Role2.TheVariants as role
use Rattle.feature_machine.specs.declared.stands.Stand.{Stand}
use Rattle.feature_machine.specs.declared.stands.Stand.TheVariants as stand
use Rattle.feature_machine.specs.declared.offers.Offer.{Offer}
use Rattle.feature_machine.specs.declared.offers.Offer.TheVariants as offer
use Rattle.feature_machine.specs.declared.row.Row.{Row}
use Rattle.feature_machine.specs.declared.judging.Proposal.{Proposal}
use Rattle.feature_machine.specs.declared.judging.Proposal.TheVariants as p
use Rattle.feature_machine.specs.declared.judging.Confirmation.{Confirmation}
use Rattle.feature_machine.specs.declared.judging.Confirmation.TheVariants as c

-- what happens to a row
pub data RowEvent : Type 0 where
  -- a Change for the row comes, with its data after the feature number
  Change : (body : List ℕ) (mandatory : Bool) → RowEvent
  -- a Confirm for the row comes, on a packet with this acknowledgement number
  Confirm : (body : List ℕ) (ack : Option ℕ) → RowEvent
  -- the end has a new wish
  Prefers : (wish : Wanted) → RowEvent
  -- the row's offer is made; a Confirm for the row may go out on the same packet
  Offers : (confirmed : Bool) → RowEvent
  -- a packet with the row's Change goes out
  Sends : (number : ℕ) → RowEvent

-- what a row answers
pub data RowAnswer : Type 0 where
  -- a Confirm with this data after the feature number is due
  Confirms : (body : List ℕ) → RowAnswer
  Ignored Settled : RowAnswer
  -- the packet is answered by a Reset with this code
  Fatal : (code : ℕ) → RowAnswer
  -- the row's Change is due now
  Opens : RowAnswer
  -- the row's Change waits for the next occasion
  Waits : RowAnswer
  Quiet : RowAnswer

-- the row after one event, and its answer to that
pub record RowStep : Type 0 where
  pub row : Row
  pub answer : RowAnswer

-- the reconciliation; the role says which of the two lists is the server's (RFC 4340, section 6.3.1)
abbrev pub reconciled_by : Role2 → List ℕ → List ℕ → Option ℕ
reconciled_by role.Server own peers = reconciled own peers
reconciled_by role.Client own peers = reconciled peers own

-- the entries of a list
abbrev pub entries : Option Wanted → List ℕ
entries (Some (wanted.List list)) = list
entries _ = []

-- the wish is this number
abbrev pub is_number : Option Wanted → ℕ → Bool
is_number (Some (wanted.Number number)) value = number == value
is_number _ value = false

-- the feature is negotiated by preference lists, of which the server's decides (RFC 4340, section 6.3.1)
abbrev pub is_server_priority : Row → Bool
is_server_priority row = (described row.feature).is_server_priority

-- the bytes of a value
abbrev pub width : Row → ℕ
width row = (described row.feature).width

-- the feature is located at the peer
abbrev pub is_there : Place → Bool
is_there located.Here = false
is_there located.There = true

-- the data have a value of a non-negotiable feature that is located at the peer (RFC 4340, section 6.3.2)
abbrev pub tells_value : Row → List ℕ → Bool
tells_value row body =
    is_there row.place && length body == width row && is_permitted row.feature row.place (big_number (width row) body)

-- the first entry that both lists have, if there is one
abbrev pub shared_or_not : Option ℕ → Proposal
shared_or_not (Some value) = p.Shared value
shared_or_not None = p.Unshared

-- a Change of a server-priority feature needs at least one value, and is judged by the reconciliation
abbrev pub list_proposal : Row → List ℕ → Proposal
list_proposal row [] = p.Invalid
list_proposal row (value ∷ rest) = shared_or_not (reconciled_by row.role (entries row.active) (value ∷ rest))

-- what a Change means to the row; its validity is judged before the row's stand
abbrev pub proposal : Row → List ℕ → Proposal
proposal row body =
    if is_server_priority row then list_proposal row body
    else if tells_value row body then p.Told (big_number (width row) body)
    else p.Invalid

-- The acknowledgement number reaches the row's last opening: there is one, and it is not before the opening's. (So one
-- at just half the circle from it does; an end that uses fewer than 2^47 numbers meets none.)
abbrev pub answers_opening : Option ℕ → Option ℕ → Bool
answers_opening (Some opened) (Some ack) = not (is_before ack opened)
answers_opening _ _ = false

-- a value that comes with a list, by the reconciliation
abbrev pub agreed_confirmation : Row → ℕ → Option ℕ → Confirmation
agreed_confirmation row value (Some agreed) = if agreed == value then c.Shared value else c.Wrong
agreed_confirmation row value None = if value == row.value then c.Held else c.Wrong

-- a value in the row's active list, or the one that it holds
abbrev pub is_acceptable : Row → ℕ → Bool
is_acceptable row value = has_entry (entries row.active) value || value == row.value

-- a Confirm of a server-priority feature: with a list it is judged by the reconciliation, and without one by its value
abbrev pub list_confirmation : Row → ℕ → List ℕ → Confirmation
list_confirmation row value [] = if is_acceptable row value then c.Alone value else c.Wrong
list_confirmation row value (first ∷ rest) =
    agreed_confirmation row value (reconciled_by row.role (entries row.active) (first ∷ rest))

-- a Confirm of a non-negotiable feature has to repeat the number that was sent
abbrev pub number_confirmation : Row → List ℕ → Confirmation
number_confirmation row body =
    if length body == width row && is_number row.active (big_number (width row) body) then c.Told (big_number (width row) body)
    else c.Wrong

-- an empty Confirm refuses the Change; any other is judged by the kind of the feature
abbrev pub timely_confirmation : Row → List ℕ → Confirmation
timely_confirmation row [] = c.Empty
timely_confirmation row (value ∷ rest) =
    if is_server_priority row then list_confirmation row value rest else number_confirmation row (value ∷ rest)

-- what a Confirm is to a row in CHANGING
abbrev pub confirmation : Row → List ℕ → Option ℕ → Confirmation
confirmation row body ack = if answers_opening row.opened ack then timely_confirmation row body else c.Late

-- an event as the table has it
pub data TableEvent : Type 0 where
  Proposed : (proposal : Proposal) (mandatory : Bool) → TableEvent
  Confirmed : (confirmation : Confirmation) → TableEvent
  Preferred : (wish : Wanted) → TableEvent
  Offered : (confirmed : Bool) (offer : Offer) → TableEvent
  Sending : (number : ℕ) (opened : Option ℕ) → TableEvent

-- the event as the negotiation table has it, with its data judged by this row
abbrev pub heard : Row → RowEvent → TableEvent
heard row (Change body mandatory) = Proposed (proposal row body) mandatory
heard row (Confirm body ack) = Confirmed (confirmation row body ack)
heard row (Prefers wish) = Preferred wish
heard row (Offers confirmed) = Offered confirmed row.offer
heard row (Sends number) = Sending number row.opened

-- a Confirm's data: the row's value, and for a server-priority feature its active list
abbrev pub confirm_body : Row → List ℕ
confirm_body row = if is_server_priority row then row.value ∷ entries row.active else big_bytes (width row) row.value

-- an answer that leaves the row as it is
abbrev pub says : Row → RowAnswer → RowStep
says row answer = record { row = row; answer = answer }

-- a Confirm of the row's own value
abbrev pub confirms : Row → RowStep
confirms row = says row (Confirms (confirm_body row))

-- the row with another value, in the same stand
abbrev pub holding : Row → ℕ → Row
holding row value = record row { value = value }

-- the negotiation has ended at this value, in STABLE
abbrev pub settled : Row → ℕ → RowStep
settled row value = says (record row { value = value; stand = stand.Stable }) Settled

-- a negotiation begins for this wish: the row is in CHANGING, and no Change of it has a number yet
abbrev pub opened_with : Row → Option Wanted → Bool → RowStep
opened_with row wish mandatory = says (record row { stand = stand.Changing; active = wish; opened = None; mandatory = mandatory }) Opens

-- an offer is made at most once
abbrev pub without_offer : Row → Row
without_offer row = record row { offer = offer.Nothing }

-- the wish that waited becomes active, and its first Change has this number
abbrev pub sent_anew : Row → ℕ → Row
sent_anew row number =
    record row { stand = stand.Changing; active = row.pending; pending = None; opened = Some number; mandatory = false }

-- The negotiation table, one line for each of its rows, in its order; the first line that matches applies. The lines on offers, and on a row
-- that is STABLE and has nothing to send, come last.
abbrev pub row_line : Row → Stand → TableEvent → RowStep
row_line row _ (Proposed p.Invalid false) = says row (Confirms [])
row_line row _ (Proposed p.Invalid true) = says row (Fatal 6)
row_line row stand.Unstable (Proposed _ _) = says row Ignored
row_line row _ (Proposed (p.Shared value) _) = confirms (holding row value)
row_line row _ (Proposed p.Unshared false) = confirms row
row_line row _ (Proposed p.Unshared true) = says row (Fatal 6)
row_line row _ (Proposed (p.Told value) _) = confirms (holding row value)
row_line row stand.Stable (Confirmed _) = says row Ignored
row_line row stand.Unstable (Confirmed _) = says row Ignored
row_line row stand.Changing (Confirmed c.Late) = says row Ignored
row_line row stand.Changing (Confirmed c.Empty) =
    if (described row.feature).is_required then says row (Fatal 5) else settled row row.value
row_line row stand.Changing (Confirmed (c.Shared value)) = settled row value
row_line row stand.Changing (Confirmed c.Held) = settled row row.value
row_line row stand.Changing (Confirmed (c.Alone value)) = settled row value
row_line row stand.Changing (Confirmed (c.Told value)) = settled row value
row_line row stand.Changing (Confirmed c.Wrong) = says row (Fatal 5)
row_line row stand.Stable (Preferred wish) = opened_with row (Some wish) false
row_line row _ (Preferred wish) = says (record row { stand = stand.Unstable; pending = Some wish }) Waits
row_line row stand.Changing (Sending number None) = says (record row { opened = Some number }) Quiet
row_line row stand.Changing (Sending number (Some _)) = says row Quiet
row_line row stand.Unstable (Sending number _) = says (sent_anew row number) Quiet
row_line row stand.Stable (Sending number _) = says row Quiet
row_line row stand.Stable (Offered false offer.Plain) = opened_with (without_offer row) row.active false
row_line row stand.Stable (Offered false offer.Mandatory) = opened_with (without_offer row) row.active true
row_line row stand.Stable (Offered _ _) = says (without_offer row) Quiet
row_line row _ (Offered _ _) = says row Quiet

-- what an event makes of a row
abbrev pub row_step : Row → RowEvent → RowStep
row_step row event = row_line row row.stand (heard row event)
