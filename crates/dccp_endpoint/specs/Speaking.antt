-- What an end says about features on its packets, and what this changes at the end (RFC 4340, section 6; the order of options is own: the
-- Confirms, then the Changes).
use Rattle.std.specs.Prelude.{◌≡◌, ◌==◌, ◌≤◌, ◌&&◌, not, ℕ, Bool, true, false, List, [], ◌∷◌, ◌++◌, length, map, filter, Option, Some, None}
use Rattle.std.specs.List.{list_any}
use Rattle.byteorder.specs.Endian.{big_bytes}
use Rattle.dccp_options.specs.Kinds as options
use Rattle.dccp_options.specs.Written.{Item, written}
use Rattle.dccp_packets.specs.Outgoing.{Outgoing}
use Rattle.dccp_packets.specs.declared.header.Kind.{Kind}
use Rattle.feature_lists.specs.Features.{described, feature_number}
use Rattle.feature_lists.specs.declared.features.Feature.{Feature}
use Rattle.feature_lists.specs.declared.features.Place.{Place}
use Rattle.feature_lists.specs.declared.features.Place.TheVariants.{Here, There}
use Rattle.feature_lists.specs.declared.wishes.Wanted.{Wanted}
use Rattle.feature_lists.specs.declared.wishes.Wanted.TheVariants as wanted
use Rattle.feature_machine.specs.Negotiating.{due_keys, every_place, is_due, row_at}
use Rattle.feature_machine.specs.Turns.{turned}
use Rattle.feature_machine.specs.declared.row.Row.{Row}
use Rattle.feature_machine.specs.declared.stands.Stand.TheVariants.{Changing}
use Rattle.dccp_endpoint.specs.Drafts.{Draft}
use Rattle.dccp_endpoint.specs.End.{EndState, with_rows}
use Rattle.dccp_endpoint.specs.Heeding.{DueConfirm}
use Rattle.dccp_endpoint.specs.Steps.{next_frame, next_number}
use Rattle.dccp_endpoint.specs.Turns.{Key, offerings, sendings}

-- Change L speaks of a feature here, Change R of one at the peer (section 6.1).
abbrev pub change_type : Place → ℕ
change_type Here = options.change_l
change_type There = options.change_r

-- the bytes of a wish: the list, or the one value in as many bytes as the feature has
abbrev pub wish_bytes : Feature → Option Wanted → List ℕ
wish_bytes feature None = []
wish_bytes feature (Some (wanted.List list)) = list
wish_bytes feature (Some (wanted.Number number)) = big_bytes (described feature).width number

-- the Change of a row as it goes out
abbrev pub change_item : Key → Row → Item
change_item k row = record { mandatory = row.mandatory; kind = change_type k.1; body = feature_number k.0 ∷ wish_bytes k.0 row.active }

-- the Changes of these rows, in their order
abbrev pub change_items : List Row → List Key → List Item
change_items rows keys = map (λ (k : Key). change_item k (row_at rows k.0 k.1)) keys

-- These rows' Changes go out on the next packet.
abbrev pub asks : EndState → List Key → EndState
asks e keys = with_rows e (turned e.rows (sendings (next_number e) keys))

-- a Change of each of these rows is due
abbrev pub AreDue : List Row → List Key → Type 0
AreDue rows [] = Unit {0}
AreDue rows (k ∷ keys) = (is_due (row_at rows k.0 k.1) ≡ true) × AreDue rows keys

-- each of these rows is in CHANGING
abbrev pub AreChanging : List Row → List Key → Type 0
AreChanging rows [] = Unit {0}
AreChanging rows (k ∷ keys) = ((row_at rows k.0 k.1).stand ≡ Changing) × AreChanging rows keys

-- Confirm L and Confirm R (section 6.2)
abbrev pub confirm_type : Bool → ℕ
confirm_type true = options.confirm_l
confirm_type false = options.confirm_r

-- a Confirm as it goes out
abbrev pub confirm_item : DueConfirm → Item
confirm_item due = record { mandatory = false; kind = confirm_type due.left; body = due.number ∷ due.body }

-- the Confirms of a packet, in the order in which they became due
abbrev pub confirm_items : List DueConfirm → List Item
confirm_items confirms = map confirm_item confirms

-- Confirms that leave room for an Ack Vector or for all Changes: at most 64, of 3 bytes, and of 9 more if one of the eighteen rows answers
-- (own).
abbrev pub HaveRoom : List DueConfirm → Type 0
HaveRoom confirms = length (written (confirm_items confirms)) ≤ 354

-- Confirm L speaks of a feature here, Confirm R of one at the peer.
abbrev pub is_of_place : Bool → Place → Bool
is_of_place true Here = true
is_of_place true There = false
is_of_place false Here = false
is_of_place false There = true

-- a Confirm is for the row
abbrev pub is_for : Key → DueConfirm → Bool
is_for k due = due.number == feature_number k.0 && is_of_place due.left k.1

-- one of the Confirms is for the row
abbrev pub is_confirmed : List DueConfirm → Key → Bool
is_confirmed confirms k = list_any (is_for k) confirms

-- the rows that have none of the Confirms
abbrev pub unconfirmed : List DueConfirm → List Key → List Key
unconfirmed confirms keys = filter (λ k. not (is_confirmed confirms k)) keys

-- All offers that were not made yet are made; those of rows that have one of these Confirms are dropped.
abbrev pub offers : EndState → List DueConfirm → EndState
offers e confirms = with_rows e (turned e.rows (offerings (is_confirmed confirms) every_place))

-- whether there are any
abbrev pub has_confirms : List DueConfirm → Bool
has_confirms [] = false
has_confirms (due ∷ rest) = true

-- A packet that says all that is due: the Confirms and the Changes of these rows, as they are once they went out.
abbrev pub saying : Kind → List DueConfirm → List Row → List Key → Draft
saying kind confirms rows keys = record { kind = kind; options = confirm_items confirms ++ change_items rows keys; payload = [] }

-- The next frame of an end whose rows ask: it says all that is due, once the Changes of these rows went out.
abbrev pub asking_frame : EndState → Kind → List DueConfirm → List Key → Outgoing
asking_frame e kind confirms keys = next_frame (asks e keys) (saying kind confirms (asks e keys).rows keys)

-- a packet with only Confirms
abbrev pub confirming : Kind → List DueConfirm → Draft
confirming kind confirms = record { kind = kind; options = confirm_items confirms; payload = [] }

-- the rows that ask in a Request or a Response, after the offers: those whose Change is due and that have no Confirm
-- in it
abbrev pub asking : List Row → List DueConfirm → List Key
asking rows confirms = unconfirmed confirms (due_keys rows)
