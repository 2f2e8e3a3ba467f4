-- Which packets go out with short numbers, and that their headers are valid and no longer.
use Rattle.std.proofs.Common.{◌≡◌, refl, ap, ◌∙◌, ℕ, ◌≤◌, Bool, true, false, not, ◌&&◌, ◌||◌, List, [], ◌∷◌, ◌++◌, map, arith}
use Rattle.std.specs.List.{list_any}
use Rattle.dccp_options.specs.Written.{Item}
use Rattle.dccp_packets.specs.Forms.{in_form, may_be_short, number_in_form}
use Rattle.dccp_packets.specs.Grammar.{fixed_length, has_forms, is_long, packet_type}
use Rattle.dccp_packets.specs.declared.header.Kind.{Kind}
use Rattle.dccp_packets.specs.declared.header.Kind.TheVariants as kind
use Rattle.dccp_packets.proofs.Shortened as shortened
use Rattle.feature_lists.specs.declared.features.Place.{Place}
use Rattle.feature_lists.specs.declared.features.Place.TheVariants.{Here, There}
use Rattle.feature_machine.specs.declared.row.Row.{Row}
use Rattle.ack_vectors.specs.Vector.{option_data, vector_under}
use Rattle.ack_vectors.specs.declared.room.Vectors.{Vectors}
use Rattle.run_list.specs.MarkedSet.{MarkedSet, has}
use Rattle.dccp_endpoint.specs.Calling.{has_keys}
use Rattle.dccp_endpoint.specs.Drafts.{Draft, carrying}
use Rattle.dccp_endpoint.specs.End.{EndState}
use Rattle.dccp_endpoint.specs.Heeding.{DueConfirm, is_of_negotiation}
use Rattle.dccp_endpoint.specs.Reporting.{reporting, sends_vectors, vector_item, vector_items}
use Rattle.dccp_endpoint.specs.ShortForm.{allows_short, goes_short, is_negotiating}
use Rattle.dccp_endpoint.specs.Speaking.{change_items, change_type, confirm_items, confirm_type, has_confirms, saying}
use Rattle.dccp_endpoint.specs.Turns.{Key}

-- an Ack Vector says nothing of features
options_are_silent : (parts : List (List ℕ)) (items : List Item) → list_any is_negotiating (map vector_item parts ++ items) ≡ list_any is_negotiating items
options_are_silent [] items = refl
options_are_silent (part ∷ parts) items = options_are_silent parts items

front_is_silent : (has_vector : Bool) (vectors : Vectors) (set : MarkedSet) (ack : ℕ) (items : List Item)
    → list_any is_negotiating (vector_items has_vector vectors set ack ++ items) ≡ list_any is_negotiating items
front_is_silent true vectors set ack items = options_are_silent (option_data (vector_under (has set.numbers) set.floor ack vectors)) items
front_is_silent false vectors set ack items = refl

pub confirms_negotiate : (left : Bool) → is_of_negotiation (confirm_type left) ≡ true
confirms_negotiate true = refl
confirms_negotiate false = refl

pub changes_negotiate : (place : Place) → is_of_negotiation (change_type place) ≡ true
changes_negotiate Here = refl
changes_negotiate There = refl

-- Confirms and Changes do
says_negotiate : (confirms : List DueConfirm) (rows : List Row) (keys : List Key)
    → list_any is_negotiating (confirm_items confirms ++ change_items rows keys) ≡ (has_confirms confirms || has_keys keys)
says_negotiate [] rows [] = refl
says_negotiate [] rows (k ∷ keys) = ap (λ (b : Bool). b || list_any is_negotiating (change_items rows keys)) (changes_negotiate k.1)
says_negotiate (due ∷ rest) rows keys =
    ap (λ (b : Bool). b || list_any is_negotiating (confirm_items rest ++ change_items rows keys)) (confirms_negotiate due.left)

-- whether an Ack goes out with short numbers
pub short_ack : (e : EndState) (k : Kind) (confirms : List DueConfirm) (rows : List Row) (keys : List Key) → may_be_short (packet_type k) ≡ true
    → goes_short e (reporting e (saying k confirms rows keys)) ≡ (allows_short e && not (has_confirms confirms || has_keys keys))
short_ack e k confirms rows keys may =
    ap (λ (b : Bool). b && (allows_short e && not (list_any is_negotiating (reporting e (saying k confirms rows keys)).options))) may
    ∙ ap (λ (b : Bool). allows_short e && not b)
    (front_is_silent (sends_vectors e.rows) e.config.vectors e.received.set e.marks.gsr (confirm_items confirms ++ change_items rows keys)
    ∙ says_negotiate confirms rows keys)

-- a type that has only long numbers
pub stays_long : (e : EndState) (draft : Draft) → may_be_short (packet_type draft.kind) ≡ false → goes_short e draft ≡ false
stays_long e draft long = ap (λ (b : Bool). b && (allows_short e && not (list_any is_negotiating draft.options))) long

and_true : (b : Bool) → (b && true) ≡ b
and_true true = refl
and_true false = refl

-- a Data
pub short_data : (e : EndState) (payload : List ℕ) → goes_short e (carrying kind.Data payload) ≡ allows_short e
short_data e payload = and_true (allows_short e)

-- an Ack or a DataAck with only its Ack Vector goes short where the end allows it
pub short_report : (e : EndState) (k : Kind) (payload : List ℕ) → may_be_short (packet_type k) ≡ true
    → goes_short e (reporting e (carrying k payload)) ≡ allows_short e
short_report e k payload may = short_ack e k [] [] [] may ∙ and_true (allows_short e)

-- the numbers of a header in the form have a form of the type
pub is_formed : (short : Bool) (number : ℕ) (k : Kind) → has_forms true k ≡ true → (short ≡ true → may_be_short (packet_type k) ≡ true)
    → has_forms (is_long (number_in_form short number)) (in_form short k) ≡ true
is_formed short number k long may =
    ap (λ (b : Bool). has_forms b (in_form short k)) (shortened.number_form short number) ∙ shortened.formed short k long may

-- and its fixed part is no longer
pub no_longer : (short : Bool) (number : ℕ) (k : Kind)
    → fixed_length (is_long (number_in_form short number)) (packet_type (in_form short k)) ≤ fixed_length true (packet_type k)
no_longer true number k =
    let same : fixed_length false (packet_type (in_form true k)) ≡ fixed_length false (packet_type k) =
    ap (fixed_length false) (shortened.type_in_form true k) in
    let less : fixed_length false (packet_type k) ≤ fixed_length true (packet_type k) = shortened.no_longer true (packet_type k) in
    omega (arith, same, less)
no_longer false number k = omega arith
