-- An end's packets have few options: at most eighteen Changes, and a Confirm for each Change of the packet that they answer.
use Rattle.std.proofs.Common.{◌≡◌, refl, ap, ◌∙◌, subst, ℕ, ◌+◌, ◌≤◌, ◌&&◌, not, nat_le, nat_lt, Bool, true, false, List, [], ◌∷◌, ◌++◌, Option, Result, Ok, Err, if◌then◌else◌, length, length-append, take, drop, map, arith}
use Rattle.std.specs.Prelude.{slice_index_or}
use Rattle.std.proofs.lemmas.List.{length-map}
use Rattle.std.proofs.lemmas.List.Elements.{All-cons, All-nil}
use Rattle.std.specs.List.{All}
use Rattle.ack_vectors.specs.Vector.{option_data, vector_under}
use Rattle.ack_vectors.specs.declared.room.Vectors.{Vectors}
use Rattle.dccp_options.specs.Grammar.{Entry}
use Rattle.dccp_options.specs.Kinds.{is_understood}
use Rattle.dccp_options.specs.Written.{Item, entries_at, spelled}
use Rattle.dccp_options.specs.declared.option.OptFault.{OptFault}
use Rattle.dccp_packets.specs.declared.reset_code.ResetCode.TheVariants as codes
use Rattle.dccp_endpoint.proofs.OwnPackets.{parts-are, vector_parts}
use Rattle.dccp_endpoint.proofs.Short.{changes_negotiate, confirms_negotiate}
use Rattle.dccp_endpoint.specs.Heeding.{DueConfirm, ReadingState, by_answered, by_settling, counted, fault_of, heeds, heeds_body, heeds_change, heeds_entry, heeds_feature, heeds_first, heeds_then, is_change, is_left, is_of_negotiation, met, misunderstood, place_in_used}
use Rattle.dccp_endpoint.specs.Reporting.{vector_item, vector_items}
use Rattle.dccp_endpoint.specs.Speaking.{change_item, change_items, change_type, confirm_item, confirm_items, confirm_type}
use Rattle.dccp_endpoint.specs.Turns.{Key}
use Rattle.dccp_states.specs.declared.outcome.Fault.{Fault}
use Rattle.feature_lists.specs.declared.features.Place.{Place}
use Rattle.feature_lists.specs.declared.features.Place.TheVariants.{Here, There}
use Rattle.feature_machine.specs.Answers.{ChangeAnswer, Confirming, Ignoring, Failing, answered, settling_of}
use Rattle.feature_machine.specs.Negotiating.{changes, confirmed, row_at}
use Rattle.feature_machine.specs.declared.answers.Settling.{Settling}
use Rattle.feature_machine.specs.declared.answers.Settling.TheVariants as settling
use Rattle.feature_machine.specs.declared.row.Row.{Row}
use Rattle.run_list.specs.MarkedSet.{MarkedSet, has}

abbrev pub one_for : Bool → ℕ
one_for true = 1
one_for false = 0

-- the Changes among options, as they are written and as they are read
abbrev pub changes_in : List Item → ℕ
changes_in [] = 0
changes_in (item ∷ rest) = one_for (is_change item.kind) + changes_in rest

abbrev pub changes_read : List (Result Entry OptFault) → ℕ
changes_read [] = 0
changes_read (Err _ ∷ rest) = changes_read rest
changes_read (Ok entry ∷ rest) = one_for (is_change entry.kind) + changes_read rest

-- as many Changes are read as were written
pub changes-as-read : (place : ℕ) (items : List Item) → changes_read (map Ok (entries_at place items)) ≡ changes_in items
changes-as-read place [] = refl
changes-as-read place (item ∷ items) =
    ap (λ (n : ℕ). one_for (is_change item.kind) + n) (changes-as-read (place + length (spelled item.mandatory item.kind item.body)) items)

-- no more Confirms than before, and so many
abbrev AddsUpTo : ℕ → ReadingState → Result ReadingState Fault → Type 0
AddsUpTo more h (Ok next) = length next.confirms ≤ length h.confirms + more
AddsUpTo more h (Err fault) = Unit {0}

answer-adds : (h : ReadingState) (place : ℕ) (rows : List Row) (entry : Entry) (a : ChangeAnswer) → AddsUpTo 1 h (by_answered h place rows entry a)
answer-adds h place rows entry (Confirming left number body) =
    omega (arith, length-append h.confirms (record { left = left; number = number; body = body } ∷ []))
answer-adds h place rows entry Ignoring = omega arith
answer-adds h place rows entry Failing = tt

settling-adds : (more : ℕ) (h : ReadingState) (place : ℕ) (rows : List Row) (entry : Entry) (s : Settling) → AddsUpTo more h (by_settling h place rows entry s)
settling-adds more h place rows entry settling.Settled = omega arith
settling-adds more h place rows entry settling.Ignored = omega arith
settling-adds more h place rows entry settling.Fatal = tt

first-adds : (ack : Option ℕ) (h : ReadingState) (entry : Entry) (change left : Bool) (number : ℕ) (body : List ℕ)
    → AddsUpTo (one_for change) h (heeds_first ack h entry change left number body)
first-adds ack h entry true left number body = by (nat_lt h.changes 64) where
  by : (few : Bool) → AddsUpTo 1 h (if few then heeds_change h entry left number body else Ok (met h (place_in_used left number) true h.rows h.confirms))
  by true =
      answer-adds h (place_in_used left number) (changes h.rows left number body entry.mandatory).rows entry
      (answered left number (changes h.rows left number body entry.mandatory).answer)
  by false = omega arith
first-adds ack h entry false left number body =
    settling-adds 0 h (place_in_used left number) (confirmed h.rows left number body ack).rows entry
    (settling_of (confirmed h.rows left number body ack).answer)

feature-adds : (ack : Option ℕ) (h : ReadingState) (entry : Entry) (change left : Bool) (number : ℕ) (body : List ℕ)
    → AddsUpTo (one_for change) h (heeds_feature ack h entry change left number body)
feature-adds ack h entry change left number body = by (slice_index_or h.used (place_in_used left number) false) where
  by : (used : Bool)
      → AddsUpTo (one_for change) h (if used then Ok (record h { changes = counted h.changes change }) else heeds_first ack h entry change left number body)
  by true = omega arith
  by false = first-adds ack h entry change left number body

body-adds : (ack : Option ℕ) (h : ReadingState) (entry : Entry) (body : List ℕ) → AddsUpTo (one_for (is_change entry.kind)) h (heeds_body ack h entry body)
body-adds ack h entry [] = omega arith
body-adds ack h entry (number ∷ body) = feature-adds ack h entry (is_change entry.kind) (is_left entry.kind) number body

misread-adds : (more : ℕ) (h : ReadingState) (entry : Entry) (mandatory : Bool)
    → AddsUpTo more h (if mandatory then Err (fault_of codes.MandatoryError entry) else Ok h)
misread-adds more h entry true = tt
misread-adds more h entry false = omega arith

entry-adds : (count : Bool) (ack : Option ℕ) (h : ReadingState) (entry : Entry) → AddsUpTo (one_for (is_change entry.kind)) h (heeds_entry count ack h entry)
entry-adds count ack h entry = by (not (is_understood entry.kind (length entry.body))) (count && is_of_negotiation entry.kind) where
  by : (odd counts : Bool)
      → AddsUpTo (one_for (is_change entry.kind)) h (if odd then misunderstood h entry else if counts then heeds_body ack h entry entry.body else Ok h)
  by true counts = misread-adds (one_for (is_change entry.kind)) h entry entry.mandatory
  by false true = body-adds ack h entry entry.body
  by false false = omega arith

-- The Confirms that are due are no more than the Changes.
pub heeds-adds : (count : Bool) (ack : Option ℕ) (h : ReadingState) (items : List (Result Entry OptFault))
    → AddsUpTo (changes_read items) h (heeds count ack h items)
heeds-adds count ack h [] = omega arith
heeds-adds count ack h (Err _ ∷ rest) = tt
heeds-adds count ack h (Ok entry ∷ rest) = by (heeds_entry count ack h entry) (entry-adds count ack h entry) (λ next. heeds-adds count ack next rest) where
  by : (read : Result ReadingState Fault) → AddsUpTo (one_for (is_change entry.kind)) h read
      → ((next : ReadingState) → AddsUpTo (changes_read rest) next (heeds count ack next rest))
      → AddsUpTo (one_for (is_change entry.kind) + changes_read rest) h (heeds_then read (λ next. heeds count ack next rest))
  by (Err fault) one again = tt
  by (Ok next) one again = joined (heeds count ack next rest) (again next) where
    joined : (end : Result ReadingState Fault) → AddsUpTo (changes_read rest) next end → AddsUpTo (one_for (is_change entry.kind) + changes_read rest) h end
    joined (Err fault) more = tt
    joined (Ok last) more = omega (arith, one, more)

-- each Change that is heeded adds one Confirm at most
pub heeded-few : (count : Bool) (ack : Option ℕ) (h end : ReadingState) (items : List (Result Entry OptFault)) → heeds count ack h items ≡ Ok end
    → length end.confirms ≤ length h.confirms + changes_read items
heeded-few count ack h end items is = subst (AddsUpTo (changes_read items) h) is (heeds-adds count ack h items)

-- no Confirm is a Change, and each Change is
confirm-no-change : (left : Bool) → is_change (confirm_type left) ≡ false
confirm-no-change true = refl
confirm-no-change false = refl

change-is : (place : Place) → is_change (change_type place) ≡ true
change-is Here = refl
change-is There = refl

-- the Changes written are those of the rows that ask
pub written-changes : (confirms : List DueConfirm) (rows : List Row) (keys : List Key) → changes_in (confirm_items confirms ++ change_items rows keys) ≡ length keys
written-changes [] rows [] = refl
written-changes [] rows (k ∷ keys) =
    ap (λ (b : Bool). one_for b + changes_in (change_items rows keys)) (change-is k.1) ∙ ap (λ (n : ℕ). 1 + n) (written-changes [] rows keys)
    ∙ omega arith
written-changes (due ∷ confirms) rows keys =
    omega (arith, ap one_for (confirm-no-change due.left), written-changes confirms rows keys)

-- an Ack Vector in front is none, and two options more at most
parts-changes : (parts : List (List ℕ)) (rest : List Item) → changes_in (map vector_item parts ++ rest) ≡ changes_in rest
parts-changes [] rest = refl
parts-changes (part ∷ parts) rest =
    let none = parts-changes parts rest in
    omega (arith, none)

-- a vector is no Change
pub vector-changes : (has_vector : Bool) (setting : Vectors) (set : MarkedSet) (ack : ℕ) (rest : List Item)
    → changes_in (vector_items has_vector setting set ack ++ rest) ≡ changes_in rest
vector-changes has_vector setting set ack rest =
    ap (λ (front : List Item). changes_in (front ++ rest)) (parts-are has_vector setting set ack)
    ∙ parts-changes (vector_parts has_vector setting set ack) rest

data-few : (bytes : List ℕ) → length (option_data bytes) ≤ 2
data-few bytes = by (nat_le (length bytes) 253) where
  by : (one : Bool) → length (if one then bytes ∷ [] else take 253 bytes ∷ drop 253 bytes ∷ []) ≤ 2
  by true = omega arith
  by false = omega arith

-- a vector takes two options at most
pub vector-length : (has_vector : Bool) (setting : Vectors) (set : MarkedSet) (ack : ℕ) (rest : List Item)
    → length (vector_items has_vector setting set ack ++ rest) ≤ 2 + length rest
vector-length true setting set ack rest =
    let parts : List (List ℕ) = option_data (vector_under (has set.numbers) set.floor ack setting) in
    let few = data-few (vector_under (has set.numbers) set.floor ack setting) in
    omega (arith, length-append (map vector_item parts) rest, length-map {B = Item} parts vector_item, few)
vector-length false setting set ack rest = omega arith

abbrev pub IsNegotiating : Item → Type 0
IsNegotiating item = is_of_negotiation item.kind ≡ true

-- all else that is written is of the negotiation: Confirms and Changes
pub written-kinds : (confirms : List DueConfirm) (rows : List Row) (keys : List Key) → All IsNegotiating (confirm_items confirms ++ change_items rows keys)
written-kinds [] rows [] = All-nil IsNegotiating
written-kinds [] rows (k ∷ keys) =
    All-cons IsNegotiating (change_item k (row_at rows k.0 k.1)) (change_items rows keys) (changes_negotiate k.1)
    (written-kinds [] rows keys)
written-kinds (due ∷ confirms) rows keys =
    All-cons IsNegotiating (confirm_item due) (confirm_items confirms ++ change_items rows keys) (confirms_negotiate due.left) (written-kinds confirms rows keys)

-- one option for each Confirm and each row that asks
pub written-length : (confirms : List DueConfirm) (rows : List Row) (keys : List Key)
    → length (confirm_items confirms ++ change_items rows keys) ≡ length confirms + length keys
written-length confirms rows keys =
    length-append (confirm_items confirms) (change_items rows keys)
    ∙ omega (arith, length-map {B = Item} confirms confirm_item, length-map {B = Item} keys (λ (k : Key). change_item k (row_at rows k.0 k.1)))
