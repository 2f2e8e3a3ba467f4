-- What an end's own packet says to a row of the peer: the Confirm for the row, or else its Change, or else nothing, and once at most
-- (RFC 4340, section 6).
use Rattle.std.proofs.Common.{◌≡◌, ◌==◌, ◌&&◌, ◌||◌, ◌≤◌, refl, sym, ap, ◌∙◌, arith, ℕ, ◌+◌, Bool, true, false, List, [], ◌∷◌, ◌++◌, length, map, Option, Result, Ok}
use Rattle.std.specs.Prelude.{if◌then◌else◌}
use Rattle.std.proofs.lemmas.Bool.{cond-false, cond-true, eq-eqb, eqb-false, ne_eqb}
use Rattle.std.proofs.Common.{eqb-true}
use Rattle.ack_vectors.specs.Vector.{option_data, vector_under}
use Rattle.ack_vectors.specs.declared.room.Vectors.{Vectors}
use Rattle.dccp_endpoint.specs.Reporting.{vector_item, vector_items}
use Rattle.dccp_options.specs.Grammar.{Entry}
use Rattle.dccp_options.specs.Written.{Item, entries_at, mark, spelled}
use Rattle.dccp_options.specs.declared.option.OptFault.{OptFault}
use Rattle.feature_lists.specs.Features.{feature_number}
use Rattle.feature_lists.specs.declared.features.Place.{Place}
use Rattle.feature_lists.specs.declared.features.Place.TheVariants.{Here, There}
use Rattle.feature_machine.specs.Negotiating.{row_at, opposite}
use Rattle.feature_machine.specs.Rows.{RowEvent, Change, Confirm}
use Rattle.feature_machine.specs.declared.row.Row.{Row}
use Rattle.run_list.specs.MarkedSet.{MarkedSet, has}
use Rattle.dccp_endpoint.specs.Heeding.{DueConfirm, event_of, is_change, is_left, is_of_negotiation}
use Rattle.dccp_endpoint.specs.Saying.{OwnPacketsSayOfARow, OwnPacketsSpeakOnce, body_if, change_if, confirm_for, event_in, has_key, is_key, once_if, own_options, said_of, said_to, speaks_to, times_confirmed, times_said_to}
use Rattle.dccp_endpoint.specs.Speaking.{change_item, change_items, change_type, confirm_item, confirm_items, confirm_type, is_confirmed, is_for, is_of_place, wish_bytes}
use Rattle.dccp_endpoint.specs.Turns.{Key}
use Rattle.dccp_endpoint.proofs.Keys.{AreDistinct, first-apart, key-so, rest-distinct, times-none}

-- the row of the peer
abbrev theirs : Key → Key
theirs k = (k.0, opposite k.1)

-- an option as it is read, at some place among the bytes
abbrev entry_of : ℕ → Item → Entry
entry_of place item = record { place = place + length (mark item.mandatory); mandatory = item.mandatory; kind = item.kind; body = item.body }

-- the place of the option after it
abbrev following : ℕ → Item → ℕ
following place item = place + length (spelled item.mandatory item.kind item.body)

-- a Confirm speaks to the row that it is for, and a Change to the row of its key
confirm-letter : (test left : Bool) (place : Place)
    → (is_of_negotiation (confirm_type left) && (test && is_of_place (is_left (confirm_type left)) (opposite (opposite place))))
    ≡ (test && is_of_place left place)
confirm-letter test true Here = refl
confirm-letter test true There = refl
confirm-letter test false Here = refl
confirm-letter test false There = refl

confirm-speaks : (k : Key) (place : ℕ) (due : DueConfirm) → speaks_to (theirs k) (entry_of place (confirm_item due)) ≡ is_for k due
confirm-speaks k place due = confirm-letter (due.number == feature_number k.0) due.left k.1

change-letter : (test : Bool) (here place : Place)
    → (is_of_negotiation (change_type here) && (test && is_of_place (is_left (change_type here)) (opposite (opposite place))))
    ≡ (test && is_of_place (is_of_place true place) here)
change-letter test Here Here = refl
change-letter test Here There = refl
change-letter test There Here = refl
change-letter test There There = refl

turned-test : (a b : ℕ) → (a == b) ≡ (b == a)
turned-test a b = by (b == a) refl where
  by : (same : Bool) → (b == a) ≡ same → (a == b) ≡ same
  by true is = eq-eqb a b (sym (eqb-true b a is))
  by false is = ne_eqb a b (λ same. eqb-false b a is (sym same))

change-speaks : (k key : Key) (place : ℕ) (row : Row) → speaks_to (theirs k) (entry_of place (change_item key row)) ≡ is_key k key
change-speaks k key place row =
    change-letter (feature_number key.0 == feature_number k.0) key.1 k.1
    ∙ ap (λ (test : Bool). test && is_of_place (is_of_place true k.1) key.1) (turned-test (feature_number key.0) (feature_number k.0))

-- what they say
confirm-event : (ack : Option ℕ) (place : ℕ) (due : DueConfirm) → event_in ack (entry_of place (confirm_item due)) ≡ Confirm due.body ack
confirm-event ack place due = by due.left where
  by : (left : Bool) → event_of ack (entry_of place (confirm_item due)) (is_change (confirm_type left)) due.body ≡ Confirm due.body ack
  by true = refl
  by false = refl

change-event : (ack : Option ℕ) (key : Key) (place : ℕ) (row : Row)
    → event_in ack (entry_of place (change_item key row)) ≡ Change (wish_bytes key.0 row.active) row.mandatory
change-event ack key place row = by key.1 where
  by : (here : Place) → event_of ack (entry_of place (change_item key row)) (is_change (change_type here)) (wish_bytes key.0 row.active)
      ≡ Change (wish_bytes key.0 row.active) row.mandatory
  by Here = refl
  by There = refl

abbrev as_read : ℕ → List Item → List (Result Entry OptFault)
as_read place items = map Ok (entries_at place items)

module _ (ack : Option ℕ) (rows : List Row) (k : Key) where
  changes-said : (keys : List Key) (place : ℕ)
      → said_to true ack (theirs k) (as_read place (change_items rows keys)) ≡ change_if (has_key k keys) k (row_at rows k.0 k.1)
  changes-said [] place = refl
  changes-said (key ∷ rest) place =
      by (is_key k key) refl (change-speaks k key place row) (changes-said rest (following place (change_item key row)))
    where
      row : Row
      row = row_at rows key.0 key.1

      entry : Entry
      entry = entry_of place (change_item key row)

      later : List (Result Entry OptFault)
      later = as_read (following place (change_item key row)) (change_items rows rest)

      by : (same : Bool) → is_key k key ≡ same → speaks_to (theirs k) entry ≡ is_key k key
          → said_to true ack (theirs k) later ≡ change_if (has_key k rest) k (row_at rows k.0 k.1)
          → (if speaks_to (theirs k) entry then event_in ack entry ∷ [] else said_to true ack (theirs k) later)
          ≡ change_if (same || has_key k rest) k (row_at rows k.0 k.1)
      by true same speaks others =
          cond-true (speaks_to (theirs k) entry) (event_in ack entry ∷ []) (said_to true ack (theirs k) later) (speaks ∙ same)
          ∙ ap (λ (event : RowEvent). event ∷ []) (change-event ack key place row)
          ∙ ap (λ (one : Key). change_if true one (row_at rows one.0 one.1)) (sym (key-so k key same))
      by false other speaks others =
          cond-false (speaks_to (theirs k) entry) (event_in ack entry ∷ []) (said_to true ack (theirs k) later) (speaks ∙ other) ∙ others

  all-said : (confirms : List DueConfirm) (keys : List Key) (place : ℕ)
      → said_to true ack (theirs k) (as_read place (confirm_items confirms ++ change_items rows keys))
      ≡ said_of (confirm_for k confirms) (has_key k keys) ack k (row_at rows k.0 k.1)
  all-said [] keys place = changes-said keys place
  all-said (due ∷ rest) keys place =
      by (is_for k due) (confirm-speaks k place due) (all-said rest keys (following place (confirm_item due)))
    where
      entry : Entry
      entry = entry_of place (confirm_item due)

      later : List (Result Entry OptFault)
      later = as_read (following place (confirm_item due)) (confirm_items rest ++ change_items rows keys)

      by : (its : Bool) → speaks_to (theirs k) entry ≡ its
          → said_to true ack (theirs k) later ≡ said_of (confirm_for k rest) (has_key k keys) ack k (row_at rows k.0 k.1)
          → (if speaks_to (theirs k) entry then event_in ack entry ∷ [] else said_to true ack (theirs k) later)
          ≡ said_of (body_if its due.body (confirm_for k rest)) (has_key k keys) ack k (row_at rows k.0 k.1)
      by true speaks others =
          cond-true (speaks_to (theirs k) entry) (event_in ack entry ∷ []) (said_to true ack (theirs k) later) speaks
          ∙ ap (λ (event : RowEvent). event ∷ []) (confirm-event ack place due)
      by false speaks others =
          cond-false (speaks_to (theirs k) entry) (event_in ack entry ∷ []) (said_to true ack (theirs k) later) speaks ∙ others

-- where the options after the Ack Vector stand, if there is one
abbrev after_parts : ℕ → List (List ℕ) → ℕ
after_parts place [] = place
after_parts place (part ∷ parts) = after_parts (following place (vector_item part)) parts

-- the data of the options of the Ack Vector, if there is one
abbrev pub vector_parts : Bool → Vectors → MarkedSet → ℕ → List (List ℕ)
vector_parts true vectors set greatest = option_data (vector_under (has set.numbers) set.floor greatest vectors)
vector_parts false vectors set greatest = []

abbrev after_vector : Bool → Vectors → MarkedSet → ℕ → ℕ
after_vector has_vector vectors set greatest = after_parts 0 (vector_parts has_vector vectors set greatest)

-- the items of a vector are its parts
pub parts-are : (has_vector : Bool) (vectors : Vectors) (set : MarkedSet) (greatest : ℕ)
    → vector_items has_vector vectors set greatest ≡ map vector_item (vector_parts has_vector vectors set greatest)
parts-are true vectors set greatest = refl
parts-are false vectors set greatest = refl

-- An Ack Vector speaks to no row.
parts-say-nothing : (ack : Option ℕ) (place : ℕ) (parts : List (List ℕ)) (items : List Item) (k : Key)
    → said_to true ack (theirs k) (as_read place (map vector_item parts ++ items)) ≡ said_to true ack (theirs k) (as_read (after_parts place parts) items)
parts-say-nothing ack place [] items k = refl
parts-say-nothing ack place (part ∷ parts) items k = parts-say-nothing ack (following place (vector_item part)) parts items k

vector-says-nothing : (ack : Option ℕ) (has_vector : Bool) (vectors : Vectors) (set : MarkedSet) (greatest : ℕ) (confirms : List DueConfirm) (rows : List Row)
    (keys : List Key) (k : Key)
    → said_to true ack (theirs k) (as_read 0 (own_options has_vector vectors set greatest confirms rows keys))
    ≡ said_to true ack (theirs k) (as_read (after_vector has_vector vectors set greatest) (confirm_items confirms ++ change_items rows keys))
vector-says-nothing ack has_vector vectors set greatest confirms rows keys k =
    ap (λ (front : List Item). said_to true ack (theirs k) (as_read 0 (front ++ (confirm_items confirms ++ change_items rows keys))))
    (parts-are has_vector vectors set greatest)
    ∙ parts-say-nothing ack 0 (vector_parts has_vector vectors set greatest) (confirm_items confirms ++ change_items rows keys) k

-- the law on what own packets say
pub own_packets_say : OwnPacketsSayOfARow
own_packets_say = λ ack has_vector vectors set greatest confirms rows keys k.
    vector-says-nothing ack has_vector vectors set greatest confirms rows keys k
    ∙ all-said ack rows k confirms keys (after_vector has_vector vectors set greatest)

module _ (rows : List Row) (k : Key) where
  changes-times : (keys : List Key) (place : ℕ) → AreDistinct keys
      → times_said_to (theirs k) (as_read place (change_items rows keys)) ≡ once_if (has_key k keys)
  changes-times [] place distinct = refl
  changes-times (key ∷ rest) place distinct =
      by (is_key k key) refl (change-speaks k key place (row_at rows key.0 key.1))
      (changes-times rest (following place (change_item key (row_at rows key.0 key.1))) (rest-distinct key rest distinct))
    where
      entry : Entry
      entry = entry_of place (change_item key (row_at rows key.0 key.1))

      later : List (Result Entry OptFault)
      later = as_read (following place (change_item key (row_at rows key.0 key.1))) (change_items rows rest)

      by : (same : Bool) → is_key k key ≡ same → speaks_to (theirs k) entry ≡ is_key k key
          → times_said_to (theirs k) later ≡ once_if (has_key k rest)
          → once_if (speaks_to (theirs k) entry) + times_said_to (theirs k) later ≡ once_if (same || has_key k rest)
      by true same speaks others =
          let now : once_if (speaks_to (theirs k) entry) ≡ 1 = ap once_if (speaks ∙ same) in
          let apart : has_key k rest ≡ false = ap (λ (one : Key). has_key one rest) (key-so k key same) ∙ first-apart key rest distinct in
          let none : times_said_to (theirs k) later ≡ 0 = others ∙ ap once_if apart in
          omega (arith, now, none)
      by false other speaks others =
          let now : once_if (speaks_to (theirs k) entry) ≡ 0 = ap once_if (speaks ∙ other) in
          omega (arith, now, others)

  all-times : (confirms : List DueConfirm) (keys : List Key) (place : ℕ) → AreDistinct keys
      → times_said_to (theirs k) (as_read place (confirm_items confirms ++ change_items rows keys))
      ≡ times_confirmed k confirms + once_if (has_key k keys)
  all-times [] keys place distinct = let changes = changes-times keys place distinct in omega (arith, changes)
  all-times (due ∷ rest) keys place distinct =
      let now : once_if (speaks_to (theirs k) (entry_of place (confirm_item due))) ≡ once_if (is_for k due) = ap once_if (confirm-speaks k place due) in
      let later = all-times rest keys (following place (confirm_item due)) distinct in
      omega (arith, now, later)

parts-never-speak : (place : ℕ) (parts : List (List ℕ)) (items : List Item) (k : Key)
    → times_said_to (theirs k) (as_read place (map vector_item parts ++ items)) ≡ times_said_to (theirs k) (as_read (after_parts place parts) items)
parts-never-speak place [] items k = refl
parts-never-speak place (part ∷ parts) items k = let rest = parts-never-speak (following place (vector_item part)) parts items k in omega (arith, rest)

vector-never-speaks : (has_vector : Bool) (vectors : Vectors) (set : MarkedSet) (greatest : ℕ) (confirms : List DueConfirm) (rows : List Row) (keys : List Key)
    (k : Key)
    → times_said_to (theirs k) (as_read 0 (own_options has_vector vectors set greatest confirms rows keys))
    ≡ times_said_to (theirs k) (as_read (after_vector has_vector vectors set greatest) (confirm_items confirms ++ change_items rows keys))
vector-never-speaks has_vector vectors set greatest confirms rows keys k =
    ap (λ (front : List Item). times_said_to (theirs k) (as_read 0 (front ++ (confirm_items confirms ++ change_items rows keys))))
    (parts-are has_vector vectors set greatest)
    ∙ parts-never-speak 0 (vector_parts has_vector vectors set greatest) (confirm_items confirms ++ change_items rows keys) k

-- the law that they speak once
pub own_packets_speak : OwnPacketsSpeakOnce
own_packets_speak = λ has_vector vectors set greatest confirms rows keys k single distinct apart.
    let times =
    vector-never-speaks has_vector vectors set greatest confirms rows keys k
    ∙ all-times rows k confirms keys (after_vector has_vector vectors set greatest) distinct in
    by confirms keys k single apart (has_key k keys) refl times
  where
    by : (confirms : List DueConfirm) (keys : List Key) (k : Key) → times_confirmed k confirms ≤ 1
        → (has_key k keys ≡ true → is_confirmed confirms k ≡ false) → (asks : Bool) → has_key k keys ≡ asks → {n : ℕ}
        → n ≡ times_confirmed k confirms + once_if (has_key k keys) → n ≤ 1
    by confirms keys k single apart true is times =
        let none = times-none confirms k (apart is) in
        let one : once_if (has_key k keys) ≡ 1 = ap once_if is in
        omega (arith, none, one, times)
    by confirms keys k single apart false is times =
        let none : once_if (has_key k keys) ≡ 0 = ap once_if is in
        omega (arith, single, none, times)
