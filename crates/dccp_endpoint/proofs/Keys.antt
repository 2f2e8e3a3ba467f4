-- Rows by their keys: which keys are among others, which rows are due, which have a Confirm, and what a row hears of turns that stand
-- for keys.
use Rattle.std.proofs.Common.{◌≡◌, ◌≢◌, ◌==◌, ◌&&◌, ◌||◌, ◌≤◌, not, refl, sym, ap, ◌∙◌, arith, ℕ, suc, Bool, true, false, List, [], ◌∷◌, length, get_or, map, Some, None, cond, eqb-true}
use Rattle.std.specs.Prelude.{if◌then◌else◌, filter, All, AllPairs, Contains}
use Rattle.std.proofs.lemmas.Bool.{and_from, and_parts, and_right, cond-false, eq-eqb, false_from_ne_true, false≢true, ne_eqb, or_parts, true_from_ne_false}
use Rattle.std.proofs.lemmas.List.{length-map}
use Rattle.std.proofs.lemmas.List.Elements.{All-contains}
use Rattle.std.proofs.lemmas.List.Folds.{list_any_at, list_any_none}
use Rattle.std.proofs.lemmas.Map.Views.{Contains-from_any}
use Rattle.std.proofs.lemmas.List.Kept.{AllPairs-filter}
use Rattle.feature_lists.specs.Features.{feature_number}
use Rattle.feature_lists.specs.declared.features.Feature.{Feature}
use Rattle.feature_lists.specs.declared.features.Feature.TheVariants as f
use Rattle.feature_lists.specs.declared.features.Place.{Place}
use Rattle.feature_lists.specs.declared.features.Place.TheVariants.{Here, There}
use Rattle.feature_machine.specs.Lists.{index_of}
use Rattle.feature_machine.specs.Negotiating.{IsNegotiation, due_keys, every_place, is_due, row_at}
use Rattle.feature_machine.specs.Rows.{RowEvent, Offers, Sends}
use Rattle.feature_machine.specs.Turns.{Turn, events_of}
use Rattle.feature_machine.specs.declared.row.Row.{Row}
use Rattle.feature_machine.proofs.DueKeys.{due_asks, due_distinct}
use Rattle.feature_machine.proofs.Places.{same_feature, same_number, same_place}
use Rattle.dccp_endpoint.specs.Heeding.{DueConfirm}
use Rattle.dccp_endpoint.specs.Saying.{body_if, confirm_for, has_key, is_key, once_if, times_confirmed}
use Rattle.dccp_endpoint.specs.Speaking.{asking, is_confirmed, is_for, is_of_place, unconfirmed}
use Rattle.dccp_endpoint.specs.Turns.{Key, offerings, sendings, turn_of}

-- no key is twice among these
abbrev pub AreDistinct : List Key → Type 0
AreDistinct keys = AllPairs (λ one other. one ≢ other) keys

place-so : (one other : Place) → is_of_place (is_of_place true one) other ≡ true → one ≡ other
place-so Here Here is = refl
place-so There There is = refl
place-so Here There is = absurd (false≢true is)
place-so There Here is = absurd (false≢true is)

place-itself : (place : Place) → is_of_place (is_of_place true place) place ≡ true
place-itself Here = refl
place-itself There = refl

-- a key is one of another row exactly if it is that
pub key-so : (one other : Key) → is_key one other ≡ true → one ≡ other
key-so one other is =
    let parts = and_parts (feature_number one.0 == feature_number other.0) (is_of_place (is_of_place true one.1) other.1) is in
    let features : one.0 ≡ other.0 = same_feature one.0 other.0 (eqb-true (feature_number one.0) (feature_number other.0) parts.0) in
    let places : one.1 ≡ other.1 = place-so one.1 other.1 parts.1 in
    ap (λ (feature : Feature). (feature, one.1)) features ∙ ap (λ (place : Place). (other.0, place)) places

-- a key is itself
pub key-itself : (k : Key) → is_key k k ≡ true
key-itself k =
    and_from (feature_number k.0 == feature_number k.0) (is_of_place (is_of_place true k.1) k.1) (eq-eqb (feature_number k.0) (feature_number k.0) refl)
    (place-itself k.1)

-- and no other
pub key-differs : (one other : Key) → one ≢ other → is_key one other ≡ false
key-differs one other differs = false_from_ne_true (is_key one other) (λ is. differs (key-so one other is))

-- a row's turn is told by the row's key
pub turn-key : (k other : Key) → (index_of other.0 other.1 == index_of k.0 k.1) ≡ is_key k other
turn-key k other = by (is_key k other) refl where
  by : (same : Bool) → is_key k other ≡ same → (index_of other.0 other.1 == index_of k.0 k.1) ≡ same
  by true is = eq-eqb (index_of other.0 other.1) (index_of k.0 k.1) (ap (λ (key : Key). index_of key.0 key.1) (sym (key-so k other is)))
  by false is =
      ne_eqb (index_of other.0 other.1) (index_of k.0 k.1) (λ same.
      let features : other.0 ≡ k.0 = same_feature other.0 k.0 (same_number other.0 k.0 other.1 k.1 same) in
      let places : other.1 ≡ k.1 = same_place other.0 k.0 other.1 k.1 same in
      let keys : other ≡ k = ap (λ (feature : Feature). (feature, other.1)) features ∙ ap (λ (place : Place). (k.0, place)) places in
      false≢true (sym is ∙ ap (is_key k) keys ∙ key-itself k))

-- a key is found among others exactly if it is one of them
pub has-contains : (k : Key) (keys : List Key) → has_key k keys ≡ true → Contains keys k
has-contains k keys is = Contains-from_any key-so k keys is

-- a key of the list is found in it
pub contains-has : (k : Key) (keys : List Key) → Contains keys k → has_key k keys ≡ true
contains-has k keys contains =
    list_any_at (is_key k) keys contains.0 k contains.1 (ap (is_key k) contains.2 ∙ key-itself k)

-- the two tests agree where one is true exactly if the other is
agree-so : (one other : Bool) → (one ≡ true → other ≡ true) → (other ≡ true → one ≡ true) → one ≡ other
agree-so true other there back = sym (there refl)
agree-so false true there back = back refl
agree-so false false there back = refl

-- of the keys of rows that ask, a row's is one exactly if its Change is due
pub has-due : (rows : List Row) (k : Key) → IsNegotiation rows → has_key k (due_keys rows) ≡ is_due (row_at rows k.0 k.1)
has-due rows k sound =
    let asks = due_asks rows k.0 k.1 sound in
    agree-so (has_key k (due_keys rows)) (is_due (row_at rows k.0 k.1))
    (λ has. asks.0 (has-contains k (due_keys rows) has)) (λ due. contains-has k (due_keys rows) (asks.1 due))

-- a filter keeps a key exactly if it passes
pub has-filter : (test : Key → Bool) (k : Key) (keys : List Key) → has_key k (filter test keys) ≡ (has_key k keys && test k)
has-filter test k [] = refl
has-filter test k (first ∷ rest) = by (test first) refl (is_key k first) refl (has-filter test k rest) where
  by : (kept : Bool) → test first ≡ kept → (same : Bool) → is_key k first ≡ same → has_key k (filter test rest) ≡ (has_key k rest && test k)
      → has_key k (cond kept (first ∷ filter test rest) (filter test rest)) ≡ ((same || has_key k rest) && test k)
  by true kept true same later =
      let passes : test k ≡ true = ap test (key-so k first same) ∙ kept in
      rw (same, passes) refl
  by true kept false same later = rw same later
  by false dropped true same later =
      let fails : test k ≡ false = ap test (key-so k first same) ∙ dropped in
      later ∙ and_right (has_key k rest) (test k) fails ∙ sym fails
  by false dropped false same later = later

-- the rows without a Confirm
pub has-unconfirmed : (confirms : List DueConfirm) (k : Key) (keys : List Key)
    → has_key k (unconfirmed confirms keys) ≡ (has_key k keys && not (is_confirmed confirms k))
has-unconfirmed confirms k keys = has-filter (λ (k : Key). not (is_confirmed confirms k)) k keys

-- nor twice without a Confirm
pub unconfirmed-distinct : (confirms : List DueConfirm) (keys : List Key) → AreDistinct keys → AreDistinct (unconfirmed confirms keys)
unconfirmed-distinct confirms keys distinct =
    AllPairs-filter (λ one other. one ≢ other) (λ (k : Key). not (is_confirmed confirms k)) keys distinct

-- the rows that ask on a Request or a Response
pub has-asking : (rows : List Row) (confirms : List DueConfirm) (k : Key) → IsNegotiation rows
    → has_key k (asking rows confirms) ≡ (is_due (row_at rows k.0 k.1) && not (is_confirmed confirms k))
has-asking rows confirms k sound =
    has-unconfirmed confirms k (due_keys rows) ∙ ap (λ (due : Bool). due && not (is_confirmed confirms k)) (has-due rows k sound)

-- no key asks twice
pub asking-distinct : (rows : List Row) (confirms : List DueConfirm) → IsNegotiation rows → AreDistinct (asking rows confirms)
asking-distinct rows confirms sound = unconfirmed-distinct confirms (due_keys rows) (due_distinct rows sound)

-- a row has a Confirm exactly if one of them is for it
pub confirm-none : (confirms : List DueConfirm) (k : Key) → is_confirmed confirms k ≡ false → confirm_for k confirms ≡ None
confirm-none [] k is = refl
confirm-none (due ∷ rest) k is =
    let parts = or_parts (is_for k due) (is_confirmed rest k) is in
    ap (λ (its : Bool). body_if its due.body (confirm_for k rest)) parts.0 ∙ confirm-none rest k parts.1

-- a key without a Confirm has none
pub none-confirmed : (confirms : List DueConfirm) (k : Key) → confirm_for k confirms ≡ None → is_confirmed confirms k ≡ false
none-confirmed [] k is = refl
none-confirmed (due ∷ rest) k is = by (is_for k due) is (λ later. none-confirmed rest k later) where
  by : (its : Bool) → body_if its due.body (confirm_for k rest) ≡ None → (confirm_for k rest ≡ None → is_confirmed rest k ≡ false)
      → (its || is_confirmed rest k) ≡ false
  by true is later = cc is
  by false is later = later is

-- a key with a Confirm has one
pub confirmed-some : (confirms : List DueConfirm) (k : Key) (body : List ℕ) → confirm_for k confirms ≡ Some body → is_confirmed confirms k ≡ true
confirmed-some confirms k body some = true_from_ne_false (is_confirmed confirms k) (λ is. cc (confirm-none confirms k is, some))

-- none of the Confirms counts for a row that has none
pub times-none : (confirms : List DueConfirm) (k : Key) → is_confirmed confirms k ≡ false → times_confirmed k confirms ≡ 0
times-none [] k is = refl
times-none (due ∷ rest) k is =
    let parts = or_parts (is_for k due) (is_confirmed rest k) is in
    let first : once_if (is_for k due) ≡ 0 = ap once_if parts.0 in
    let later = times-none rest k parts.1 in
    omega (arith, first, later)

-- distinct keys, one by one
pub rest-distinct : (first : Key) (rest : List Key) → AreDistinct (first ∷ rest) → AreDistinct rest
rest-distinct first rest distinct = λ i j default earlier inside. distinct (suc i) (suc j) default (omega (arith, earlier)) (omega (arith, inside))

-- the first of distinct keys is not among the others
pub first-apart : (first : Key) (rest : List Key) → AreDistinct (first ∷ rest) → has_key first rest ≡ false
first-apart first rest distinct =
    list_any_none (is_key first) rest (λ i default inside.
    key-differs first (get_or rest i default) (distinct 0 (suc i) default (omega arith) (omega (arith, inside))))

-- no keys are distinct
pub none-distinct : AreDistinct []
none-distinct = λ i j default earlier inside. absurd (omega (arith, inside))

-- one key is
pub one-distinct : (k : Key) → AreDistinct (k ∷ [])
one-distinct k = λ i j default earlier inside. absurd (omega (arith, earlier, inside))

-- one key alone
pub has-one : (k key : Key) → has_key k (key ∷ []) ≡ is_key k key
has-one k key = by (is_key k key) where
  by : (same : Bool) → (same || false) ≡ same
  by true = refl
  by false = refl

-- what holds of all keys holds of one that is found among them
pub apart-so : (confirms : List DueConfirm) (keys : List Key) (k : Key) → All (λ (key : Key). is_confirmed confirms key ≡ false) keys → has_key k keys ≡ true
    → is_confirmed confirms k ≡ false
apart-so confirms keys k apart has = All-contains (λ (key : Key). is_confirmed confirms key ≡ false) keys k apart (has-contains k keys has)

-- what a row hears where each of these rows hears one thing
pub events-each : (event : Key → RowEvent) (k : Key) (keys : List Key) → AreDistinct keys
    → events_of k.0 k.1 (map (λ (key : Key). turn_of key (event key)) keys) ≡ (if has_key k keys then event k ∷ [] else [])
events-each event k [] distinct = refl
events-each event k (first ∷ rest) distinct =
    by (is_key k first) refl (turn-key k first) (events-each event k rest (rest-distinct first rest distinct))
  where
    later_turns : List Turn
    later_turns = map (λ (key : Key). turn_of key (event key)) rest

    by : (same : Bool) → is_key k first ≡ same → (index_of first.0 first.1 == index_of k.0 k.1) ≡ is_key k first
        → events_of k.0 k.1 later_turns ≡ (if has_key k rest then event k ∷ [] else [])
        → events_of k.0 k.1 (turn_of first (event first) ∷ later_turns) ≡ (if same || has_key k rest then event k ∷ [] else [])
    by true same turn later =
        let its : (index_of first.0 first.1 == index_of k.0 k.1) ≡ true = turn ∙ same in
        let apart : has_key k rest ≡ false = ap (λ (key : Key). has_key key rest) (key-so k first same) ∙ first-apart first rest distinct in
        let none : events_of k.0 k.1 later_turns ≡ [] = later ∙ cond-false (has_key k rest) (event k ∷ []) [] apart in
        rw its (ap (λ (events : List RowEvent). event first ∷ events) none ∙ ap (λ (key : Key). event key ∷ []) (sym (key-so k first same)))
    by false other turn later =
        let its : (index_of first.0 first.1 == index_of k.0 k.1) ≡ false = turn ∙ other in
        rw its later

-- a row sends its Change once, if it is among the keys
pub events-sendings : (number : ℕ) (k : Key) (keys : List Key) → AreDistinct keys
    → events_of k.0 k.1 (sendings number keys) ≡ (if has_key k keys then Sends number ∷ [] else [])
events-sendings number k keys distinct = events-each (λ key. Sends number) k keys distinct

-- the offers of all rows come up, each once
pub events-offerings : (is_confirmed : Key → Bool) (k : Key) → events_of k.0 k.1 (offerings is_confirmed every_place) ≡ Offers (is_confirmed k) ∷ []
events-offerings is_confirmed k = by k.0 k.1 where
  by : (feature : Feature) (place : Place) → events_of feature place (offerings is_confirmed every_place) ≡ Offers (is_confirmed (feature, place)) ∷ []
  by f.Ccid Here = refl
  by f.Ccid There = refl
  by _ Here = refl
  by _ There = refl
