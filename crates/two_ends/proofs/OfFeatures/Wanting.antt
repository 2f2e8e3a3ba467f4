-- What a row wants, by its wishes: a preference says it, and no other event changes it, nor do the options of a packet.
use Rattle.std.proofs.Common.{◌≡◌, refl, ap, sym, ◌∙◌, ℕ, Bool, true, false, not, ◌&&◌, if◌then◌else◌, List, [], ◌∷◌, ◌++◌, length, cond, map, Option, Some, None, Result, Ok, Err, arith}
use Rattle.std.specs.Prelude.{slice_index, slice_index_or}
use Rattle.dccp_endpoint.specs.Heeding.{ReadingState, body_turns, entry_turns, event_of, heard_turns, heeds_item, is_change, is_left, is_of_negotiation, is_too_many, item_turns, place_in_used, turn_known, turns_then}
use Rattle.dccp_endpoint.specs.Turns.{Key, offerings, sendings}
use Rattle.dccp_options.specs.Grammar.{Entry}
use Rattle.dccp_options.specs.Kinds.{is_understood}
use Rattle.dccp_options.specs.declared.option.OptFault.{OptFault}
use Rattle.dccp_states.specs.declared.outcome.Fault.{Fault}
use Rattle.two_ends.specs.FeatureRows.{entries_of}
use Rattle.feature_lists.proofs.Allowed.{allowed_says}
use Rattle.feature_lists.specs.Features.{described, feature_numbered}
use Rattle.feature_lists.specs.Wishes.{is_allowed, is_ours, wanted_of, wish_of}
use Rattle.feature_lists.specs.declared.features.Feature.{Feature}
use Rattle.feature_lists.specs.declared.features.Place.{Place}
use Rattle.feature_lists.specs.declared.wishes.PreferFault.TheVariants as prefer
use Rattle.feature_lists.specs.declared.wishes.Wanted.{Wanted}
use Rattle.feature_lists.specs.declared.wishes.Wanted.TheVariants as wanted
use Rattle.feature_machine.proofs.Steps.{stepped_negotiation}
use Rattle.feature_machine.proofs.Turning.{turned-row}
use Rattle.feature_machine.specs.Negotiating.{IsNegotiation, row_at, stepped}
use Rattle.feature_machine.specs.Rows.{Change, Confirm, Confirmed, Offered, Offers, Preferred, Prefers, Proposed, RowEvent, Sending, Sends, TableEvent, row_line, row_step}
use Rattle.feature_machine.specs.Rows as machine
use Rattle.feature_machine.specs.Sound.{IsEventFor, IsSoundRow, is_pending}
use Rattle.feature_machine.specs.Turns.{Turn, is_turn_of, row_turned, turned}
use Rattle.feature_machine.specs.declared.row.Row.{Row}
use Rattle.feature_machine.specs.declared.stands.Stand.{Stand}
use Rattle.feature_machine.specs.declared.stands.Stand.TheVariants.{Changing, Stable, Unstable}
use Rattle.two_ends.specs.Preferred.{WantsValues}
use Rattle.two_ends.proofs.OfFeatures.Asking.{none-pending}

-- what waits, or else what is active
abbrev pub latest_of : Option Wanted → Option Wanted → Option Wanted
latest_of (Some waiting) active = Some waiting
latest_of None active = active

abbrev pub latest : Row → Option Wanted
latest row = latest_of row.pending row.active

-- what happens to a row, other than a preference
abbrev pub IsCalm : RowEvent → Type 0
IsCalm (Change body mandatory) = Unit {0}
IsCalm (Confirm body ack) = Unit {0}
IsCalm (Prefers wish) = ⊥
IsCalm (Offers confirmed) = Unit {0}
IsCalm (Sends number) = Unit {0}

-- A Change, a Confirm and an offer leave both wishes, in any stand.
abbrev IsStill : TableEvent → Type 0
IsStill (Proposed proposal mandatory) = Unit {0}
IsStill (Confirmed confirmation) = Unit {0}
IsStill (Preferred wish) = ⊥
IsStill (Offered confirmed offer) = Unit {0}
IsStill (Sending number opened) = ⊥

still-active : (row : Row) (s : Stand) (h : TableEvent) → IsStill h → (row_line row s h).row.active ≡ row.active
still-active row s (Preferred wish) still = absurd still
still-active row s (Sending number opened) still = absurd still
still-active row s _ still = grind arith

still-pending : (row : Row) (s : Stand) (h : TableEvent) → IsStill h → (row_line row s h).row.pending ≡ row.pending
still-pending row s (Preferred wish) still = absurd still
still-pending row s (Sending number opened) still = absurd still
still-pending row s _ still = grind arith

still-keeps : (row : Row) (s : Stand) (h : TableEvent) → IsStill h → latest (row_line row s h).row ≡ latest row
still-keeps row s h still =
    ap (λ (pending : Option Wanted). latest_of pending (row_line row s h).row.active) (still-pending row s h still)
    ∙ ap (latest_of row.pending) (still-active row s h still)

-- in UNSTABLE a wish waits
waits-so : (feature : Feature) (place : Place) (pending active : Option Wanted) → is_pending feature place Unstable pending ≡ true
    → pending ≡ latest_of pending active
waits-so feature place (Some wish) active is = refl
waits-so feature place None active is = cc is

-- A Change that goes out makes the wish that waited active.
sending-keeps : (row : Row) (s : Stand) (number : ℕ) (opened : Option ℕ) → is_pending row.feature row.place s row.pending ≡ true
    → latest (row_line row s (Sending number opened)).row ≡ latest row
sending-keeps row Stable number opened is = refl
sending-keeps row Changing number None is = refl
sending-keeps row Changing number (Some first) is = refl
sending-keeps row Unstable number opened is = waits-so row.feature row.place row.pending row.active is

calm-keeps : (row : Row) (given : RowEvent) → IsSoundRow row → IsCalm given → latest (row_step row given).row ≡ latest row
calm-keeps row (Change body mandatory) sound calm = still-keeps row row.stand (machine.heard row (Change body mandatory)) tt
calm-keeps row (Confirm body ack) sound calm = still-keeps row row.stand (machine.heard row (Confirm body ack)) tt
calm-keeps row (Prefers wish) sound calm = absurd calm
calm-keeps row (Offers confirmed) sound calm = still-keeps row row.stand (machine.heard row (Offers confirmed)) tt
calm-keeps row (Sends number) sound calm = sending-keeps row row.stand number row.opened sound.pending

-- A preference is what the row wants from then on.
pub preferred-latest : (row : Row) (s : Stand) (wish : Wanted) → is_pending row.feature row.place s row.pending ≡ true
    → latest (row_line row s (Preferred wish)).row ≡ Some wish
preferred-latest row Stable wish is =
    ap (λ (pending : Option Wanted). latest_of pending (Some wish)) (none-pending row.feature row.place Stable row.pending refl is)
preferred-latest row Changing wish is = refl
preferred-latest row Unstable wish is = refl

-- what a row wants, by its stand
not-waiting : (feature : Feature) (place : Place) (s : Stand) (pending : Option Wanted) → (s ≡ Unstable → ⊥) → is_pending feature place s pending ≡ true
    → pending ≡ None
not-waiting feature place s None apart is = refl
not-waiting feature place Unstable (Some wish) apart is = absurd (apart refl)
not-waiting feature place _ (Some wish) apart is = cc is

-- a sound row wants its latest wish
pub wants : (row : Row) (wish : Option Wanted) → IsSoundRow row → latest row ≡ wish → WantsValues row (entries_of wish)
wants row wish sound is =
    record {
      active =
          λ apart.
          let none : row.pending ≡ None = not-waiting row.feature row.place row.stand row.pending apart sound.pending in
          ap entries_of (sym (ap (λ (pending : Option Wanted). latest_of pending row.active) none) ∙ is);
      waiting =
          λ unstable.
          let waits : is_pending row.feature row.place Unstable row.pending ≡ true =
          ap (λ (s : Stand). is_pending row.feature row.place s row.pending) (sym unstable) ∙ sound.pending in
          ap entries_of (waits-so row.feature row.place row.pending row.active waits ∙ is);
    }

-- what a wish is made of
wish-made : (feature : Feature) (place : Place) (wish : Wanted) (values : List ℕ) → wish_of feature place values ≡ Ok wish
    → (is_allowed feature place values ≡ true) × (wanted_of feature values ≡ wish)
wish-made feature place wish values is = by (is_allowed feature place values) (is_ours feature place) is where
  by : (allowed own : Bool)
      → (if not allowed then Err prefer.BadList else if not own then Err prefer.NotOurs else Ok (wanted_of feature values)) ≡ Ok wish
      → (allowed ≡ true) × (wanted_of feature values ≡ wish)
  by true true same = (refl, cc same)
  by true false same = cc same
  by false own same = cc same

-- a number is one value
number-single : (feature : Feature) (place : Place) (number : ℕ) (values : List ℕ) → wish_of feature place values ≡ Ok (wanted.Number number)
    → length values ≡ 1
number-single feature place number values is = by (described feature).is_server_priority refl where
  by : (listed : Bool) → (described feature).is_server_priority ≡ listed → length values ≡ 1
  by false apart = ((allowed_says feature place values).0 (wish-made feature place (wanted.Number number) values is).0).single apart
  by true priority =
      let list : wanted_of feature values ≡ wanted.List values =
      ap (λ (listed : Bool). if listed then wanted.List values else wanted.Number (slice_index values 0)) priority in
      let made = (wish-made feature place (wanted.Number number) values is).1 in
      cc (list, made)

-- the entries of a wish are the values that it was made of
pub entries-are : (feature : Feature) (place : Place) (wish : Wanted) (values : List ℕ) → wish_of feature place values ≡ Ok wish
    → entries_of (Some wish) ≡ values
entries-are feature place (wanted.List list) values is = grind arith
entries-are feature place (wanted.Number number) [] is = cc is
entries-are feature place (wanted.Number number) (value ∷ []) is = grind arith
entries-are feature place (wanted.Number number) (value ∷ (more ∷ rest)) is =
    let one : length (value ∷ (more ∷ rest)) ≡ 1 = number-single feature place number (value ∷ (more ∷ rest)) is in
    absurd (omega (arith, one))

-- turns without a preference
abbrev pub AreCalm : List Turn → Type 0
AreCalm [] = Unit {0}
AreCalm (first ∷ rest) = IsCalm first.event × AreCalm rest

-- calm turns follow one another
pub calm-append : (earlier later : List Turn) → AreCalm earlier → AreCalm later → AreCalm (earlier ++ later)
calm-append [] later calm more = more
calm-append (first ∷ rest) later calm more = (calm.0, calm-append rest later calm.1 more)

calm-fits : (row : Row) (given : RowEvent) → IsCalm given → IsEventFor row given
calm-fits row (Prefers wish) calm = absurd calm
calm-fits row _ calm = tt

one-keeps : (k : Key) (first : Turn) (rows : List Row) → IsNegotiation rows → IsCalm first.event
    → latest (row_at (stepped rows first.feature first.place first.event).rows k.0 k.1) ≡ latest (row_at rows k.0 k.1)
one-keeps k first rows sound calm = ap latest (turned-row k.0 k.1 (first ∷ []) rows sound.size) ∙ by (is_turn_of k.0 k.1 first) where
  by : (its : Bool) → latest (row_turned (row_at rows k.0 k.1) (map (λ (given : Turn). given.event) (cond its (first ∷ []) []))) ≡ latest (row_at rows k.0 k.1)
  by true = calm-keeps (row_at rows k.0 k.1) first.event (sound.each k.0 k.1).sound calm
  by false = refl

-- calm turns keep the latest wish
pub turns-keep : (k : Key) (turns : List Turn) (rows : List Row) → IsNegotiation rows → AreCalm turns
    → latest (row_at (turned rows turns) k.0 k.1) ≡ latest (row_at rows k.0 k.1)
turns-keep k [] rows sound calm = refl
turns-keep k (first ∷ rest) rows sound calm =
    turns-keep k rest (stepped rows first.feature first.place first.event).rows
    (stepped_negotiation rows first.feature first.place first.event sound
    (calm-fits (row_at rows first.feature first.place) first.event calm.0)) calm.1
    ∙ one-keeps k first rows sound calm.0

-- what options say is no preference
known-calm : (known : Option Feature) (left : Bool) (ack : Option ℕ) (entry : Entry) (change : Bool) (body : List ℕ)
    → AreCalm (turn_known known left (event_of ack entry change body))
known-calm None left ack entry change body = tt
known-calm (Some known) left ack entry true body = (tt, tt)
known-calm (Some known) left ack entry false body = (tt, tt)

entry-calm : (count : Bool) (ack : Option ℕ) (h : ReadingState) (entry : Entry) → AreCalm (entry_turns count ack h entry)
entry-calm count ack h entry = by (is_understood entry.kind (length entry.body)) (count && is_of_negotiation entry.kind) where
  spoken : (number : ℕ) (body : List ℕ) (used many : Bool)
      → AreCalm (if used then [] else if many then []
      else turn_known (feature_numbered number) (is_left entry.kind) (event_of ack entry (is_change entry.kind) body))
  spoken number body true many = tt
  spoken number body false true = tt
  spoken number body false false = known-calm (feature_numbered number) (is_left entry.kind) ack entry (is_change entry.kind) body

  told : (body : List ℕ) → AreCalm (body_turns ack h entry body)
  told [] = tt
  told (number ∷ body) = spoken number body (slice_index_or h.used (place_in_used (is_left entry.kind) number) false) (is_too_many h (is_change entry.kind))

  by : (known its : Bool) → AreCalm (if not known then [] else if its then body_turns ack h entry entry.body else [])
  by false its = tt
  by true true = told entry.body
  by true false = tt

item-calm : (count : Bool) (ack : Option ℕ) (h : ReadingState) (item : Result Entry OptFault) → AreCalm (item_turns count ack h item)
item-calm count ack h (Ok entry) = entry-calm count ack h entry
item-calm count ack h (Err _) = tt

-- what is heard is calm
pub heard-calm : (count : Bool) (ack : Option ℕ) (h : ReadingState) (items : List (Result Entry OptFault)) → AreCalm (heard_turns count ack h items)
heard-calm count ack h [] = tt
heard-calm count ack h (item ∷ rest) =
    calm-append (item_turns count ack h item) (turns_then (heeds_item count ack h item) (λ next. heard_turns count ack next rest))
    (item-calm count ack h item) (later (heeds_item count ack h item) (λ next. heard-calm count ack next rest)) where
      later : (r : Result ReadingState Fault) → ((next : ReadingState) → AreCalm (heard_turns count ack next rest))
          → AreCalm (turns_then r (λ next. heard_turns count ack next rest))
      later (Ok next) more = more next
      later (Err fault) more = tt

-- so are Changes that go out
pub sendings-calm : (number : ℕ) (keys : List Key) → AreCalm (sendings number keys)
sendings-calm number [] = tt
sendings-calm number (k ∷ keys) = (tt, sendings-calm number keys)

-- and offers
pub offerings-calm : (test : Key → Bool) (keys : List Key) → AreCalm (offerings test keys)
offerings-calm test [] = tt
offerings-calm test (k ∷ keys) = (tt, offerings-calm test keys)
