-- What happens to the rows in a step is lawful, so they stay sound.
use Rattle.std.proofs.Common.{◌≡◌, ℕ, Bool, true, false, not, ◌&&◌, if◌then◌else◌, List, [], ◌∷◌, ◌++◌, length, Option, Some, None, Result, Ok, Err, sym, subst}
use Rattle.std.specs.Prelude.{slice_index_or}
use Rattle.std.proofs.lemmas.List.Elements.{All-append, All-cons, All-nil}
use Rattle.dccp_options.specs.Grammar.{Entry}
use Rattle.dccp_options.specs.Kinds.{is_understood}
use Rattle.dccp_options.specs.declared.option.OptFault.{OptFault}
use Rattle.feature_lists.specs.Features.{feature_numbered}
use Rattle.feature_lists.specs.Wishes.{wish_of}
use Rattle.feature_lists.specs.declared.features.Feature.{Feature}
use Rattle.feature_lists.specs.declared.wishes.Wanted.{Wanted}
use Rattle.feature_lists.proofs.Given.{given}
use Rattle.feature_machine.specs.Negotiating.{AreRowsOf, IsNegotiation, every_place}
use Rattle.feature_machine.specs.Rows.{Prefers}
use Rattle.feature_machine.specs.Turns.{Turn, AreLawful, IsLawfulFor, turned}
use Rattle.feature_machine.specs.declared.row.Row.{Row}
use Rattle.feature_machine.specs.declared.stands.Role2.{Role2}
use Rattle.feature_machine.proofs.Turning.{turned-role, turned-sound}
use Rattle.dccp_endpoint.specs.Causes.{AreHeard, Deaf, Heeds, AreTurns, Occasion, Plain, Offering, Repeating, PrefersNow, PrefersLater, counts_in}
use Rattle.dccp_endpoint.specs.Effects.{HeardNumber}
use Rattle.dccp_endpoint.specs.End.{EndState, IsProper, end_of}
use Rattle.dccp_endpoint.specs.Heeding.{DueConfirm, ReadingState, body_turns, entry_turns, event_of, heard_turns, heeds, heeds_item, is_change, is_left, is_of_negotiation, is_too_many, item_turns, place_in_used, turn_known, turns_then, unheeded}
use Rattle.dccp_endpoint.specs.Inputs.{Input}
use Rattle.dccp_endpoint.specs.Speaking.{is_confirmed}
use Rattle.dccp_endpoint.specs.Steps.{next_number}
use Rattle.dccp_endpoint.specs.Turns.{Key, offerings, sendings, turn_of}
use Rattle.dccp_states.specs.declared.outcome.Fault.{Fault}
use Rattle.dccp_endpoint.proofs.Heard.{heeds-turns}

abbrev Fit : Turn → Type 0
Fit turn = IsLawfulFor turn.feature turn.place turn.event

one-lawful : (turn : Turn) → Fit turn → AreLawful (turn ∷ [])
one-lawful turn fits = All-cons Fit turn [] fits (All-nil Fit)

-- what options say is no wish of the end
known-lawful : (known : Option Feature) (left : Bool) (ack : Option ℕ) (entry : Entry) (change : Bool) (body : List ℕ)
    → AreLawful (turn_known known left (event_of ack entry change body))
known-lawful None left ack entry change body = All-nil Fit
known-lawful (Some known) left ack entry true body = one-lawful _ tt
known-lawful (Some known) left ack entry false body = one-lawful _ tt

entry-lawful : (count : Bool) (ack : Option ℕ) (h : ReadingState) (entry : Entry) → AreLawful (entry_turns count ack h entry)
entry-lawful count ack h entry = by (is_understood entry.kind (length entry.body)) (count && is_of_negotiation entry.kind) where
  spoken : (number : ℕ) (body : List ℕ) (used many : Bool)
      → AreLawful (if used then [] else if many then []
      else turn_known (feature_numbered number) (is_left entry.kind) (event_of ack entry (is_change entry.kind) body))
  spoken number body true many = All-nil Fit
  spoken number body false true = All-nil Fit
  spoken number body false false = known-lawful (feature_numbered number) (is_left entry.kind) ack entry (is_change entry.kind) body

  told : (body : List ℕ) → AreLawful (body_turns ack h entry body)
  told [] = All-nil Fit
  told (number ∷ body) = spoken number body (slice_index_or h.used (place_in_used (is_left entry.kind) number) false) (is_too_many h (is_change entry.kind))

  by : (known its : Bool) → AreLawful (if not known then [] else if its then body_turns ack h entry entry.body else [])
  by false its = All-nil Fit
  by true true = told entry.body
  by true false = All-nil Fit

item-lawful : (count : Bool) (ack : Option ℕ) (h : ReadingState) (item : Result Entry OptFault) → AreLawful (item_turns count ack h item)
item-lawful count ack h (Ok entry) = entry-lawful count ack h entry
item-lawful count ack h (Err _) = All-nil Fit

-- what is heard
pub heard-lawful : (count : Bool) (ack : Option ℕ) (h : ReadingState) (items : List (Result Entry OptFault)) → AreLawful (heard_turns count ack h items)
heard-lawful count ack h [] = All-nil Fit
heard-lawful count ack h (item ∷ rest) =
    All-append Fit (item_turns count ack h item) (turns_then (heeds_item count ack h item) (λ next. heard_turns count ack next rest))
    (item-lawful count ack h item) (later (heeds_item count ack h item) (λ next. heard-lawful count ack next rest)) where
      later : (r : Result ReadingState Fault) → ((next : ReadingState) → AreLawful (heard_turns count ack next rest))
          → AreLawful (turns_then r (λ next. heard_turns count ack next rest))
      later (Ok next) more = more next
      later (Err fault) more = All-nil Fit

-- so the rows of an end stay its rows when it hears a packet
pub heard_rows : (r : Role2) (count : Bool) (ack : Option ℕ) (rows : List Row) (items : List (Result Entry OptFault)) (h : ReadingState) → AreRowsOf r rows
    → heeds count ack (unheeded rows) items ≡ Ok h → AreRowsOf r h.rows
heard_rows r count ack rows items h its is =
    subst (AreRowsOf r) (sym (heeds-turns count ack (unheeded rows) items h is))
    (turned-role r rows (heard_turns count ack (unheeded rows) items) its (heard-lawful count ack (unheeded rows) items))

-- Changes that go out
pub sendings-lawful : (number : ℕ) (keys : List Key) → AreLawful (sendings number keys)
sendings-lawful number [] = All-nil Fit
sendings-lawful number (k ∷ keys) = All-cons Fit _ (sendings number keys) tt (sendings-lawful number keys)

-- offers
pub offerings-lawful : (test : Key → Bool) (keys : List Key) → AreLawful (offerings test keys)
offerings-lawful test [] = All-nil Fit
offerings-lawful test (k ∷ keys) = All-cons Fit _ (offerings test keys) tt (offerings-lawful test keys)

-- a preference that is not refused
pub preferred-lawful : (k : Key) (values : List ℕ) (wish : Wanted) → wish_of k.0 k.1 values ≡ Ok wish → AreLawful (turn_of k (Prefers wish) ∷ [])
preferred-lawful k values wish is = one-lawful (turn_of k (Prefers wish)) ((given k.0 k.1 wish).1 (values, is))

module _ {e : EndState} {input : Input} where
  occasion-lawful : {heard : List Turn} {confirms : List DueConfirm} {offered preferred : List Turn} {keys : List Key}
      → Occasion e input heard confirms offered preferred keys → AreLawful offered × AreLawful preferred
  occasion-lawful Plain = (All-nil Fit, All-nil Fit)
  occasion-lawful {confirms = confirms} Offering = (offerings-lawful (is_confirmed confirms) every_place, All-nil Fit)
  occasion-lawful (Repeating in_flight fired deaf none) = (All-nil Fit, All-nil Fit)
  occasion-lawful (PrefersNow k values wish so is now deaf none) = (All-nil Fit, preferred-lawful k values wish is)
  occasion-lawful (PrefersLater k values wish so is later deaf none) = (All-nil Fit, preferred-lawful k values wish is)

module _ {e : EndState} {input : Input} {hearing : HeardNumber} where
  said-lawful : {turns : List Turn} {confirms : List DueConfirm} → AreHeard e input hearing turns confirms → AreLawful turns
  said-lawful Deaf = All-nil Fit
  said-lawful (Heeds a h was is) = heard-lawful (counts_in e a) a.ack (unheeded e.rows) a.options

  -- what was heard, and the offers after it
  pub offered-sound : {turns : List Turn} {confirms : List DueConfirm} → IsProper e → AreHeard e input hearing turns confirms
      → IsNegotiation (turned e.rows (turns ++ offerings (is_confirmed confirms) every_place))
  offered-sound {turns = turns} {confirms = confirms} proper hears =
      let offered : List Turn = offerings (is_confirmed confirms) every_place in
      turned-sound e.rows (turns ++ offered) proper.rows.sound
      (All-append Fit turns offered (said-lawful hears) (offerings-lawful (is_confirmed confirms) every_place))

  pub turns-lawful : {turns : List Turn} → AreTurns e input hearing turns → AreLawful turns
  turns-lawful at =
      let other = occasion-lawful at.occasion in
      let sent : List Turn = sendings (next_number e) at.keys in
      subst AreLawful (sym at.in_order)
      (All-append Fit at.heard (at.offered ++ (at.preferred ++ sent)) (said-lawful at.hears)
      (All-append Fit at.offered (at.preferred ++ sent) other.0
      (All-append Fit at.preferred sent other.1 (sendings-lawful (next_number e) at.keys))))

  -- so the rows stay sound, and of their end
  pub rows-kept : {turns : List Turn} → IsProper e → AreTurns e input hearing turns → AreRowsOf (end_of e.config.role) (turned e.rows turns)
  rows-kept {turns = turns} proper at = turned-role (end_of e.config.role) e.rows turns proper.rows (turns-lawful at)
