-- What the options of a packet say to the rows, and the Confirms that come of it.
use Rattle.std.proofs.Common.{◌≡◌, ℕ, nat_lt, Bool, true, false, not, ◌&&◌, if◌then◌else◌, List, [], ◌∷◌, ◌++◌, length, Option, Some, None, Result, Ok, Err, refl, ap, sym, ◌∙◌}
use Rattle.std.specs.Prelude.{slice_index_or}
use Rattle.dccp_options.specs.Grammar.{Entry}
use Rattle.dccp_options.specs.Kinds.{is_understood}
use Rattle.dccp_options.specs.declared.option.OptFault.{OptFault}
use Rattle.dccp_packets.specs.declared.reset_code.ResetCode.TheVariants as codes
use Rattle.feature_lists.specs.Features.{feature_numbered}
use Rattle.feature_lists.specs.declared.features.Feature.{Feature}
use Rattle.feature_machine.specs.Answers.{ChangeAnswer, Confirming, Ignoring, Failing, answered, settling_of}
use Rattle.feature_machine.specs.Negotiating.{changes, changes_known, confirmed, confirms_known, place_of}
use Rattle.feature_machine.specs.Rows.{Change, Confirm}
use Rattle.feature_machine.specs.Turns.{Turn, turned}
use Rattle.feature_machine.specs.declared.answers.Settling.{Settling}
use Rattle.feature_machine.specs.declared.answers.Settling.TheVariants as settling
use Rattle.feature_machine.specs.declared.row.Row.{Row}
use Rattle.feature_machine.proofs.Turning.{turned-joined}
use Rattle.dccp_endpoint.specs.Heeding.{ReadingState, body_turns, by_answered, by_settling, counted, entry_turns, fault_of, feature_turns, heard_turns, heeds, heeds_body, heeds_change, heeds_confirm, heeds_entry, heeds_feature, heeds_item, heeds_then, is_change, is_left, is_of_negotiation, item_turns, met, misunderstood, place_in_used, turn_known, turns_then}
use Rattle.dccp_states.specs.declared.outcome.Fault.{Fault}

-- The rows after an option are those after its turns.

-- what was read left the rows as these turns do
abbrev Follows : List Row → List Turn → Result ReadingState Fault → Type 0
Follows rows turns (Ok h) = h.rows ≡ turned rows turns
Follows rows turns (Err fault) = Unit {0}

answered-follows : (h : ReadingState) (place : ℕ) (rows : List Row) (entry : Entry) (turns : List Turn) (x : ChangeAnswer) → rows ≡ turned h.rows turns
    → Follows h.rows turns (by_answered h place rows entry x)
answered-follows h place rows entry turns (Confirming left number body) is = is
answered-follows h place rows entry turns Ignoring is = is
answered-follows h place rows entry turns Failing is = tt

settling-follows : (h : ReadingState) (place : ℕ) (rows : List Row) (entry : Entry) (turns : List Turn) (x : Settling) → rows ≡ turned h.rows turns
    → Follows h.rows turns (by_settling h place rows entry x)
settling-follows h place rows entry turns settling.Settled is = is
settling-follows h place rows entry turns settling.Ignored is = is
settling-follows h place rows entry turns settling.Fatal is = tt

changed-rows : (rows : List Row) (known : Option Feature) (left : Bool) (body : List ℕ) (mandatory : Bool)
    → (changes_known rows known (place_of left) body mandatory).rows ≡ turned rows (turn_known known left (Change body mandatory))
changed-rows rows None left body mandatory = refl
changed-rows rows (Some known) left body mandatory = refl

confirmed-rows : (rows : List Row) (known : Option Feature) (left : Bool) (body : List ℕ) (ack : Option ℕ)
    → (confirms_known rows known (place_of left) body ack).rows ≡ turned rows (turn_known known left (Confirm body ack))
confirmed-rows rows None left body ack = refl
confirmed-rows rows (Some known) left body ack = refl

change-follows : (h : ReadingState) (entry : Entry) (left : Bool) (number : ℕ) (body : List ℕ)
    → Follows h.rows (turn_known (feature_numbered number) left (Change body entry.mandatory)) (heeds_change h entry left number body)
change-follows h entry left number body =
    answered-follows h (place_in_used left number) (changes h.rows left number body entry.mandatory).rows entry
    (turn_known (feature_numbered number) left (Change body entry.mandatory))
    (answered left number (changes h.rows left number body entry.mandatory).answer)
    (changed-rows h.rows (feature_numbered number) left body entry.mandatory)

confirm-follows : (ack : Option ℕ) (h : ReadingState) (entry : Entry) (left : Bool) (number : ℕ) (body : List ℕ)
    → Follows h.rows (turn_known (feature_numbered number) left (Confirm body ack)) (heeds_confirm ack h entry left number body)
confirm-follows ack h entry left number body =
    settling-follows h (place_in_used left number) (confirmed h.rows left number body ack).rows entry
    (turn_known (feature_numbered number) left (Confirm body ack))
    (settling_of (confirmed h.rows left number body ack).answer)
    (confirmed-rows h.rows (feature_numbered number) left body ack)

feature-follows : (ack : Option ℕ) (h : ReadingState) (entry : Entry) (change left : Bool) (number : ℕ) (body : List ℕ)
    → Follows h.rows (feature_turns ack h entry change left number body) (heeds_feature ack h entry change left number body)
feature-follows ack h entry true left number body = by (slice_index_or h.used (place_in_used left number) false) (nat_lt h.changes 64) where
  by : (used few : Bool)
      → Follows h.rows (if used then [] else if not few then [] else turn_known (feature_numbered number) left (Change body entry.mandatory))
      (if used then Ok (record h { changes = counted h.changes true })
      else if few then heeds_change h entry left number body else Ok (met h (place_in_used left number) true h.rows h.confirms))
  by true few = refl
  by false true = change-follows h entry left number body
  by false false = refl
feature-follows ack h entry false left number body = by (slice_index_or h.used (place_in_used left number) false) where
  by : (used : Bool)
      → Follows h.rows (if used then [] else turn_known (feature_numbered number) left (Confirm body ack))
      (if used then Ok (record h { changes = counted h.changes false }) else heeds_confirm ack h entry left number body)
  by true = refl
  by false = confirm-follows ack h entry left number body

body-follows : (ack : Option ℕ) (h : ReadingState) (entry : Entry) (body : List ℕ) → Follows h.rows (body_turns ack h entry body) (heeds_body ack h entry body)
body-follows ack h entry [] = refl
body-follows ack h entry (number ∷ body) = feature-follows ack h entry (is_change entry.kind) (is_left entry.kind) number body

entry-follows : (count : Bool) (ack : Option ℕ) (h : ReadingState) (entry : Entry) → Follows h.rows (entry_turns count ack h entry) (heeds_entry count ack h entry)
entry-follows count ack h entry = by (is_understood entry.kind (length entry.body)) (count && is_of_negotiation entry.kind) where
  wrong : (mandatory : Bool) (fault : Fault) → Follows h.rows [] (if mandatory then Err fault else Ok h)
  wrong true fault = tt
  wrong false fault = refl

  by : (known its : Bool)
      → Follows h.rows (if not known then [] else if its then body_turns ack h entry entry.body else [])
      (if not known then misunderstood h entry else if its then heeds_body ack h entry entry.body else Ok h)
  by false its = wrong entry.mandatory _
  by true true = body-follows ack h entry entry.body
  by true false = refl

item-follows : (count : Bool) (ack : Option ℕ) (h : ReadingState) (item : Result Entry OptFault)
    → Follows h.rows (item_turns count ack h item) (heeds_item count ack h item)
item-follows count ack h (Ok entry) = entry-follows count ack h entry
item-follows count ack h (Err _) = tt

-- the rows are turned by what the options say
pub heeds-turns : (count : Bool) (ack : Option ℕ) (h : ReadingState) (items : List (Result Entry OptFault)) (read : ReadingState) → heeds count ack h items ≡ Ok read
    → read.rows ≡ turned h.rows (heard_turns count ack h items)
heeds-turns count ack h [] read is = let same : read ≡ h = cc is in ap (λ (x : ReadingState). x.rows) same
heeds-turns count ack h (item ∷ rest) read is =
    joined (heeds_item count ack h item) (item-follows count ack h item) (λ next so. heeds-turns count ack next rest read so) is where
      joined : (r : Result ReadingState Fault) → Follows h.rows (item_turns count ack h item) r
          → ((next : ReadingState) → heeds count ack next rest ≡ Ok read → read.rows ≡ turned next.rows (heard_turns count ack next rest))
          → heeds_then r (λ next. heeds count ack next rest) ≡ Ok read
          → read.rows ≡ turned h.rows (item_turns count ack h item ++ turns_then r (λ next. heard_turns count ack next rest))
      joined (Ok next) follows more so =
          more next so ∙ ap (λ (rows : List Row). turned rows (heard_turns count ack next rest)) follows
          ∙ sym (turned-joined h.rows (item_turns count ack h item) (heard_turns count ack next rest))
      joined (Err fault) follows more so = cc so

-- Where options do not count, nothing is said.

abbrev Stays : ReadingState → Result ReadingState Fault → Type 0
Stays h (Ok next) = next ≡ h
Stays h (Err fault) = Unit {0}

item-stays : (ack : Option ℕ) (h : ReadingState) (item : Result Entry OptFault) → Stays h (heeds_item false ack h item)
item-stays ack h (Err _) = tt
item-stays ack h (Ok entry) = by (is_understood entry.kind (length entry.body)) entry.mandatory where
  by : (known mandatory : Bool) → Stays h (if not known then (if mandatory then Err (fault_of codes.MandatoryError entry) else Ok h) else Ok h)
  by false true = tt
  by false false = refl
  by true mandatory = refl

-- where options do not count nothing changes
pub uncounted : (ack : Option ℕ) (h : ReadingState) (items : List (Result Entry OptFault)) (read : ReadingState) → heeds false ack h items ≡ Ok read → read ≡ h
uncounted ack h [] read is = cc is
uncounted ack h (item ∷ rest) read is = joined (heeds_item false ack h item) (item-stays ack h item) (λ next so. uncounted ack next rest read so) is where
  joined : (r : Result ReadingState Fault) → Stays h r → ((next : ReadingState) → heeds false ack next rest ≡ Ok read → read ≡ next)
      → heeds_then r (λ next. heeds false ack next rest) ≡ Ok read → read ≡ h
  joined (Ok next) stays more so = more next so ∙ stays
  joined (Err fault) stays more so = cc so
