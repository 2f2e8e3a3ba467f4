-- At which option of a packet the reading stops, and for which fault (RFC 4340, sections 5.8.2 and 8.5, step 8; which
-- options count is own).
--
-- This is said above the fold of `specs/Heeding`. From the fold it takes the rows that the options before that one left, and whether these were
-- read. What counts is said about the list of these options. A premise is that feature numbers are below 256, as bytes are.
use Rattle.std.specs.Prelude.{◌≡◌, ◌↔◌, ◌<◌, ◌&&◌, not, ℕ, Bool, true, false, List, [], ◌∷◌, ◌++◌, length, Option, Result, Ok, Err}
use Rattle.std.specs.List.{All, list_any}
use Rattle.dccp_options.specs.Grammar.{Entry}
use Rattle.dccp_options.specs.Kinds.{is_understood}
use Rattle.dccp_options.specs.declared.option.OptFault.{OptFault}
use Rattle.dccp_packets.specs.declared.reset_code.ResetCode.TheVariants as codes
use Rattle.feature_machine.specs.Negotiating.{changes, confirmed}
use Rattle.feature_machine.specs.Rows.{Fatal}
use Rattle.feature_machine.specs.declared.row.Row.{Row}
use Rattle.dccp_endpoint.specs.Faults.{mandatory_fault}
use Rattle.dccp_endpoint.specs.Heeding.{ReadingState, fault_of, heeds, is_change, is_left, is_of_negotiation, unheeded}
use Rattle.dccp_endpoint.specs.Saying.{begins_with_number, changes_among, negotiates_by}
use Rattle.dccp_states.specs.declared.outcome.Fault.{Fault}

-- both are L, or both are R
abbrev pub is_same_letter : Bool → Bool → Bool
is_same_letter true left = left
is_same_letter false left = not left

-- The item is a Change or a Confirm for the feature with this number, by this letter: Change L and Confirm L have the
-- letter L.
abbrev pub speaks_for : Bool → ℕ → Result Entry OptFault → Bool
speaks_for left number (Ok entry) = negotiates_by entry && (begins_with_number number entry.body && is_same_letter left (is_left entry.kind))
speaks_for left number (Err fault) = false

-- no Change and no Confirm for this feature, by this letter, is among these
abbrev pub IsFirstFor : Bool → ℕ → List (Result Entry OptFault) → Type 0
IsFirstFor left number before = list_any (speaks_for left number) before ≡ false

-- What is wrong with an item, after these before it, which left these rows: Mandatory is where it may not be; an option is not understood after
-- Mandatory; a Change that counts is one that its row cannot accept; or a Confirm is. A Change counts, and a Confirm does, as the first for its
-- feature by its letter; and a Change only after fewer than 64 others.
pub data GoesWrong (count : Bool) (ack : Option ℕ) (before : List (Result Entry OptFault)) (rows : List Row) : Result Entry OptFault → Fault → Type 0 where
  MandatoryMisplaced : (fault : OptFault) → GoesWrong count ack before rows (Err fault) mandatory_fault
  NotUnderstood : (entry : Entry) → is_understood entry.kind (length entry.body) ≡ false → entry.mandatory ≡ true
      → GoesWrong count ack before rows (Ok entry) (fault_of codes.MandatoryError entry)
  ChangeFails : (entry : Entry) (number : ℕ) (list : List ℕ) (code : ℕ) → count ≡ true → is_understood entry.kind (length entry.body) ≡ true
      → is_of_negotiation entry.kind ≡ true → is_change entry.kind ≡ true → entry.body ≡ number ∷ list → IsFirstFor (is_left entry.kind) number before
      → changes_among before < 64 → (changes rows (is_left entry.kind) number list entry.mandatory).answer ≡ Fatal code
      → GoesWrong count ack before rows (Ok entry) (fault_of codes.MandatoryError entry)
  ConfirmFails : (entry : Entry) (number : ℕ) (list : List ℕ) (code : ℕ) → count ≡ true → is_understood entry.kind (length entry.body) ≡ true
      → is_of_negotiation entry.kind ≡ true → is_change entry.kind ≡ false → entry.body ≡ number ∷ list → IsFirstFor (is_left entry.kind) number before
      → (confirmed rows (is_left entry.kind) number list ack).answer ≡ Fatal code → GoesWrong count ack before rows (Ok entry) (fault_of codes.OptionError entry)

-- The first item that goes wrong: all before it were read without a fault.
pub record HasFirstFault (count : Bool) (ack : Option ℕ) (rows : List Row) (options : List (Result Entry OptFault)) (fault : Fault) : Type 0 where
  pub before : List (Result Entry OptFault)
  pub item : Result Entry OptFault
  pub following : List (Result Entry OptFault)
  pub in_order : options ≡ before ++ item ∷ following
  pub read : ReadingState
  pub no_fault : heeds count ack (unheeded rows) before ≡ Ok read
  pub goes_wrong : GoesWrong count ack before read.rows item fault

-- the first byte of an option's data, if it has one, is a byte
abbrev pub BeginsWithByte : List ℕ → Type 0
BeginsWithByte [] = Unit {0}
BeginsWithByte (first ∷ rest) = first < 256

-- so are those of all options
abbrev pub ItemFits : Result Entry OptFault → Type 0
ItemFits (Ok entry) = BeginsWithByte entry.body
ItemFits (Err fault) = Unit {0}

-- Reading answers a fault exactly if it is the fault of the first item that goes wrong.
abbrev pub ReadingStopsAtTheFirstFault : Type 0
ReadingStopsAtTheFirstFault =
    (count : Bool) (ack : Option ℕ) (rows : List Row) (options : List (Result Entry OptFault)) (fault : Fault) → All ItemFits options
    → (heeds count ack (unheeded rows) options ≡ Err fault) ↔ HasFirstFault count ack rows options fault

-- Reading goes through to the end exactly if no item goes wrong.
abbrev pub ReadingGoesThrough : Type 0
ReadingGoesThrough =
    (count : Bool) (ack : Option ℕ) (rows : List Row) (options : List (Result Entry OptFault)) → All ItemFits options
    → ((fault : Fault) → HasFirstFault count ack rows options fault → ⊥) ↔ ((h : ReadingState) × (heeds count ack (unheeded rows) options ≡ Ok h))
