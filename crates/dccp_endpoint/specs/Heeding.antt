-- What the options of a packet say to the rows: step 8 of RFC 4340, section 8.5, by section 6 (which options count is
-- own).
--
-- `heeds` is a fold over the list of options. `heard_turns` is what each row hears, so that an effect can speak of rows without the packet's
-- other options.
use Rattle.std.specs.Prelude.{◌≡◌, ◌==◌, ◌&&◌, ◌||◌, not, nat_le, nat_lt, if◌then◌else◌, ℕ, ◌+◌, ◌*◌, Bool, true, false, List, [], ◌∷◌, ◌++◌, length, replicate, slice_index, slice_index_or, slice_set, Option, Some, None, Result, Ok, Err}
use Rattle.dccp_options.specs.Grammar.{Entry}
use Rattle.dccp_options.specs.Kinds as options
use Rattle.dccp_options.specs.Kinds.{is_understood}
use Rattle.dccp_options.specs.declared.option.OptFault.{OptFault}
use Rattle.dccp_packets.specs.ResetCodes.{number_of_code}
use Rattle.dccp_packets.specs.declared.reset_code.ResetCode.{ResetCode}
use Rattle.dccp_packets.specs.declared.reset_code.ResetCode.TheVariants as codes
use Rattle.feature_lists.specs.Features.{feature_numbered}
use Rattle.feature_lists.specs.declared.features.Feature.{Feature}
use Rattle.feature_machine.specs.Answers.{ChangeAnswer, Confirming, Ignoring, Failing, answered, settling_of}
use Rattle.feature_machine.specs.Negotiating.{changes, confirmed, place_of}
use Rattle.feature_machine.specs.Rows.{RowEvent, Change, Confirm}
use Rattle.feature_machine.specs.Turns.{Turn}
use Rattle.feature_machine.specs.declared.answers.ConfirmOut.{ConfirmOut}
use Rattle.feature_machine.specs.declared.answers.Settling.{Settling}
use Rattle.feature_machine.specs.declared.answers.Settling.TheVariants as settling
use Rattle.feature_machine.specs.declared.row.Row.{Row}
use Rattle.dccp_endpoint.specs.Faults.{mandatory_fault}
use Rattle.dccp_endpoint.specs.Turns.{turn_of}
use Rattle.dccp_states.specs.declared.outcome.Fault.{Fault}

-- A Confirm that is due: whether it is Confirm L or Confirm R, its feature number, and the data after that.
pub record DueConfirm : Type 0 where
  pub left : Bool
  pub number : ℕ
  pub body : List ℕ

-- a Confirm that the rows answer, as one that is due
abbrev pub due_of : ConfirmOut → DueConfirm
due_of out = record { left = out.left; number = out.feature; body = out.body.items }

-- The result so far of reading: the rows; which features had an option by L and by R; how many Changes were met, up to 64; and the Confirms that
-- are due, in order.
pub record ReadingState : Type 0 where
  pub rows : List Row
  pub used : List Bool
  pub changes : ℕ
  pub confirms : List DueConfirm

-- The same without the rows, which turn where the end has them.
pub record ReadingNotes : Type 0 where
  pub used : List Bool
  pub changes : ℕ
  pub confirms : List DueConfirm

-- rows, and what was noted beside them
abbrev pub read_beside : List Row → ReadingNotes → ReadingState
read_beside rows notes = record { rows = rows; used = notes.used; changes = notes.changes; confirms = notes.confirms }

-- nothing was read yet
abbrev pub unheeded : List Row → ReadingState
unheeded rows = record { rows = rows; used = replicate 512 false; changes = 0; confirms = [] }

-- nothing was noted yet: whatever the rows, nothing was read
abbrev pub AreBlank : ReadingNotes → Type 0
AreBlank notes = (rows : List Row) → read_beside rows notes ≡ unheeded rows

-- the place of a feature number and L or R among 512
abbrev pub place_in_used : Bool → ℕ → ℕ
place_in_used true number = 2 * number + 1
place_in_used false number = 2 * number

-- of the four types of the negotiation, Change L and Confirm L
abbrev pub is_left : ℕ → Bool
is_left kind = nat_le kind options.confirm_l

-- Change L and Change R
abbrev pub is_change : ℕ → Bool
is_change kind = kind == options.change_l || kind == options.change_r

-- Change L, Confirm L, Change R and Confirm R
abbrev pub is_of_negotiation : ℕ → Bool
is_of_negotiation kind = nat_le options.change_l kind && nat_le kind options.confirm_r

-- A Reset Code with the option's type and the first two bytes of its data, zero if there are none (section 5.6).
abbrev pub fault_of : ResetCode → Entry → Fault
fault_of code entry = record { code = number_of_code code; first = entry.kind; second = slice_index entry.body 0; third = slice_index entry.body 1 }

-- one Change more, up to 64
abbrev pub counted : ℕ → Bool → ℕ
counted changes true = if nat_lt changes 64 then changes + 1 else changes
counted changes false = changes

-- The option was met: from now on no other one for its feature by its letter counts.
abbrev pub met : ReadingState → ℕ → Bool → List Row → List DueConfirm → ReadingState
met h place change rows confirms =
    record { rows = rows; used = slice_set h.used place true; changes = counted h.changes change; confirms = confirms }

-- the same of what was noted beside the rows
abbrev pub met_beside : ReadingNotes → ℕ → Bool → List DueConfirm → ReadingNotes
met_beside notes place change confirms =
    record { used = slice_set notes.used place true; changes = counted notes.changes change; confirms = confirms }

-- a Change, by what its row answers
abbrev pub by_answered : ReadingState → ℕ → List Row → Entry → ChangeAnswer → Result ReadingState Fault
by_answered h place rows entry (Confirming left number body) =
    Ok (met h place true rows (h.confirms ++ record { left = left; number = number; body = body } ∷ []))
by_answered h place rows entry Ignoring = Ok (met h place true rows h.confirms)
by_answered h place rows entry Failing = Err (fault_of codes.MandatoryError entry)

-- a Change that is heeded: what its row answers makes a Confirm that is due, nothing, or the fault Mandatory Error
abbrev pub heeds_change : ReadingState → Entry → Bool → ℕ → List ℕ → Result ReadingState Fault
heeds_change h entry left number body =
    by_answered h (place_in_used left number) (changes h.rows left number body entry.mandatory).rows entry
    (answered left number (changes h.rows left number body entry.mandatory).answer)

-- a Confirm, by what its row answers
abbrev pub by_settling : ReadingState → ℕ → List Row → Entry → Settling → Result ReadingState Fault
by_settling h place rows entry settling.Settled = Ok (met h place false rows h.confirms)
by_settling h place rows entry settling.Ignored = Ok (met h place false rows h.confirms)
by_settling h place rows entry settling.Fatal = Err (fault_of codes.OptionError entry)

-- a Confirm that is heeded, for the packet's acknowledgement number: what its row cannot accept is the fault Option
-- Error
abbrev pub heeds_confirm : Option ℕ → ReadingState → Entry → Bool → ℕ → List ℕ → Result ReadingState Fault
heeds_confirm ack h entry left number body =
    by_settling h (place_in_used left number) (confirmed h.rows left number body ack).rows entry
    (settling_of (confirmed h.rows left number body ack).answer)

-- the first option for a feature by a letter; of Changes, one of the first 64 of the packet
abbrev pub heeds_first : Option ℕ → ReadingState → Entry → Bool → Bool → ℕ → List ℕ → Result ReadingState Fault
heeds_first ack h entry true left number body =
    if nat_lt h.changes 64 then heeds_change h entry left number body else Ok (met h (place_in_used left number) true h.rows h.confirms)
heeds_first ack h entry false left number body = heeds_confirm ack h entry left number body

-- a later one for the same feature by the same letter is passed over
abbrev pub heeds_feature : Option ℕ → ReadingState → Entry → Bool → Bool → ℕ → List ℕ → Result ReadingState Fault
heeds_feature ack h entry change left number body =
    if slice_index_or h.used (place_in_used left number) false then Ok (record h { changes = counted h.changes change })
    else heeds_first ack h entry change left number body

-- the data are the feature number and what follows it
abbrev pub heeds_body : Option ℕ → ReadingState → Entry → List ℕ → Result ReadingState Fault
heeds_body ack h entry [] = Ok h
heeds_body ack h entry (number ∷ body) = heeds_feature ack h entry (is_change entry.kind) (is_left entry.kind) number body

-- an option that is not understood is a fault only after Mandatory (section 5.8.2)
abbrev pub misunderstood : ReadingState → Entry → Result ReadingState Fault
misunderstood h entry = if entry.mandatory then Err (fault_of codes.MandatoryError entry) else Ok h

-- the result so far of reading, or the fault, as a method leaves and returns it
abbrev pub heeding_or : ReadingState → Result (Unit {0}) Fault → Result ReadingState Fault
heeding_or h (Ok _) = Ok h
heeding_or h (Err fault) = Err fault

-- An option of the negotiation is heeded where such options count, and elsewhere passed over with its Mandatory. All others say nothing to the
-- rows.
abbrev pub heeds_entry : Bool → Option ℕ → ReadingState → Entry → Result ReadingState Fault
heeds_entry count ack h entry =
    if not (is_understood entry.kind (length entry.body)) then misunderstood h entry
    else if count && is_of_negotiation entry.kind then heeds_body ack h entry entry.body
    else Ok h

-- a fault of Mandatory itself ends the reading with Option Error
abbrev pub heeds_item : Bool → Option ℕ → ReadingState → Result Entry OptFault → Result ReadingState Fault
heeds_item count ack h (Ok entry) = heeds_entry count ack h entry
heeds_item count ack h (Err _) = Err mandatory_fault

-- the options after a fault are not heeded
abbrev pub heeds_then : Result ReadingState Fault → (ReadingState → Result ReadingState Fault) → Result ReadingState Fault
heeds_then (Ok h) rest = rest h
heeds_then (Err fault) rest = Err fault

-- The options in order, up to the first fault; `count` says whether those of the negotiation count, and `ack` is the packet's acknowledgement
-- number.
abbrev pub heeds : Bool → Option ℕ → ReadingState → List (Result Entry OptFault) → Result ReadingState Fault
heeds count ack h [] = Ok h
heeds count ack h (item ∷ rest) = heeds_then (heeds_item count ack h item) (λ next. heeds count ack next rest)

-- The turns of the rows. Which options count does not depend on the rows.
abbrev pub event_of : Option ℕ → Entry → Bool → List ℕ → RowEvent
event_of ack entry true body = Change body entry.mandatory
event_of ack entry false body = Confirm body ack

-- the turn of the feature with this number, if there is one
abbrev pub turn_known : Option Feature → Bool → RowEvent → List Turn
turn_known None left event = []
turn_known (Some feature) left event = turn_of (feature, place_of left) event ∷ []

-- a Change after the first 64 turns no row
abbrev pub is_too_many : ReadingState → Bool → Bool
is_too_many h change = change && not (nat_lt h.changes 64)

-- neither a repeated option nor a Change beyond the first 64 turns a row, and a feature number that is not known has
-- none
abbrev pub feature_turns : Option ℕ → ReadingState → Entry → Bool → Bool → ℕ → List ℕ → List Turn
feature_turns ack h entry change left number body =
    if slice_index_or h.used (place_in_used left number) false then []
    else if is_too_many h change then []
    else turn_known (feature_numbered number) left (event_of ack entry change body)

-- an option of the negotiation without a feature number turns no row
abbrev pub body_turns : Option ℕ → ReadingState → Entry → List ℕ → List Turn
body_turns ack h entry [] = []
body_turns ack h entry (number ∷ body) = feature_turns ack h entry (is_change entry.kind) (is_left entry.kind) number body

-- only an understood option of the negotiation turns a row, and only if such options count
abbrev pub entry_turns : Bool → Option ℕ → ReadingState → Entry → List Turn
entry_turns count ack h entry =
    if not (is_understood entry.kind (length entry.body)) then []
    else if count && is_of_negotiation entry.kind then body_turns ack h entry entry.body
    else []

-- a fault of Mandatory itself turns no row
abbrev pub item_turns : Bool → Option ℕ → ReadingState → Result Entry OptFault → List Turn
item_turns count ack h (Ok entry) = entry_turns count ack h entry
item_turns count ack h (Err _) = []

-- no row has a turn after a fault
abbrev pub turns_then : Result ReadingState Fault → (ReadingState → List Turn) → List Turn
turns_then (Ok h) rest = rest h
turns_then (Err fault) rest = []

-- what the rows hear of the options, in order
abbrev pub heard_turns : Bool → Option ℕ → ReadingState → List (Result Entry OptFault) → List Turn
heard_turns count ack h [] = []
heard_turns count ack h (item ∷ rest) = item_turns count ack h item ++ turns_then (heeds_item count ack h item) (λ next. heard_turns count ack next rest)
