-- Of a packet's options a row hears the first that speaks to it, and the Confirm that is due is the row's answer (RFC 4340, section 6).
use Rattle.std.proofs.Common.{◌≡◌, ◌≢◌, ◌==◌, ◌&&◌, ◌<◌, ◌≤◌, not, refl, sym, ap, ◌∙◌, subst, arith, ℕ, ◌+◌, suc, Bool, true, false, List, [], ◌∷◌, ◌++◌, drop, length, Option, Some, None, Result, Ok, Err, length-set, get_or-set_same, get_or-set_other, eqb-true}
use Rattle.std.specs.Prelude.{if◌then◌else◌, filter, nat_le, nat_lt, slice_index_or}
use Rattle.std.proofs.lemmas.Bool.{eq-eqb, and_from, and_left, and_parts, and_right, cond-false, cond-true, eqb-false, false_from_ne_true, false≢true, le-leb, leb-true, lt-ltb, not-false}
use Rattle.std.proofs.lemmas.List.{get_or-replicate, length-replicate}
use Rattle.dccp_options.specs.Grammar.{Entry}
use Rattle.dccp_options.specs.Kinds.{change_l, confirm_r, is_understood}
use Rattle.dccp_options.specs.declared.option.OptFault.{OptFault}
use Rattle.dccp_packets.specs.declared.reset_code.ResetCode.TheVariants as codes
use Rattle.feature_lists.specs.Features.{described, feature_number, feature_numbered}
use Rattle.feature_machine.specs.Answers.{answered, settling_of}
use Rattle.feature_machine.specs.Lists.{index_of}
use Rattle.feature_machine.specs.Negotiating.{RowsStep, changes, confirmed, row_at, stepped, opposite}
use Rattle.feature_machine.specs.Rows.{RowEvent, RowAnswer, Change, Confirm, Confirms, Ignored, Settled, Fatal, Opens, Waits, Quiet, Confirmed, confirmation, row_line, row_step, says, settled}
use Rattle.feature_machine.specs.declared.judging.Confirmation.{Confirmation}
use Rattle.feature_machine.specs.declared.judging.Confirmation.TheVariants as c
use Rattle.feature_machine.specs.declared.stands.Stand.{Stand}
use Rattle.feature_machine.specs.declared.stands.Stand.TheVariants as stand
use Rattle.feature_machine.specs.Turns.{Turn, events_of, confirm_of, reply_due}
use Rattle.feature_machine.specs.declared.row.Row.{Row}
use Rattle.feature_machine.proofs.Places.{numbered}
use Rattle.dccp_endpoint.proofs.FirstFaults.{item-counts}
use Rattle.dccp_endpoint.specs.Heeding.{DueConfirm, ReadingState, body_turns, by_answered, by_settling, counted, entry_turns, event_of, fault_of, feature_turns, heard_turns, heeds, heeds_body, heeds_entry, heeds_feature, heeds_first, heeds_then, is_change, is_left, is_of_negotiation, is_too_many, met, misunderstood, place_in_used, turn_known, turns_then, unheeded}
use Rattle.dccp_endpoint.specs.Saying.{ConfirmsAreSingle, RowsHearThePacket, begins_with_number, changes_among, has_feature_number, is_change_item, negotiates_by, body_if, confirm_for, event_in, once_if, said_to, speaks_to, times_confirmed}
use Rattle.dccp_endpoint.specs.Speaking.{is_for, is_of_place}
use Rattle.dccp_endpoint.specs.Turns.{Key}
use Rattle.dccp_states.specs.declared.outcome.Fault.{Fault}
use Rattle.dccp_endpoint.proofs.OneRow.{IsBeside, beside-so, changes-leaves, confirmed-leaves, events-append, events-beside, events-own, is_to, letter-answer, letter-place, letter_to, spot, spot-below, to-so}

-- a Confirm that is due for another row, and one for this
confirm-beside : (k : Key) (due : DueConfirm) (confirms : List DueConfirm) → is_for k due ≡ false → confirm_for k (confirms ++ due ∷ []) ≡ confirm_for k confirms
confirm-beside k due [] differs = ap (λ its. body_if its due.body None) differs
confirm-beside k due (first ∷ rest) differs = ap (body_if (is_for k first) first.body) (confirm-beside k due rest differs)

confirm-own : (k : Key) (due : DueConfirm) (confirms : List DueConfirm) → is_for k due ≡ true → confirm_for k confirms ≡ None
    → confirm_for k (confirms ++ due ∷ []) ≡ Some due.body
confirm-own k due [] its none = ap (λ its. body_if its due.body None) its
confirm-own k due (first ∷ rest) its none = by (is_for k first) none (λ later. confirm-own k due rest its later) where
  by : (is_first : Bool) → body_if is_first first.body (confirm_for k rest) ≡ None
      → (confirm_for k rest ≡ None → confirm_for k (rest ++ due ∷ []) ≡ Some due.body)
      → body_if is_first first.body (confirm_for k (rest ++ due ∷ [])) ≡ Some due.body
  by true none later = cc none
  by false none later = later none

times-more : (k : Key) (due : DueConfirm) (confirms : List DueConfirm) → times_confirmed k (confirms ++ due ∷ []) ≡ times_confirmed k confirms + once_if (is_for k due)
times-more k due [] = omega arith
times-more k due (first ∷ rest) = let later = times-more k due rest in omega (arith, later)

-- whether the row was spoken to before
abbrev pub is_used : Key → ReadingState → Bool
is_used k h = slice_index_or h.used (spot k) false

-- What each option keeps.
record Keeps (h next : ReadingState) : Type 0 where
  rows : length next.rows ≡ length h.rows
  used : length next.used ≡ length h.used

-- What an option that does not speak to the row leaves, or one that was spoken to before.
record Passes (k : Key) (h next : ReadingState) (turns : List Turn) : Type 0 where
  keeps : Keeps h next
  events : events_of k.0 k.1 turns ≡ []
  row : row_at next.rows k.0 k.1 ≡ row_at h.rows k.0 k.1
  used : is_used k next ≡ is_used k h
  confirm : confirm_for k next.confirms ≡ confirm_for k h.confirms
  times : times_confirmed k next.confirms ≡ times_confirmed k h.confirms

-- What the first one that speaks to it does.
record Tells (k : Key) (h next : ReadingState) (event : RowEvent) (turns : List Turn) : Type 0 where
  keeps : Keeps h next
  events : events_of k.0 k.1 turns ≡ event ∷ []
  used : is_used k next ≡ true
  confirm : confirm_for k h.confirms ≡ None → confirm_for k next.confirms ≡ confirm_of (row_step (row_at h.rows k.0 k.1) event).answer
  times : times_confirmed k next.confirms ≤ times_confirmed k h.confirms + 1
  lives : (code : ℕ) → (row_step (row_at h.rows k.0 k.1) event).answer ≢ Fatal code

-- reading went on with this
abbrev fine : ReadingState → Result ReadingState Fault
fine h = Ok h

-- an option that was passed over
abbrev again : ReadingState → Bool → ReadingState
again h change = record h { changes = counted h.changes change }

again-passes : (k : Key) (h : ReadingState) (change : Bool) → Passes k h (again h change) []
again-passes k h change = record {
  keeps = record { rows = refl; used = refl };
  events = refl;
  row = refl;
  used = refl;
  confirm = refl;
  times = refl;
}

still-passes : (k : Key) (h : ReadingState) → Passes k h h []
still-passes k h = record {
  keeps = record { rows = refl; used = refl };
  events = refl;
  row = refl;
  used = refl;
  confirm = refl;
  times = refl;
}

met-keeps : (h : ReadingState) (place : ℕ) (change : Bool) (rows : List Row) (confirms : List DueConfirm) → length rows ≡ length h.rows
    → Keeps h (met h place change rows confirms)
met-keeps h place change rows confirms size = record { rows = size; used = length-set h.used place true }

not_many : (h : ReadingState) (change : Bool) → (change ≡ true → h.changes < 64) → is_too_many h change ≡ false
not_many h true few = let less : nat_lt h.changes 64 ≡ true = lt-ltb h.changes 64 (few refl) in rw less refl
not_many h false few = refl

-- an option for another row
module _ (k : Key) (ack : Option ℕ) (h next : ReadingState) (entry : Entry) (left : Bool) (number : ℕ) (body : List ℕ) (beside : IsBeside k left number) where
  abbrev place : ℕ
  place = place_in_used left number

  met-passes : (change : Bool) (rows : List Row) (confirms : List DueConfirm) (turns : List Turn) → row_at rows k.0 k.1 ≡ row_at h.rows k.0 k.1
      → length rows ≡ length h.rows → confirm_for k confirms ≡ confirm_for k h.confirms
      → times_confirmed k confirms ≡ times_confirmed k h.confirms → events_of k.0 k.1 turns ≡ []
      → Passes k h (met h place change rows confirms) turns
  met-passes change rows confirms turns row size confirm times events = record {
    keeps = met-keeps h place change rows confirms size;
    events = events;
    row = row;
    used = get_or-set_other h.used place (spot k) true false beside.spots;
    confirm = confirm;
    times = times;
  }

  abbrev its_turns : Bool → List Turn
  its_turns change = turn_known (feature_numbered number) left (event_of ack entry change body)

  silent-passes : (change : Bool) (rows : List Row) → row_at rows k.0 k.1 ≡ row_at h.rows k.0 k.1 → length rows ≡ length h.rows
      → fine (met h place change rows h.confirms) ≡ Ok next → Passes k h next (its_turns change)
  silent-passes change rows row size is =
      let same : met h place change rows h.confirms ≡ next = cc is in
      subst (λ end. Passes k h end (its_turns change)) same
      (met-passes change rows h.confirms (its_turns change) row size refl refl (events-beside k left number (event_of ack entry change body) beside))

  answer-passes : (rows : List Row) → row_at rows k.0 k.1 ≡ row_at h.rows k.0 k.1 → length rows ≡ length h.rows → (answer : RowAnswer)
      → by_answered h place rows entry (answered left number answer) ≡ Ok next → Passes k h next (its_turns true)
  answer-passes rows row size (Confirms its) is =
      let due : DueConfirm = record { left = not left; number = number; body = its } in
      let same : met h place true rows (h.confirms ++ due ∷ []) ≡ next = cc is in
      let more = times-more k due h.confirms in
      let none : once_if (is_for k due) ≡ 0 = ap once_if beside.due in
      subst (λ end. Passes k h end (its_turns true)) same
      (met-passes true rows (h.confirms ++ due ∷ []) (its_turns true) row size (confirm-beside k due h.confirms beside.due)
      (omega (arith, more, none)) (events-beside k left number (event_of ack entry true body) beside))
  answer-passes rows row size (Fatal code) is = cc is
  answer-passes rows row size _ is = silent-passes true rows row size is

  settling-passes : (rows : List Row) → row_at rows k.0 k.1 ≡ row_at h.rows k.0 k.1 → length rows ≡ length h.rows → (answer : RowAnswer)
      → by_settling h place rows entry (settling_of answer) ≡ Ok next → Passes k h next (its_turns false)
  settling-passes rows row size (Fatal code) is = cc is
  settling-passes rows row size _ is = silent-passes false rows row size is

  first-passes : (change : Bool) → is_too_many h change ≡ false → heeds_first ack h entry change left number body ≡ Ok next → Passes k h next (its_turns change)
  first-passes true few is =
      let leaves = changes-leaves k h.rows left number body entry.mandatory beside in
      let less : nat_lt h.changes 64 ≡ true = not-false (nat_lt h.changes 64) few in
      answer-passes (changes h.rows left number body entry.mandatory).rows leaves.row leaves.size
      (changes h.rows left number body entry.mandatory).answer
      (sym (cond-true (nat_lt h.changes 64) _ _ less) ∙ is)
  first-passes false few is =
      let leaves = confirmed-leaves k h.rows left number body ack beside in
      settling-passes (confirmed h.rows left number body ack).rows leaves.row leaves.size (confirmed h.rows left number body ack).answer is

  beside-passes : (change : Bool) → is_too_many h change ≡ false → heeds_feature ack h entry change left number body ≡ Ok next
      → Passes k h next (feature_turns ack h entry change left number body)
  beside-passes change few is = by (slice_index_or h.used place false) is where
    by : (was : Bool) → (if was then fine (again h change) else heeds_first ack h entry change left number body) ≡ Ok next
        → Passes k h next (if was then [] else if is_too_many h change then [] else its_turns change)
    by true is = let same : again h change ≡ next = cc is in subst (λ end. Passes k h end []) same (again-passes k h change)
    by false is = rw few (first-passes change few is)

-- No row answers a Confirm by one.
settles-silent : (row : Row) (its : Stand) (judged : Confirmation) → confirm_of (row_line row its (Confirmed judged)).answer ≡ None
settles-silent row its judged = grind arith

-- an option for this row, the first
changes-own : (k : Key) (rows : List Row) (body : List ℕ) (mandatory : Bool)
    → changes rows (letter_to k.1) (feature_number k.0) body mandatory ≡ stepped rows k.0 k.1 (Change body mandatory)
changes-own k rows body mandatory = rw (numbered k.0, letter-place k.1) refl

confirmed-own : (k : Key) (rows : List Row) (body : List ℕ) (ack : Option ℕ)
    → confirmed rows (letter_to k.1) (feature_number k.0) body ack ≡ stepped rows k.0 k.1 (Confirm body ack)
confirmed-own k rows body ack = rw (numbered k.0, letter-place k.1) refl

module _ (k : Key) (ack : Option ℕ) (h next : ReadingState) (entry : Entry) (body : List ℕ) (size : length h.used ≡ 512) where
  abbrev event : Bool → RowEvent
  event change = event_of ack entry change body

  abbrev own_turns : Bool → List Turn
  own_turns change = turn_known (feature_numbered (feature_number k.0)) (letter_to k.1) (event change)

  own-events : (change : Bool) → events_of k.0 k.1 (own_turns change) ≡ event change ∷ []
  own-events change = rw (numbered k.0) (events-own k (event change))

  abbrev answer : Bool → RowAnswer
  answer change = (row_step (row_at h.rows k.0 k.1) (event change)).answer

  silent-tells : (change : Bool) (rows : List Row) → length rows ≡ length h.rows → confirm_of (answer change) ≡ None
      → ((code : ℕ) → answer change ≢ Fatal code)
      → fine (met h (spot k) change rows h.confirms) ≡ Ok next → Tells k h next (event change) (own_turns change)
  silent-tells change rows same_size none alive is =
      let same : met h (spot k) change rows h.confirms ≡ next = cc is in
      subst (λ end. Tells k h end (event change) (own_turns change)) same (record {
        keeps = met-keeps h (spot k) change rows h.confirms same_size;
        events = own-events change;
        used = get_or-set_same h.used (spot k) true false (let below = spot-below k in omega arith);
        confirm = λ before. before ∙ sym none;
        times = omega arith;
        lives = alive;
      })

  answer-tells : (rows : List Row) → length rows ≡ length h.rows → (its : RowAnswer) → answer true ≡ its
      → by_answered h (spot k) rows entry (answered (letter_to k.1) (feature_number k.0) its) ≡ Ok next → Tells k h next (event true) (own_turns true)
  answer-tells rows same_size (Confirms its) so is =
      let due : DueConfirm = record { left = not (letter_to k.1); number = feature_number k.0; body = its } in
      let same : met h (spot k) true rows (h.confirms ++ due ∷ []) ≡ next = cc is in
      let more = times-more k due h.confirms in
      let own : is_for k due ≡ true =
      and_from (feature_number k.0 == feature_number k.0) (is_of_place (not (letter_to k.1)) k.1) (eq-eqb (feature_number k.0) (feature_number k.0) refl)
      (letter-answer k.1) in
      let one : once_if (is_for k due) ≡ 1 = ap once_if own in
      subst (λ end. Tells k h end (event true) (own_turns true)) same (record {
        keeps = met-keeps h (spot k) true rows (h.confirms ++ due ∷ []) same_size;
        events = own-events true;
        used = get_or-set_same h.used (spot k) true false (let below = spot-below k in omega arith);
        confirm = λ before. confirm-own k due h.confirms own before ∙ sym (ap confirm_of so);
        times = omega (arith, more, one);
        lives = λ code fatal. cc (so, fatal);
      })
  answer-tells rows same_size (Fatal code) so is = cc is
  answer-tells rows same_size _ so is = silent-tells true rows same_size (ap confirm_of so) (λ code fatal. cc (so, fatal)) is

  settling-tells : (rows : List Row) → length rows ≡ length h.rows → confirm_of (answer false) ≡ None → (its : RowAnswer) → answer false ≡ its
      → by_settling h (spot k) rows entry (settling_of its) ≡ Ok next → Tells k h next (event false) (own_turns false)
  settling-tells rows same_size none (Fatal code) so is = cc is
  settling-tells rows same_size none _ so is = silent-tells false rows same_size none (λ code fatal. cc (so, fatal)) is

  first-tells : (change : Bool) → is_too_many h change ≡ false → heeds_first ack h entry change (letter_to k.1) (feature_number k.0) body ≡ Ok next
      → Tells k h next (event change) (own_turns change)
  first-tells true few is =
      let own = changes-own k h.rows body entry.mandatory in
      let less : nat_lt h.changes 64 ≡ true = not-false (nat_lt h.changes 64) few in
      let given = sym (cond-true (nat_lt h.changes 64) _ _ less) ∙ is in
      answer-tells (stepped h.rows k.0 k.1 (Change body entry.mandatory)).rows
      (length-set h.rows (index_of k.0 k.1) (row_step (row_at h.rows k.0 k.1) (Change body entry.mandatory)).row) (answer true) refl
      (subst (λ (step : RowsStep). by_answered h (spot k) step.rows entry (answered (letter_to k.1) (feature_number k.0) step.answer) ≡ Ok next) own given)
  first-tells false few is =
      let own = confirmed-own k h.rows body ack in
      settling-tells (stepped h.rows k.0 k.1 (Confirm body ack)).rows
      (length-set h.rows (index_of k.0 k.1) (row_step (row_at h.rows k.0 k.1) (Confirm body ack)).row)
      (settles-silent (row_at h.rows k.0 k.1) (row_at h.rows k.0 k.1).stand (confirmation (row_at h.rows k.0 k.1) body ack)) (answer false) refl
      (subst (λ (step : RowsStep). by_settling h (spot k) step.rows entry (settling_of step.answer) ≡ Ok next) own is)

  own-tells : (change : Bool) → is_too_many h change ≡ false → is_used k h ≡ false
      → heeds_feature ack h entry change (letter_to k.1) (feature_number k.0) body ≡ Ok next
      → Tells k h next (event change) (feature_turns ack h entry change (letter_to k.1) (feature_number k.0) body)
  own-tells change few unused is =
      rw (unused, few) (first-tells change few (sym (cond-false (is_used k h) _ _ unused) ∙ is))

  own-passes : (change : Bool) → is_used k h ≡ true → heeds_feature ack h entry change (letter_to k.1) (feature_number k.0) body ≡ Ok next
      → Passes k h next (feature_turns ack h entry change (letter_to k.1) (feature_number k.0) body)
  own-passes change used is =
      let passed : fine (again h change) ≡ Ok next = sym (cond-true (is_used k h) _ _ used) ∙ is in
      let same : again h change ≡ next = cc passed in
      rw used (subst (λ end. Passes k h end []) same (again-passes k h change))

-- an option with data is understood, and one without is not
understood-so : (kind size : ℕ) → is_of_negotiation kind ≡ true → is_understood kind (suc size) ≡ true
understood-so kind size is =
    let parts = and_parts (nat_le change_l kind) (nat_le kind confirm_r) is in
    let low : 32 ≤ kind = leb-true 32 kind parts.0 in
    let high : kind ≤ 35 = leb-true kind 35 parts.1 in
    by (kind == 32) refl (kind == 33) refl (kind == 34) refl low high
  where
    three : nat_le 3 (suc size + 2) ≡ true
    three = le-leb 3 (suc size + 2) (omega arith)

    by : (one : Bool) → (kind == 32) ≡ one → (two : Bool) → (kind == 33) ≡ two → (third : Bool) → (kind == 34) ≡ third → 32 ≤ kind → kind ≤ 35
        → is_understood kind (suc size) ≡ true
    by true is two _ third _ low high = let same : kind ≡ 32 = eqb-true kind 32 is in rw same (rw three refl)
    by false _ true is third _ low high = let same : kind ≡ 33 = eqb-true kind 33 is in rw same (rw three refl)
    by false _ false _ true is low high = let same : kind ≡ 34 = eqb-true kind 34 is in rw same (rw three refl)
    by false first false second false third low high =
        let one = eqb-false kind 32 first in
        let two = eqb-false kind 33 second in
        let other = eqb-false kind 34 third in
        let same : kind ≡ 35 = omega (arith, one, two, other) in
        rw same (rw three refl)

and-nested : (one two three : Bool) → (one && (two && three)) ≡ ((one && two) && three)
and-nested true two three = refl
and-nested false two three = refl

-- what an option is to the row: it does not speak to it, or the row was spoken to before, or it is the first that speaks to it
data Way (k : Key) (count : Bool) (ack : Option ℕ) (h next : ReadingState) (entry : Entry) (turns : List Turn) : Type 0 where
  Passing : (count && speaks_to k entry) ≡ false → Passes k h next turns → Way k count ack h next entry turns
  Repeating : is_used k h ≡ true → Passes k h next turns → Way k count ack h next entry turns
  Telling : is_used k h ≡ false → (count && speaks_to k entry) ≡ true → Tells k h next (event_in ack entry) turns
      → Way k count ack h next entry turns

-- An option that is not understood speaks to no row.
mute-so : (k : Key) (entry : Entry) → is_understood entry.kind (length entry.body) ≡ false → speaks_to k entry ≡ false
mute-so k entry is = by entry.body is where
  its_place : Bool
  its_place = is_of_place (is_left entry.kind) (opposite k.1)

  by : (body : List ℕ) → is_understood entry.kind (length body) ≡ false
      → (is_of_negotiation entry.kind && (begins_with_number (feature_number k.0) body && its_place)) ≡ false
  by [] is = and_right (is_of_negotiation entry.kind) (false && its_place) refl
  by (number ∷ body) is =
      and_left (is_of_negotiation entry.kind) (number == feature_number k.0 && its_place)
      (false_from_ne_true (is_of_negotiation entry.kind) (λ its. false≢true (sym is ∙ understood-so entry.kind (length body) its)))

module _ (k : Key) (count : Bool) (ack : Option ℕ) (h next : ReadingState) (entry : Entry) (few : is_change_item (Ok entry) ≡ true → h.changes < 64)
    (size : length h.used ≡ 512) where
  abbrev Its : List Turn → Type 0
  Its turns = Way k count ack h next entry turns

  abbrev change : Bool
  change = is_change entry.kind

  -- it passes where nothing was done
  nothing-way : (count && speaks_to k entry) ≡ false → fine h ≡ Ok next → Its []
  nothing-way silent is = let same : h ≡ next = cc is in Passing silent (subst (λ end. Passes k h end []) same (still-passes k h))

  -- where it counts, it speaks to the row by its feature number and letter
  speaks-so : (body : List ℕ) → entry.body ≡ body → (count && is_of_negotiation entry.kind) ≡ true
      → (count && speaks_to k entry) ≡ (begins_with_number (feature_number k.0) body && is_of_place (is_left entry.kind) (opposite k.1))
  speaks-so body is counts =
      ap (λ (bytes : List ℕ). count
      && (is_of_negotiation entry.kind && (begins_with_number (feature_number k.0) bytes && is_of_place (is_left entry.kind) (opposite k.1)))) is
      ∙ and-nested count (is_of_negotiation entry.kind) (begins_with_number (feature_number k.0) body && is_of_place (is_left entry.kind) (opposite k.1))
      ∙ ap (λ (its : Bool). its && (begins_with_number (feature_number k.0) body && is_of_place (is_left entry.kind) (opposite k.1))) counts

  own-way : (number : ℕ) (body : List ℕ) → is_too_many h change ≡ false → entry.body ≡ number ∷ body → (count && speaks_to k entry) ≡ true → (was : Bool)
      → is_used k h ≡ was
      → heeds_feature ack h entry change (letter_to k.1) (feature_number k.0) body ≡ Ok next
      → Its (feature_turns ack h entry change (letter_to k.1) (feature_number k.0) body)
  own-way number body some is speaks true used so = Repeating used (own-passes k ack h next entry body size change used so)
  own-way number body some is speaks false unused so =
      let same : event_in ack entry ≡ event_of ack entry change body = ap (λ (bytes : List ℕ). event_of ack entry change (drop 1 bytes)) is in
      Telling unused speaks
      (subst (λ its. Tells k h next its (feature_turns ack h entry change (letter_to k.1) (feature_number k.0) body)) (sym same)
      (own-tells k ack h next entry body size change some unused so))

  body-way : (body : List ℕ) → is_understood entry.kind (length entry.body) ≡ true → entry.body ≡ body → (count && is_of_negotiation entry.kind) ≡ true
      → heeds_body ack h entry body ≡ Ok next → Its (body_turns ack h entry body)
  body-way [] known is counts so = nothing-way (speaks-so [] is counts) so
  body-way (number ∷ body) known is counts so = by (is_to k (is_left entry.kind) number) refl (speaks-so (number ∷ body) is counts) where
    some : is_too_many h change ≡ false
    some =
        not_many h change
        (λ asks. few
        (and_from (negotiates_by entry) change
        (and_from (is_understood entry.kind (length entry.body)) (is_of_negotiation entry.kind && has_feature_number entry.body) known
        (and_from (is_of_negotiation entry.kind) (has_feature_number entry.body) (and_parts count (is_of_negotiation entry.kind) counts).1
        (ap has_feature_number is)))
        asks))

    by : (to : Bool) → is_to k (is_left entry.kind) number ≡ to → (count && speaks_to k entry) ≡ is_to k (is_left entry.kind) number
        → Its (feature_turns ack h entry change (is_left entry.kind) number body)
    by false to speaks =
        Passing (speaks ∙ to) (beside-passes k ack h next entry (is_left entry.kind) number body (beside-so k (is_left entry.kind) number to) change some so)
    by true to speaks =
        let its = to-so k (is_left entry.kind) number to in
        subst (λ (left : Bool). heeds_feature ack h entry change left number body ≡ Ok next → Its (feature_turns ack h entry change left number body))
        (sym its.left_is)
        (subst (λ (n : ℕ). heeds_feature ack h entry change (letter_to k.1) n body ≡ Ok next → Its (feature_turns ack h entry change (letter_to k.1) n body))
        (sym its.number_is)
        (own-way number body some is (speaks ∙ to) (is_used k h) refl)) so

  counting-way : is_understood entry.kind (length entry.body) ≡ true → (counts : Bool) → (count && is_of_negotiation entry.kind) ≡ counts
      → (if counts then heeds_body ack h entry entry.body else fine h) ≡ Ok next
      → Its (if counts then body_turns ack h entry entry.body else [])
  counting-way known true is so = body-way entry.body known refl is so
  counting-way known false is so =
      let silent = and-nested count (is_of_negotiation entry.kind)
      (begins_with_number (feature_number k.0) entry.body && is_of_place (is_left entry.kind) (opposite k.1)) in
      nothing-way (silent ∙ and_left (count && is_of_negotiation entry.kind) _ is) so

  entry-way : heeds_entry count ack h entry ≡ Ok next → Its (entry_turns count ack h entry)
  entry-way so = by (is_understood entry.kind (length entry.body)) refl so where
    missed : (mandatory : Bool) → (if mandatory then Err (fault_of codes.MandatoryError entry) else fine h) ≡ Ok next → fine h ≡ Ok next
    missed true is = cc is
    missed false is = is

    by : (understood : Bool) → is_understood entry.kind (length entry.body) ≡ understood
        → (if not understood then misunderstood h entry
        else if count && is_of_negotiation entry.kind then heeds_body ack h entry entry.body
        else fine h) ≡ Ok next
        → Its (if not understood then [] else if count && is_of_negotiation entry.kind then body_turns ack h entry entry.body else [])
    by true is so = counting-way is (count && is_of_negotiation entry.kind) refl so
    by false is so = nothing-way (and_right count (speaks_to k entry) (mute-so k entry is)) (missed entry.mandatory so)

-- what the options do that come after one that spoke to the row
record Stays (k : Key) (h end : ReadingState) (turns : List Turn) : Type 0 where
  events : events_of k.0 k.1 turns ≡ []
  confirm : confirm_for k end.confirms ≡ confirm_for k h.confirms
  times : times_confirmed k end.confirms ≡ times_confirmed k h.confirms

passes-on : (k : Key) (h next end : ReadingState) (turns later : List Turn) → Passes k h next turns → Stays k next end later → Stays k h end (turns ++ later)
passes-on k h next end turns later passes stays = record {
  events = events-append k turns later ∙ ap (λ (events : List RowEvent). events ++ events_of k.0 k.1 later) passes.events ∙ stays.events;
  confirm = stays.confirm ∙ passes.confirm;
  times = stays.times ∙ passes.times;
}

-- there is room for the Changes that are left, and each row has its place
record HasRoom (h : ReadingState) (items : List (Result Entry OptFault)) : Type 0 where
  few : h.changes + changes_among items ≤ 64
  size : length h.used ≡ 512

changes-first : (item : Result Entry OptFault) (rest : List (Result Entry OptFault))
    → changes_among (item ∷ rest) ≡ once_if (is_change_item item) + changes_among rest
changes-first item rest = by (is_change_item item) where
  by : (change : Bool) → length (if change then item ∷ filter is_change_item rest else filter is_change_item rest) ≡ once_if change + changes_among rest
  by true = omega arith
  by false = omega arith

room-next : (count : Bool) (ack : Option ℕ) (h next : ReadingState) (entry : Entry) (rest : List (Result Entry OptFault)) → Keeps h next
    → heeds_entry count ack h entry ≡ Ok next → HasRoom h (Ok entry ∷ rest) → HasRoom next rest
room-next count ack h next entry rest keeps step room = record {
  few =
      let more = item-counts count ack h next entry step in
      let all = changes-first (Ok entry) rest in
      let few = room.few in
      omega (arith, more, all, few);
  size = keeps.used ∙ room.size;
}

room-now : (h : ReadingState) (entry : Entry) (rest : List (Result Entry OptFault)) → HasRoom h (Ok entry ∷ rest) → is_change_item (Ok entry) ≡ true → h.changes < 64
room-now h entry rest room is =
    let one : once_if (is_change_item (Ok entry)) ≡ 1 = ap once_if is in
    let all = changes-first (Ok entry) rest in
    let few = room.few in
    omega (arith, one, all, few)

module _ (k : Key) (count : Bool) (ack : Option ℕ) where
  stays-so : (items : List (Result Entry OptFault)) (h end : ReadingState) → is_used k h ≡ true → HasRoom h items → heeds count ack h items ≡ Ok end
      → Stays k h end (heard_turns count ack h items)
  stays-so [] h end used room is =
      let same : h ≡ end = cc is in subst (λ last. Stays k h last []) same (record { events = refl; confirm = refl; times = refl })
  stays-so (Err fault ∷ rest) h end used room is = cc is
  stays-so (Ok entry ∷ rest) h end used room is = by (heeds_entry count ack h entry) refl is (λ next its. stays-so rest next end its) where
    by : (step : Result ReadingState Fault) → heeds_entry count ack h entry ≡ step → heeds_then step (λ next. heeds count ack next rest) ≡ Ok end
        → ((next : ReadingState) → is_used k next ≡ true → HasRoom next rest → heeds count ack next rest ≡ Ok end
        → Stays k next end (heard_turns count ack next rest))
        → Stays k h end (entry_turns count ack h entry ++ turns_then step (λ next. heard_turns count ack next rest))
    by (Err fault) step is later = cc is
    by (Ok next) step is later = way (entry-way k count ack h next entry (room-now h entry rest room) room.size step) where
      passed : Passes k h next (entry_turns count ack h entry) → Stays k h end (entry_turns count ack h entry ++ heard_turns count ack next rest)
      passed passes =
          passes-on k h next end _ _ passes (later next (passes.used ∙ used) (room-next count ack h next entry rest passes.keeps step room) is)

      way : Way k count ack h next entry (entry_turns count ack h entry) → Stays k h end (entry_turns count ack h entry ++ heard_turns count ack next rest)
      way (Passing silent passes) = passed passes
      way (Repeating was passes) = passed passes
      way (Telling unused speaks tells) = absurd (false≢true (sym unused ∙ used))

-- what the row hears of all, and the Confirm that is due for it
pub record Hears (k : Key) (count : Bool) (ack : Option ℕ) (h end : ReadingState) (items : List (Result Entry OptFault)) : Type 0 where
  pub events : events_of k.0 k.1 (heard_turns count ack h items) ≡ said_to count ack k items
  pub confirm : confirm_for k end.confirms ≡ reply_due (row_at h.rows k.0 k.1) (said_to count ack k items)
  pub times : times_confirmed k end.confirms ≤ 1
  pub lives : (event : RowEvent) → said_to count ack k items ≡ event ∷ [] → (code : ℕ) → (row_step (row_at h.rows k.0 k.1) event).answer ≢ Fatal code

-- nothing spoke to the row yet
record IsFresh (k : Key) (h : ReadingState) : Type 0 where
  unused : is_used k h ≡ false
  none : confirm_for k h.confirms ≡ None
  times : times_confirmed k h.confirms ≡ 0

module _ (k : Key) (count : Bool) (ack : Option ℕ) where
  hears-later : (entry : Entry) (rest : List (Result Entry OptFault)) (h next end : ReadingState) → heeds_entry count ack h entry ≡ Ok next
      → (count && speaks_to k entry) ≡ false → Passes k h next (entry_turns count ack h entry) → Hears k count ack next end rest
      → Hears k count ack h end (Ok entry ∷ rest)
  hears-later entry rest h next end step silent passes later =
      let said : said_to count ack k (Ok entry ∷ rest) ≡ said_to count ack k rest =
      cond-false (count && speaks_to k entry) (event_in ack entry ∷ []) (said_to count ack k rest) silent in
      let turns : heard_turns count ack h (Ok entry ∷ rest) ≡ entry_turns count ack h entry ++ heard_turns count ack next rest =
      ap (λ (step : Result ReadingState Fault). entry_turns count ack h entry ++ turns_then step (λ next. heard_turns count ack next rest)) step in
      record {
        events =
            ap (λ (turns : List Turn). events_of k.0 k.1 turns) turns
            ∙ events-append k (entry_turns count ack h entry) (heard_turns count ack next rest)
            ∙ ap (λ (events : List RowEvent). events ++ events_of k.0 k.1 (heard_turns count ack next rest)) passes.events
            ∙ later.events ∙ sym said;
        confirm =
            later.confirm ∙ ap (λ (row : Row). reply_due row (said_to count ack k rest)) passes.row
            ∙ ap (λ (events : List RowEvent). reply_due (row_at h.rows k.0 k.1) events) (sym said);
        times = later.times;
        lives =
            λ event is code fatal.
            later.lives event (sym said ∙ is) code (ap (λ (row : Row). (row_step row event).answer) passes.row ∙ fatal);
      }

  hears-now : (entry : Entry) (rest : List (Result Entry OptFault)) (h next end : ReadingState) → IsFresh k h → heeds_entry count ack h entry ≡ Ok next
      → (count && speaks_to k entry) ≡ true → Tells k h next (event_in ack entry) (entry_turns count ack h entry)
      → Stays k next end (heard_turns count ack next rest) → Hears k count ack h end (Ok entry ∷ rest)
  hears-now entry rest h next end fresh step speaks tells stays =
      let said : said_to count ack k (Ok entry ∷ rest) ≡ event_in ack entry ∷ [] =
      cond-true (count && speaks_to k entry) (event_in ack entry ∷ []) (said_to count ack k rest) speaks in
      let turns : heard_turns count ack h (Ok entry ∷ rest) ≡ entry_turns count ack h entry ++ heard_turns count ack next rest =
      ap (λ (step : Result ReadingState Fault). entry_turns count ack h entry ++ turns_then step (λ next. heard_turns count ack next rest)) step in
      record {
        events =
            ap (λ (turns : List Turn). events_of k.0 k.1 turns) turns
            ∙ events-append k (entry_turns count ack h entry) (heard_turns count ack next rest)
            ∙ ap (λ (events : List RowEvent). events ++ events_of k.0 k.1 (heard_turns count ack next rest)) tells.events
            ∙ ap (λ (events : List RowEvent). event_in ack entry ∷ events) stays.events ∙ sym said;
        confirm =
            stays.confirm ∙ tells.confirm fresh.none
            ∙ ap (λ (events : List RowEvent). reply_due (row_at h.rows k.0 k.1) events) (sym said);
        times = let last = stays.times in let now = tells.times in let first = fresh.times in omega (arith, last, now, first);
        lives =
            λ event is code fatal.
            let same : event_in ack entry ∷ [] ≡ event ∷ [] = sym said ∙ is in
            let its : event_in ack entry ≡ event = cc same in
            tells.lives code (ap (λ (one : RowEvent). (row_step (row_at h.rows k.0 k.1) one).answer) its ∙ fatal);
      }

  hears-so : (items : List (Result Entry OptFault)) (h end : ReadingState) → IsFresh k h → HasRoom h items → heeds count ack h items ≡ Ok end
      → Hears k count ack h end items
  hears-so [] h end fresh room is =
      let same : h ≡ end = cc is in
      subst (λ last. Hears k count ack h last []) same
      (record { events = refl; confirm = fresh.none; times = let none = fresh.times in omega (arith, none); lives = λ event is. cc is })
  hears-so (Err fault ∷ rest) h end fresh room is = cc is
  hears-so (Ok entry ∷ rest) h end fresh room is = by (heeds_entry count ack h entry) refl is (λ next its. hears-so rest next end its) where
    by : (step : Result ReadingState Fault) → heeds_entry count ack h entry ≡ step → heeds_then step (λ next. heeds count ack next rest) ≡ Ok end
        → ((next : ReadingState) → IsFresh k next → HasRoom next rest → heeds count ack next rest ≡ Ok end → Hears k count ack next end rest)
        → Hears k count ack h end (Ok entry ∷ rest)
    by (Err fault) step is later = cc is
    by (Ok next) step is later = way (entry-way k count ack h next entry (room-now h entry rest room) room.size step) where
      still : Passes k h next (entry_turns count ack h entry) → IsFresh k next
      still passes = record { unused = passes.used ∙ fresh.unused; none = passes.confirm ∙ fresh.none; times = passes.times ∙ fresh.times }

      way : Way k count ack h next entry (entry_turns count ack h entry) → Hears k count ack h end (Ok entry ∷ rest)
      way (Passing silent passes) =
          hears-later entry rest h next end step silent passes
          (later next (still passes) (room-next count ack h next entry rest passes.keeps step room) is)
      way (Repeating was passes) = absurd (false≢true (sym fresh.unused ∙ was))
      way (Telling unused speaks tells) =
          hears-now entry rest h next end fresh step speaks tells
          (stays-so k count ack rest next end tells.used (room-next count ack h next entry rest tells.keeps step room) is)

  pub whole-heard : (rows : List Row) (items : List (Result Entry OptFault)) (end : ReadingState) → changes_among items ≤ 64
      → heeds count ack (unheeded rows) items ≡ Ok end → Hears k count ack (unheeded rows) end items
  whole-heard rows items end few is =
      hears-so items (unheeded rows) end
      (record { unused = get_or-replicate 512 (spot k) false false (spot-below k); none = refl; times = refl })
      (record { few = omega arith; size = length-replicate 512 false }) is

-- the laws on packets that are read
pub rows_hear_the_packet : RowsHearThePacket
rows_hear_the_packet = λ count ack rows options h k sound few is.
    let hears = whole-heard k count ack rows options h few is in (hears.events, hears.confirm)

-- for every list of items
pub confirms_are_single : ConfirmsAreSingle
confirms_are_single = λ count ack rows options h k sound few is. (whole-heard k count ack rows options h few is).times
