-- What a row makes of what the other end says, by its stand alone.
use Rattle.std.proofs.Common.{subst, length, ◌==◌, ◌&&◌, ◌≡◌, ◌≢◌, ◌⊎◌, inl, inr, refl, sym, ◌∙◌, ℕ, List, [], ◌∷◌, Bool, true, false, if◌then◌else◌, Option, Some, None}
use Rattle.std.proofs.lemmas.Bool.{cond-true}
use Rattle.byteorder.specs.Endian.{big_number}
use Rattle.feature_lists.specs.Features.{described}
use Rattle.feature_machine.specs.Rows.{Sending, agreed_confirmation, entries, is_acceptable, is_number, is_server_priority, list_confirmation, number_confirmation, reconciled_by, says, settled, width, RowAnswer, RowStep, Change, Confirm, Sends, Fatal, Proposed, Confirmed, confirmation, answers_opening, proposal, row_line, row_step, timely_confirmation}
use Rattle.feature_machine.specs.Turns.{confirm_of}
use Rattle.feature_machine.specs.declared.judging.Confirmation.{Confirmation}
use Rattle.feature_machine.specs.declared.judging.Confirmation.TheVariants as c
use Rattle.feature_machine.specs.declared.judging.Proposal.{Proposal}
use Rattle.feature_machine.specs.declared.judging.Proposal.TheVariants as p
use Rattle.feature_machine.specs.declared.row.Row.{Row}
use Rattle.feature_machine.specs.declared.stands.Stand.{Stand}
use Rattle.feature_machine.specs.declared.stands.Stand.TheVariants as stand

-- the answer ends the connection
pub data IsFatal (answer : RowAnswer) : Type 0 where
  Ends : (code : ℕ) → answer ≡ Fatal code → IsFatal answer

-- a Change moves no stand
pub change-stays : (row : Row) (body : List ℕ) (mandatory : Bool) → (row_step row (Change body mandatory)).row.stand ≡ row.stand
change-stays row body mandatory = by row.stand (proposal row body) mandatory refl where
  by : (s : Stand) (k : Proposal) (m : Bool) → row.stand ≡ s → (row_line row s (Proposed k m)).row.stand ≡ row.stand
  by stand.Stable p.Invalid false is = refl
  by stand.Stable p.Invalid true is = refl
  by stand.Stable (p.Shared value) m is = refl
  by stand.Stable p.Unshared false is = refl
  by stand.Stable p.Unshared true is = refl
  by stand.Stable (p.Told value) m is = refl
  by stand.Changing p.Invalid false is = refl
  by stand.Changing p.Invalid true is = refl
  by stand.Changing (p.Shared value) m is = refl
  by stand.Changing p.Unshared false is = refl
  by stand.Changing p.Unshared true is = refl
  by stand.Changing (p.Told value) m is = refl
  by stand.Unstable p.Invalid false is = refl
  by stand.Unstable p.Invalid true is = refl
  by stand.Unstable (p.Shared value) m is = refl
  by stand.Unstable _ m is = refl

-- A row that is not UNSTABLE answers each Change by a Confirm, or ends the connection.
pub change-answered : (row : Row) (body : List ℕ) (mandatory : Bool) → row.stand ≢ stand.Unstable
    → IsFatal (row_step row (Change body mandatory)).answer ⊎ ((some : List ℕ) × (confirm_of (row_step row (Change body mandatory)).answer ≡ Some some))
change-answered row body mandatory settled = by row.stand (proposal row body) mandatory refl where
  by : (s : Stand) (k : Proposal) (m : Bool) → row.stand ≡ s
      → IsFatal (row_line row s (Proposed k m)).answer ⊎ ((some : List ℕ) × (confirm_of (row_line row s (Proposed k m)).answer ≡ Some some))
  by stand.Stable p.Invalid false is = inr (_, refl)
  by stand.Stable p.Invalid true is = inl (Ends 6 refl)
  by stand.Stable (p.Shared value) m is = inr (_, refl)
  by stand.Stable p.Unshared false is = inr (_, refl)
  by stand.Stable p.Unshared true is = inl (Ends 6 refl)
  by stand.Stable (p.Told value) m is = inr (_, refl)
  by stand.Changing p.Invalid false is = inr (_, refl)
  by stand.Changing p.Invalid true is = inl (Ends 6 refl)
  by stand.Changing (p.Shared value) m is = inr (_, refl)
  by stand.Changing p.Unshared false is = inr (_, refl)
  by stand.Changing p.Unshared true is = inl (Ends 6 refl)
  by stand.Changing (p.Told value) m is = inr (_, refl)
  by stand.Unstable k m is = absurd (settled is)

-- What is timely is not late.
choice : (b : Bool) (x y : Confirmation) → x ≢ c.Late → y ≢ c.Late → (if b then x else y) ≢ c.Late
choice true x y first second = first
choice false x y first second = second

agreed-timely : (row : Row) (value : ℕ) (agreed : Option ℕ) → agreed_confirmation row value agreed ≢ c.Late
agreed-timely row value (Some agreed) = choice (agreed == value) (c.Shared value) c.Wrong (λ is. cc is) (λ is. cc is)
agreed-timely row value None = choice (value == row.value) c.Held c.Wrong (λ is. cc is) (λ is. cc is)

list-timely : (row : Row) (value : ℕ) (list : List ℕ) → list_confirmation row value list ≢ c.Late
list-timely row value [] = choice (is_acceptable row value) (c.Alone value) c.Wrong (λ is. cc is) (λ is. cc is)
list-timely row value (first ∷ rest) = agreed-timely row value (reconciled_by row.role (entries row.active) (first ∷ rest))

timely : (row : Row) (body : List ℕ) → timely_confirmation row body ≢ c.Late
timely row [] = λ is. cc is
timely row (value ∷ rest) =
    choice (is_server_priority row) (list_confirmation row value rest) (number_confirmation row (value ∷ rest)) (list-timely row value rest)
    (choice (length (value ∷ rest) == width row && is_number row.active (big_number (width row) (value ∷ rest)))
    (c.Told (big_number (width row) (value ∷ rest))) c.Wrong (λ is. cc is) (λ is. cc is))

-- A Confirm that answers the opening of a row in CHANGING makes it STABLE, or ends the connection.
pub confirm-settles : (row : Row) (body : List ℕ) (ack : Option ℕ) → row.stand ≡ stand.Changing → answers_opening row.opened ack ≡ true
    → IsFatal (row_step row (Confirm body ack)).answer ⊎ ((row_step row (Confirm body ack)).row.stand ≡ stand.Stable)
confirm-settles row body ack changing answers =
    subst (λ (s : Stand). Ends-or (row_line row s (Confirmed (confirmation row body ack)))) (sym changing)
    (line (confirmation row body ack) (λ late. timely row body (sym (cond-true (answers_opening row.opened ack) (timely_confirmation row body) c.Late answers) ∙ late)))
  where
    Ends-or : RowStep → Type 0
    Ends-or step = IsFatal step.answer ⊎ (step.row.stand ≡ stand.Stable)

    empty : (required : Bool) → IsFatal (if required then says row (Fatal 5) else settled row row.value).answer
        ⊎ ((if required then says row (Fatal 5) else settled row row.value).row.stand ≡ stand.Stable)
    empty true = inl (Ends 5 refl)
    empty false = inr refl

    line : (k : Confirmation) → k ≢ c.Late → IsFatal (row_line row stand.Changing (Confirmed k)).answer
        ⊎ ((row_line row stand.Changing (Confirmed k)).row.stand ≡ stand.Stable)
    line c.Late late = absurd (late refl)
    line c.Empty late = empty (described row.feature).is_required
    line c.Wrong late = inl (Ends 5 refl)
    line _ late = inr refl

-- Once its Change went out under a number, a row that asked is in CHANGING; one that was UNSTABLE or had no number has this.
pub sent-opened : (row : Row) (number : ℕ) → row.stand ≢ stand.Stable
    → ((row_step row (Sends number)).row.opened ≡ Some number) ⊎ ((row.stand ≡ stand.Changing) × ((row_step row (Sends number)).row.opened ≡ row.opened))
sent-opened row number asks = by row.stand row.opened refl refl where
  by : (s : Stand) (opened : Option ℕ) → row.stand ≡ s → row.opened ≡ opened
      → ((row_line row s (Sending number opened)).row.opened ≡ Some number) ⊎ ((s ≡ stand.Changing) × ((row_line row s (Sending number opened)).row.opened ≡ row.opened))
  by stand.Stable opened is was = absurd (asks is)
  by stand.Changing None is was = inl refl
  by stand.Changing (Some o) is was = inr (refl, refl)
  by stand.Unstable opened is was = inl refl
