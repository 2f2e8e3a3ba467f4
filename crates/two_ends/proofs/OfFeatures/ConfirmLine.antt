-- A newest packet's Confirm on a row is one of the moves.
use Rattle.std.proofs.Common.{◌≡◌, ℕ, ◌<◌, ◌≤◌, Bool, true, false, List, [], ◌∷◌, length, refl, sym, arith, true≢false}
use Rattle.std.specs.Prelude.{Option, None, Some, unwrap_or, ◌==◌, ◌&&◌, if◌then◌else◌}
use Rattle.byteorder.specs.Endian.{big_number}
use Rattle.feature_lists.specs.declared.features.Place.TheVariants as place
use Rattle.feature_machine.specs.declared.stands.Stand.{Stand}
use Rattle.feature_machine.specs.declared.stands.Stand.TheVariants.{Stable, Changing, Unstable}
use Rattle.feature_machine.specs.declared.judging.Confirmation.{Confirmation}
use Rattle.feature_machine.specs.declared.judging.Confirmation.TheVariants as c
use Rattle.feature_machine.specs.declared.row.Row.{Row}
use Rattle.feature_machine.specs.Rows.{row_line, Confirmed, is_server_priority, width, entries, reconciled_by, confirmation, timely_confirmation, list_confirmation, agreed_confirmation, number_confirmation, answers_opening, is_number}
use Rattle.feature_machine.specs.Sound.{IsSoundRow}
use Rattle.seq_circle.specs.Circle.{is_before}
use Rattle.two_ends.specs.FeatureView.{FeatureNews, carried_at}
use Rattle.two_ends.specs.FeatureView.FeatureNews.{Confirm}
use Rattle.two_ends.specs.FeatureMoves.{settled_side}
use Rattle.two_ends.specs.FeatureMoves.Move.{Settles}
use Rattle.two_ends.specs.FeatureMoves.Moves.{Done, Next}
use Rattle.seq_circle.specs.Counts.{count_of, IsNumber}
use Rattle.two_ends.specs.FeatureRows.{RowMoves, side_of, entries_of, row_pair, rule_at, confirm_in, confirmed_by, opened_count, is_whole_confirm, is_whole_by, IsBegun, after_confirm}
use Rattle.two_ends.proofs.OfFeatures.FeatureOrder.{not_before}
use Rattle.two_ends.proofs.OfFeatures.RowFacts.{entries-entries_of, rule-reconciled_by, rule-own_value, number_here, number_entries}
use Rattle.two_ends.proofs.OfFeatures.ChangeLine.{confirm_there, passes}

same_numbers : (one other : ℕ) → (one == other) ≡ true → one ≡ other
same_numbers one other same = grind arith

module _ (iss greatest count : ℕ) (row : Row) (there frames : List FeatureNews) (newer : greatest < count) where
  settles : (acknowledged value : ℕ) (wish : List ℕ) → carried_at there count ≡ Confirm acknowledged value wish → row.stand ≡ Changing
      → opened_count iss row.opened ≤ acknowledged
      → value ≡ unwrap_or (rule_at row.role (row_pair row) (entries_of row.active) wish) row.value
      → RowMoves row there (side_of iss row greatest frames) (side_of iss (record row { value = value; stand = Stable }) count frames)
  settles acknowledged value wish carried changing early value_is =
      let before = side_of iss row greatest frames in
      let after = settled_side before count value in
      Next before after after (Settles count acknowledged value wish newer carried changing early value_is) (Done after)

  -- a Confirm that settles the row at this value
  abbrev IsSettling : ℕ → List ℕ → ℕ → Type 0
  IsSettling acknowledged wish value =
      (carried_at there count ≡ Confirm acknowledged value wish)
      × (opened_count iss row.opened ≤ acknowledged)
      × (value ≡ unwrap_or (rule_at row.role (row_pair row) (entries_of row.active) wish) row.value)

  abbrev Confirms : ℕ → List ℕ → Confirmation → Type 0
  Confirms acknowledged wish c.Late = Unit {0}
  Confirms acknowledged wish c.Empty = ⊥
  Confirms acknowledged wish (c.Shared value) = IsSettling acknowledged wish value
  Confirms acknowledged wish c.Held = IsSettling acknowledged wish row.value
  Confirms acknowledged wish (c.Alone value) = ⊥
  Confirms acknowledged wish (c.Told value) = IsSettling acknowledged wish value
  Confirms acknowledged wish c.Wrong = Unit {0}

  module _ (acknowledged : ℕ) (wish : List ℕ) (sent_there : count ≤ length there) where
    ignores : RowMoves row there (side_of iss row greatest frames) (side_of iss row count frames)
    ignores = passes iss greatest count row there frames newer sent_there

    settles_at : (value : ℕ) → row.stand ≡ Changing → IsSettling acknowledged wish value
        → RowMoves row there (side_of iss row greatest frames) (side_of iss (record row { value = value; stand = Stable }) count frames)
    settles_at value changing is = settles acknowledged value wish is.0 changing is.1 is.2

    confirm_line : (stand : Stand) → row.stand ≡ stand → (confirms : Confirmation) → Confirms acknowledged wish confirms
        → RowMoves row there (side_of iss row greatest frames) (side_of iss (row_line row stand (Confirmed confirms)).row count frames)
    confirm_line Stable stands confirms is = ignores
    confirm_line Unstable stands confirms is = ignores
    confirm_line Changing stands c.Empty is = absurd is
    confirm_line Changing stands (c.Shared value) is = settles_at value stands is
    confirm_line Changing stands c.Held is = settles_at row.value stands is
    confirm_line Changing stands (c.Alone value) is = absurd is
    confirm_line Changing stands (c.Told value) is = settles_at value stands is
    confirm_line Changing stands _ is = ignores

  -- a Confirm that is not from before the last opening acknowledges it, or a later frame
  early_enough : (ack : ℕ) → IsBegun iss row → IsNumber iss ack → answers_opening row.opened (Some ack) ≡ true
      → opened_count iss row.opened ≤ count_of iss ack
  early_enough ack begun is answers = by_opened row.opened begun.early answers
    where
      by_opened : (opened : Option ℕ) → ((number : ℕ) → opened ≡ Some number → IsNumber iss number)
          → answers_opening opened (Some ack) ≡ true → opened_count iss opened ≤ count_of iss ack
      by_opened None numbers answered = absurd (true≢false (sym answered))
      by_opened (Some number) numbers answered =
          let later : is_before ack number ≡ false = grind arith in
          not_before iss ack number is (numbers number refl) later

  -- what a Confirm with a list says
  list_confirms : IsSoundRow row → is_server_priority row ≡ true → (acknowledged value first : ℕ) (rest : List ℕ)
      → carried_at there count ≡ Confirm acknowledged value (first ∷ rest) → opened_count iss row.opened ≤ acknowledged
      → Confirms acknowledged (first ∷ rest) (list_confirmation row value (first ∷ rest))
  list_confirms sound priority acknowledged value first rest carried early =
      by_found (reconciled_by row.role (entries row.active) (first ∷ rest)) refl
    where
      agreed : rule_at row.role (row_pair row) (entries_of row.active) (first ∷ rest)
          ≡ reconciled_by row.role (entries row.active) (first ∷ rest)
      agreed = rw (entries-entries_of row sound priority) (rule-reconciled_by row (entries_of row.active) (first ∷ rest) priority)

      by_shared : (shared : ℕ) → reconciled_by row.role (entries row.active) (first ∷ rest) ≡ Some shared → (same : Bool)
          → (shared == value) ≡ same → Confirms acknowledged (first ∷ rest) (if same then c.Shared value else c.Wrong)
      by_shared shared is true same = (carried, early, rw (agreed, is) (sym (same_numbers shared value same)))
      by_shared shared is false same = tt

      by_held : reconciled_by row.role (entries row.active) (first ∷ rest) ≡ None → (same : Bool) → (value == row.value) ≡ same
          → Confirms acknowledged (first ∷ rest) (if same then c.Held else c.Wrong)
      by_held is true same = (rw (← (same_numbers value row.value same)) carried, early, rw (agreed, is))
      by_held is false same = tt

      by_found : (found : Option ℕ) → reconciled_by row.role (entries row.active) (first ∷ rest) ≡ found
          → Confirms acknowledged (first ∷ rest) (agreed_confirmation row value found)
      by_found (Some shared) is = by_shared shared is (shared == value) refl
      by_found None is = by_held is (value == row.value) refl

  -- what a Confirm with a number says
  number_confirms : IsSoundRow row → is_server_priority row ≡ false → (acknowledged : ℕ) (body : List ℕ)
      → carried_at there count ≡ Confirm acknowledged (big_number (width row) body) [] → opened_count iss row.opened ≤ acknowledged
      → Confirms acknowledged [] (number_confirmation row body)
  number_confirms sound priority acknowledged body carried early =
      by_number (length body == width row && is_number row.active (big_number (width row) body)) refl
    where
      by_number : (told : Bool) → (length body == width row && is_number row.active (big_number (width row) body)) ≡ told
          → Confirms acknowledged [] (if told then c.Told (big_number (width row) body) else c.Wrong)
      by_number true told =
          let number : is_number row.active (big_number (width row) body) ≡ true = grind arith in
          let here : row.place ≡ place.Here = number_here row (big_number (width row) body) sound priority number in
          let own : entries_of row.active ≡ big_number (width row) body ∷ [] = number_entries row (big_number (width row) body) number in
          (carried, early, rw (rule-own_value row (entries_of row.active) [] priority here, own))
      by_number false told = tt

  -- what a whole Confirm says that comes in time
  timely_confirms : IsSoundRow row → (acknowledged : ℕ) (body : List ℕ) → carried_at there count ≡ confirm_in row.feature acknowledged body
      → is_whole_confirm row.feature body ≡ true → opened_count iss row.opened ≤ acknowledged
      → (wish : List ℕ) × Confirms acknowledged wish (timely_confirmation row body)
  timely_confirms sound acknowledged body carried whole early = by_rule (is_server_priority row) refl body carried whole
    where
      by_rule : (priority : Bool) → is_server_priority row ≡ priority → (bytes : List ℕ)
          → carried_at there count ≡ confirmed_by priority (width row) acknowledged bytes → is_whole_by priority bytes ≡ true
          → (wish : List ℕ) × Confirms acknowledged wish (timely_confirmation row bytes)
      by_rule true is (value ∷ (first ∷ rest)) carries has =
          (first ∷ rest, rw is (list_confirms sound is acknowledged value first rest carries early))
      by_rule false is [] carries has = absurd (true≢false (sym has))
      by_rule false is (byte ∷ bytes) carries has = ([], rw is (number_confirms sound is acknowledged (byte ∷ bytes) carries early))
      by_rule true is _ carries has = absurd (true≢false (sym has))

  confirms : IsSoundRow row → IsBegun iss row → (body : List ℕ) (ack : ℕ) → IsNumber iss ack
      → carried_at there count ≡ confirm_in row.feature (count_of iss ack) body → is_whole_confirm row.feature body ≡ true
      → (wish : List ℕ) × Confirms (count_of iss ack) wish (confirmation row body (Some ack))
  confirms sound begun body ack is carried whole = by_time (answers_opening row.opened (Some ack)) refl
    where
      by_time : (answers : Bool) → answers_opening row.opened (Some ack) ≡ answers
          → (wish : List ℕ) × Confirms (count_of iss ack) wish (if answers then timely_confirmation row body else c.Late)
      by_time true answers = timely_confirms sound (count_of iss ack) body carried whole (early_enough ack begun is answers)
      by_time false answers = ([], tt)

  pub confirm_moves : (body : List ℕ) (ack : ℕ) → IsSoundRow row → IsBegun iss row → IsNumber iss ack
      → carried_at there count ≡ confirm_in row.feature (count_of iss ack) body → is_whole_confirm row.feature body ≡ true
      → RowMoves row there (side_of iss row greatest frames) (after_confirm iss row count frames body ack)
  confirm_moves body ack sound begun is carried whole =
      let said = confirms sound begun body ack is carried whole in
      confirm_line (count_of iss ack) said.0 (confirm_there there count row.feature (count_of iss ack) body carried) row.stand refl
      (confirmation row body (Some ack)) said.1
