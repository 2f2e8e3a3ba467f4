-- A newest packet's Change on a row is one of the moves.
use Rattle.std.proofs.Common.{◌≡◌, ℕ, ◌<◌, ◌≤◌, Bool, true, false, List, [], ◌∷◌, length, refl, arith}
use Rattle.std.specs.Prelude.{Option, None, Some, unwrap_or, if◌then◌else◌}
use Rattle.byteorder.specs.Endian.{big_number}
use Rattle.feature_lists.specs.declared.features.Feature.{Feature}
use Rattle.feature_machine.specs.declared.stands.Stand.{Stand}
use Rattle.feature_machine.specs.declared.stands.Stand.TheVariants.{Stable, Changing, Unstable}
use Rattle.feature_machine.specs.declared.judging.Proposal.{Proposal}
use Rattle.feature_machine.specs.declared.judging.Proposal.TheVariants as p
use Rattle.feature_machine.specs.declared.row.Row.{Row}
use Rattle.feature_machine.specs.Rows.{row_line, Proposed, is_server_priority, width, entries, reconciled_by, confirm_body, holding, proposal, shared_or_not, list_proposal, tells_value}
use Rattle.feature_machine.specs.Sound.{IsSoundRow}
use Rattle.two_ends.specs.FeatureView.{FeatureNews, carried_at, with_frame}
use Rattle.two_ends.specs.FeatureView.FeatureNews.{Change, Confirm}
use Rattle.two_ends.specs.FeatureMoves.{answering_side}
use Rattle.two_ends.specs.FeatureMoves.Move.{Passes, Answers}
use Rattle.two_ends.specs.FeatureMoves.Moves.{Done, Next}
use Rattle.two_ends.specs.FeatureRows.{RowMoves, side_of, entries_of, row_pair, rule_at, change_in, proposed_by, confirm_in, with_answer, after_change}
use Rattle.two_ends.proofs.OfFeatures.FeatureFrames.{frame_in}
use Rattle.two_ends.proofs.OfFeatures.RowFacts.{entries-entries_of, rule-reconciled_by, rule-remote_value, list_said, IsTold, told, told_said}

pub change_in_range : (there : List FeatureNews) (count : ℕ) (wish : List ℕ) → carried_at there count ≡ Change wish → count ≤ length there
change_in_range there count wish carried = grind (arith, frame_in)

pub confirm_there : (there : List FeatureNews) (count : ℕ) (feature : Feature) (acknowledged : ℕ) (body : List ℕ)
    → carried_at there count ≡ confirm_in feature acknowledged body → count ≤ length there
confirm_there there count feature acknowledged body carried = grind (arith, frame_in)

-- what a side may do by one move, at the row's own rule
module _ (iss greatest count : ℕ) (row : Row) (there frames : List FeatureNews) (newer : greatest < count) where
  pub passes : count ≤ length there → RowMoves row there (side_of iss row greatest frames) (side_of iss row count frames)
  passes sent_there =
      let before = side_of iss row greatest frames in let after = side_of iss row count frames in
      Next before after after (Passes count newer sent_there) (Done after)

  answers : (wish : List ℕ) (value : ℕ) (reply : FeatureNews) → carried_at there count ≡ Change wish
      → value ≡ unwrap_or (rule_at row.role (row_pair row) (entries_of row.active) wish) row.value
      → reply ≡ Confirm count value (entries_of row.active)
      → RowMoves row there (side_of iss row greatest frames) (side_of iss (holding row value) count (with_frame frames reply))
  answers wish value reply carried value_is reply_is = rw (reply_is, value_is)
      (let before = side_of iss row greatest frames in
      let after = answering_side before count (unwrap_or (rule_at row.role (row_pair row) (entries_of row.active) wish) row.value) in
      Next before after after (Answers count wish newer carried) (Done after))

  -- a Confirm of this value answers the wish
  abbrev IsAnswer : List ℕ → ℕ → Type 0
  IsAnswer wish value =
      (value ≡ unwrap_or (rule_at row.role (row_pair row) (entries_of row.active) wish) row.value)
      × (confirm_in row.feature count (confirm_body (holding row value)) ≡ Confirm count value (entries_of row.active))

  abbrev Proposes : List ℕ → Proposal → Type 0
  Proposes wish p.Invalid = ⊥
  Proposes wish (p.Shared value) = IsAnswer wish value
  Proposes wish p.Unshared = IsAnswer wish row.value
  Proposes wish (p.Told value) = IsAnswer wish value

  module _ (wish : List ℕ) (carried : carried_at there count ≡ Change wish) where
    confirms : (value : ℕ) → IsAnswer wish value
        → RowMoves row there (side_of iss row greatest frames)
        (side_of iss (holding row value) count (with_frame frames (confirm_in row.feature count (confirm_body (holding row value)))))
    confirms value is = answers wish value (confirm_in row.feature count (confirm_body (holding row value))) carried is.0 is.1

    ignores : RowMoves row there (side_of iss row greatest frames) (side_of iss row count frames)
    ignores = passes (change_in_range there count wish carried)

    change_line : (stand : Stand) (proposed : Proposal) (mandatory : Bool) → Proposes wish proposed
        → RowMoves row there (side_of iss row greatest frames)
        (side_of iss (row_line row stand (Proposed proposed mandatory)).row count
        (with_answer row.feature count (row_line row stand (Proposed proposed mandatory)).answer frames))
    change_line stand p.Invalid mandatory is = absurd is
    change_line Unstable (p.Shared value) mandatory is = ignores
    change_line Unstable p.Unshared mandatory is = ignores
    change_line Unstable (p.Told value) mandatory is = ignores
    change_line Stable (p.Shared value) mandatory is = confirms value is
    change_line Stable p.Unshared false is = confirms row.value is
    change_line Stable p.Unshared true is = ignores
    change_line Stable (p.Told value) mandatory is = confirms value is
    change_line Changing (p.Shared value) mandatory is = confirms value is
    change_line Changing p.Unshared false is = confirms row.value is
    change_line Changing p.Unshared true is = ignores
    change_line Changing (p.Told value) mandatory is = confirms value is

  -- what a valid list proposes
  list_proposes : IsSoundRow row → is_server_priority row ≡ true → (body : List ℕ) → (list_proposal row body ≡ p.Invalid → ⊥)
      → Proposes body (list_proposal row body)
  list_proposes sound priority [] valid = absurd (valid refl)
  list_proposes sound priority (value ∷ rest) valid =
      by_found (reconciled_by row.role (entries row.active) (value ∷ rest)) refl
    where
      agreed : rule_at row.role (row_pair row) (entries_of row.active) (value ∷ rest)
          ≡ reconciled_by row.role (entries row.active) (value ∷ rest)
      agreed = rw (entries-entries_of row sound priority) (rule-reconciled_by row (entries_of row.active) (value ∷ rest) priority)

      by_found : (found : Option ℕ) → reconciled_by row.role (entries row.active) (value ∷ rest) ≡ found
          → Proposes (value ∷ rest) (shared_or_not found)
      by_found None is = (rw (agreed, is), list_said row count row.value sound priority)
      by_found (Some shared) is = (rw (agreed, is), list_said row count shared sound priority)

  -- what a value that is told proposes
  told_proposes : IsSoundRow row → is_server_priority row ≡ false → (body : List ℕ) → tells_value row body ≡ true
      → Proposes (big_number (width row) body ∷ []) (p.Told (big_number (width row) body))
  told_proposes sound priority body tells =
      let is : IsTold row body = told row body priority tells in (
        rw (rule-remote_value row (entries_of row.active) (big_number (width row) body ∷ []) priority is.remote),
        told_said row count (big_number (width row) body) sound priority is.remote is.fits,
      )

  proposes : IsSoundRow row → (body : List ℕ) → (proposal row body ≡ p.Invalid → ⊥)
      → Proposes (proposed_by (is_server_priority row) (width row) body) (proposal row body)
  proposes sound body valid = by_rule (is_server_priority row) refl valid
    where
      by_told : (tells : Bool) → tells_value row body ≡ tells → is_server_priority row ≡ false
          → ((if tells then p.Told (big_number (width row) body) else p.Invalid) ≡ p.Invalid → ⊥)
          → Proposes (big_number (width row) body ∷ []) (if tells then p.Told (big_number (width row) body) else p.Invalid)
      by_told true is priority valid = told_proposes sound priority body is
      by_told false is priority valid = absurd (valid refl)

      by_rule : (priority : Bool) → is_server_priority row ≡ priority
          → ((if priority then list_proposal row body else if tells_value row body then p.Told (big_number (width row) body) else p.Invalid) ≡ p.Invalid → ⊥)
          → Proposes (proposed_by priority (width row) body)
          (if priority then list_proposal row body else if tells_value row body then p.Told (big_number (width row) body) else p.Invalid)
      by_rule true is valid = list_proposes sound is body valid
      by_rule false is valid = by_told (tells_value row body) refl is valid

  pub change_moves : (body : List ℕ) (mandatory : Bool) → IsSoundRow row → carried_at there count ≡ change_in row.feature body
      → (proposal row body ≡ p.Invalid → ⊥)
      → RowMoves row there (side_of iss row greatest frames) (after_change iss row count frames body mandatory)
  change_moves body mandatory sound carried valid =
      change_line (proposed_by (is_server_priority row) (width row) body) carried row.stand (proposal row body) mandatory
      (proposes sound body valid)
