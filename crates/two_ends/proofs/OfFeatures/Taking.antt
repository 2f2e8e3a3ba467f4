-- A newest packet and the frame of the same step, as moves of a row.
use Rattle.std.proofs.Common.{◌≡◌, ℕ, ◌^◌, ◌<◌, Bool, List, [], ◌∷◌, length, refl, sym, subst, arith}
use Rattle.std.specs.Prelude.{Option, None, Some}
use Rattle.feature_lists.specs.declared.features.Feature.{Feature}
use Rattle.feature_machine.specs.declared.stands.Stand.{Stand}
use Rattle.feature_machine.specs.declared.stands.Stand.TheVariants.{Stable}
use Rattle.feature_machine.specs.declared.judging.Confirmation.{Confirmation}
use Rattle.feature_machine.specs.declared.row.Row.{Row}
use Rattle.feature_machine.specs.Rows as machine
use Rattle.feature_machine.specs.Rows.{RowEvent, RowAnswer, Confirms, Ignored, Settled, Fatal, Opens, Waits, Quiet, Confirmed, Offers, row_line, row_step, confirmation}
use Rattle.feature_machine.specs.Sound.{IsSoundRow, IsSameRow}
use Rattle.feature_machine.specs.Turns.{row_turned, confirm_of, reply_due}
use Rattle.feature_machine.proofs.Soundness.{step_sound}
use Rattle.feature_machine.proofs.Steps.{step_same}
use Rattle.two_ends.specs.FeatureView.{FeatureNews, FeatureSide, with_frame}
use Rattle.two_ends.specs.FeatureView.FeatureNews.{Nothing}
use Rattle.two_ends.specs.FeaturePackets.{IsHeardOf, carried_reply, with_reply}
use Rattle.two_ends.specs.FeatureRows.{RowMoves, IsBegun, side_of, row_pair, rule_at, opens_at, with_answer, after_sending}
use Rattle.two_ends.proofs.OfFeatures.Beginning.{change_begun, confirm_begun}
use Rattle.two_ends.proofs.OfFeatures.ByFeature.{same_moves}
use Rattle.two_ends.proofs.OfFeatures.ChangeLine.{change_moves, passes}
use Rattle.two_ends.proofs.OfFeatures.ConfirmLine.{confirm_moves}
use Rattle.two_ends.proofs.OfFeatures.OpeningLines.{plain_moves, send_moves, offer_moves}
use Rattle.two_ends.proofs.OfFeatures.FeatureReaching.{joined}
use Rattle.two_ends.proofs.OfFeatures.Saying.{change_understood}

-- what the row hears of a packet keeps it
pub heard_same : (iss count : ℕ) (row : Row) (there : List FeatureNews) (events : List RowEvent) → IsHeardOf iss row there count events
    → IsSameRow row (row_turned row events)
heard_same iss count row there [] heard = record { role = refl; feature = refl; place = refl }
heard_same iss count row there (event ∷ []) heard = step_same row event
heard_same iss count row there (first ∷ (second ∷ rest)) heard = absurd heard

pub heard_sound : (iss count : ℕ) (row : Row) (there : List FeatureNews) (events : List RowEvent) → IsHeardOf iss row there count events
    → IsSoundRow row → IsSoundRow (row_turned row events)
heard_sound iss count row there [] heard sound = sound
heard_sound iss count row there (machine.Change body mandatory ∷ []) heard sound = step_sound row (machine.Change body mandatory) sound tt
heard_sound iss count row there (machine.Confirm body (Some ack) ∷ []) heard sound =
    step_sound row (machine.Confirm body (Some ack)) sound tt
heard_sound iss count row there (_ ∷ []) heard sound = absurd heard
heard_sound iss count row there (first ∷ (second ∷ rest)) heard sound = absurd heard

pub heard_begun : (iss count : ℕ) (row : Row) (there : List FeatureNews) (events : List RowEvent) → IsHeardOf iss row there count events
    → IsBegun iss row → IsBegun iss (row_turned row events)
heard_begun iss count row there [] heard begun = begun
heard_begun iss count row there (machine.Change body mandatory ∷ []) heard begun = change_begun iss row body mandatory begun
heard_begun iss count row there (machine.Confirm body (Some ack) ∷ []) heard begun = confirm_begun iss row body (Some ack) begun
heard_begun iss count row there (_ ∷ []) heard begun = absurd heard
heard_begun iss count row there (first ∷ (second ∷ rest)) heard begun = absurd heard

-- an answer's frames are those with the Confirm that it is
answer_frames : (feature : Feature) (count : ℕ) (answer : RowAnswer) (frames : List FeatureNews)
    → with_answer feature count answer frames ≡ with_reply feature count (confirm_of answer) frames
answer_frames feature count (Confirms body) frames = refl
answer_frames feature count _ frames = refl

-- a Confirm is never answered by one
confirm_quiet : (row : Row) (stand : Stand) (confirms : Confirmation) → confirm_of (row_line row stand (Confirmed confirms)).answer ≡ None
confirm_quiet row stand confirms = grind arith

module _ (iss greatest count : ℕ) (row : Row) (there frames : List FeatureNews) (newer : greatest < count) (sound : IsSoundRow row)
    (begun : IsBegun iss row) where
  -- the packet, with the Confirm that is due
  heard_moves : (events : List RowEvent) → IsHeardOf iss row there count events
      → RowMoves row there (side_of iss row greatest frames)
      (side_of iss (row_turned row events) count (with_reply row.feature count (reply_due row events) frames))
  heard_moves [] heard = passes iss greatest count row there frames newer heard
  heard_moves (machine.Change body mandatory ∷ []) heard =
      let after = (row_step row (machine.Change body mandatory)).row in
      let answer = (row_step row (machine.Change body mandatory)).answer in
      subst (λ sent. RowMoves row there (side_of iss row greatest frames) (side_of iss after count sent)) (answer_frames row.feature count answer frames)
      (change_moves iss greatest count row there frames newer body mandatory sound heard.0 ((change_understood row body).0 heard.1))
  heard_moves (machine.Confirm body (Some ack) ∷ []) heard =
      let after = (row_step row (machine.Confirm body (Some ack))).row in
      subst (λ reply. RowMoves row there (side_of iss row greatest frames) (side_of iss after count (with_reply row.feature count reply frames)))
      (sym (confirm_quiet row row.stand (confirmation row body (Some ack))))
      (confirm_moves iss greatest count row there frames newer body ack sound begun heard.0 heard.1 heard.2)
  heard_moves (_ ∷ []) heard = absurd heard
  heard_moves (first ∷ (second ∷ rest)) heard = absurd heard

  module _ (events : List RowEvent) (heard : IsHeardOf iss row there count events) where
    -- the packet alone
    pub silent : reply_due row events ≡ None
        → RowMoves row there (side_of iss row greatest frames) (side_of iss (row_turned row events) count frames)
    silent none =
        subst (λ reply. RowMoves row there (side_of iss row greatest frames)
        (side_of iss (row_turned row events) count (with_reply row.feature count reply frames))) none (heard_moves events heard)

    -- then what the row after it does
    then_does : (after : FeatureSide) → reply_due row events ≡ None
        → RowMoves (row_turned row events) there (side_of iss (row_turned row events) count frames) after
        → RowMoves row there (side_of iss row greatest frames) after
    then_does after none moves =
        joined (rule_at row.role (row_pair row)) (opens_at row.role (row_pair row)) there (side_of iss row greatest frames)
        (side_of iss (row_turned row events) count frames) after (silent none)
        (same_moves row (row_turned row events) there (side_of iss (row_turned row events) count frames) after
        (heard_same iss count row there events heard) moves)

    pub replied : RowMoves row there (side_of iss row greatest frames)
        (side_of iss (row_turned row events) count (with_frame frames (carried_reply row.feature count (reply_due row events))))
    replied = by_reply (reply_due row events) refl
      where
        by_reply : (reply : Option (List ℕ)) → reply_due row events ≡ reply
            → RowMoves row there (side_of iss row greatest frames)
            (side_of iss (row_turned row events) count (with_frame frames (carried_reply row.feature count reply)))
        by_reply None none =
            then_does (side_of iss (row_turned row events) count (with_frame frames Nothing)) none
            (plain_moves iss count (row_turned row events) there frames)
        by_reply (Some body) due =
            subst (λ reply. RowMoves row there (side_of iss row greatest frames)
            (side_of iss (row_turned row events) count (with_reply row.feature count reply frames))) due (heard_moves events heard)

    pub asks : iss < 2 ^ 48 → length frames < 2 ^ 47 → reply_due row events ≡ None → ((row_turned row events).stand ≡ Stable → ⊥)
        → RowMoves row there (side_of iss row greatest frames) (after_sending iss (row_turned row events) count frames)
    asks fits few none busy =
        then_does (after_sending iss (row_turned row events) count frames) none
        (send_moves iss count (row_turned row events) there frames fits few (heard_sound iss count row there events heard sound)
        (heard_begun iss count row there events heard begun) busy)

    pub offers : (confirmed : Bool) → iss < 2 ^ 48 → length frames < 2 ^ 47 → reply_due row events ≡ None
        → (row_step (row_turned row events) (Offers confirmed)).answer ≡ Opens
        → RowMoves row there (side_of iss row greatest frames)
        (after_sending iss (row_step (row_turned row events) (Offers confirmed)).row count frames)
    offers confirmed fits few none opens =
        then_does (after_sending iss (row_step (row_turned row events) (Offers confirmed)).row count frames) none
        (offer_moves iss count (row_turned row events) there frames fits few (heard_sound iss count row there events heard sound) confirmed opens)
