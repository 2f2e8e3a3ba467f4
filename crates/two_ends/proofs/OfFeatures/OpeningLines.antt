-- What a row sends by itself is one of the moves: its first Change, its Change again, and what waits.
use Rattle.std.proofs.Common.{◌≡◌, ℕ, ◌+◌, ◌^◌, ◌<◌, Bool, true, false, List, length, refl, arith}
use Rattle.std.specs.Prelude.{Option, None, Some}
use Rattle.feature_lists.specs.declared.wishes.Wanted.{Wanted}
use Rattle.feature_lists.specs.Wishes.{is_wish}
use Rattle.feature_machine.specs.declared.stands.Stand.{Stand}
use Rattle.feature_machine.specs.declared.stands.Stand.TheVariants.{Stable, Changing, Unstable}
use Rattle.feature_machine.specs.declared.offers.Offer.{Offer}
use Rattle.feature_machine.specs.declared.offers.Offer.TheVariants as offer
use Rattle.feature_machine.specs.declared.row.Row.{Row}
use Rattle.feature_machine.specs.Rows as machine
use Rattle.feature_machine.specs.Rows.{row_step, row_line, Preferred, Offered, Sending, Prefers, Offers, sent_anew}
use Rattle.feature_machine.specs.Sound.{IsSoundRow}
use Rattle.two_ends.specs.FeatureView.{FeatureNews, with_frame}
use Rattle.two_ends.specs.FeatureView.FeatureNews.{Nothing, Change}
use Rattle.two_ends.specs.FeatureMoves.{waiting, opening, sending_side}
use Rattle.two_ends.specs.FeatureMoves.Move.{Waits, Opens, Sends, Sends_again}
use Rattle.two_ends.specs.FeatureMoves.Moves.{Done, Next}
use Rattle.seq_circle.specs.Counts.{number_of, count_of}
use Rattle.two_ends.specs.FeatureRows.{RowMoves, side_of, entries_of, row_pair, opens_at, IsBegun, after_sending}
use Rattle.two_ends.proofs.OfFeatures.FeatureOrder.{count_of-number_of}

-- the row may open with a wish that is one for it
wish_opens : (row : Row) (wish : Wanted) → is_wish row.feature row.place wish ≡ true
    → opens_at row.role (row_pair row) (entries_of (Some wish)) ≡ true
wish_opens row wish is = grind arith

-- what an offer opens with, and what is pending in UNSTABLE, are such wishes
offered_opens : (row : Row) → IsSoundRow row → (row.offer ≡ offer.Nothing → ⊥)
    → opens_at row.role (row_pair row) (entries_of row.active) ≡ true
offered_opens row sound offers = grind arith

pending_opens : (row : Row) → IsSoundRow row → row.stand ≡ Unstable → opens_at row.role (row_pair row) (entries_of row.pending) ≡ true
pending_opens row sound unstable = grind arith

module _ (iss greatest : ℕ) (row : Row) (there frames : List FeatureNews) where
  -- the row after its first Change with a wish went out
  record IsOpened (after : Row) : Type 0 where
    stand : after.stand ≡ Changing
    value : after.value ≡ row.value
    opened : after.opened ≡ Some (number_of iss (length frames + 1))

  opens : iss < 2 ^ 48 → length frames < 2 ^ 47 → (after : Row) → IsOpened after
      → opens_at row.role (row_pair row) (entries_of after.active) ≡ true
      → RowMoves row there (side_of iss row greatest frames) (side_of iss after greatest (with_frame frames (Change (entries_of after.active))))
  opens fits few after is may =
      let counted : count_of iss (number_of iss (length frames + 1)) ≡ length frames + 1 =
      count_of-number_of iss (length frames + 1) fits (omega arith) (omega arith) in
      let before = side_of iss row greatest frames in
      let opened = opening before (entries_of after.active) in
      rw (is.stand, is.value, is.opened, counted) (Next before opened opened (Opens (entries_of after.active) may) (Done opened))

  again : (row.stand ≡ Stable → ⊥)
      → RowMoves row there (side_of iss row greatest frames) (side_of iss row greatest (with_frame frames (Change (entries_of row.active))))
  again busy =
      let before = side_of iss row greatest frames in
      let after = sending_side before (Change (entries_of row.active)) in
      Next before after after (Sends_again busy) (Done after)

  waits : (after : Row) → (row.stand ≡ Stable → ⊥) → after.stand ≡ Unstable → after.value ≡ row.value → after.opened ≡ row.opened
      → after.active ≡ row.active → RowMoves row there (side_of iss row greatest frames) (side_of iss after greatest frames)
  waits after busy stand value opened active =
      let before = side_of iss row greatest frames in
      rw (stand, value, opened, active) (Next before (waiting before) (waiting before) (Waits busy) (Done (waiting before)))

  pub plain_moves : RowMoves row there (side_of iss row greatest frames) (side_of iss row greatest (with_frame frames Nothing))
  plain_moves =
      let before = side_of iss row greatest frames in
      let after = sending_side before Nothing in
      Next before after after Sends (Done after)

  -- what the end prefers goes out at once where the row is STABLE
  pub prefer_moves : iss < 2 ^ 48 → length frames < 2 ^ 47 → (wish : Wanted) → is_wish row.feature row.place wish ≡ true
      → row.stand ≡ Stable
      → RowMoves row there (side_of iss row greatest frames) (after_sending iss (row_step row (Prefers wish)).row greatest frames)
  prefer_moves fits few wish is stable = by_stand row.stand stable
    where
      by_stand : (stand : Stand) → stand ≡ Stable
          → RowMoves row there (side_of iss row greatest frames)
          (after_sending iss (row_line row stand (Preferred wish)).row greatest frames)
      by_stand Stable is_stable =
          opens fits few
          (record row { stand = Changing; active = Some wish; opened = Some (number_of iss (length frames + 1)); mandatory = false })
          (record { stand = refl; value = refl; opened = refl }) (wish_opens row wish is)
      by_stand Changing is_stable = absurd (cc is_stable)
      by_stand Unstable is_stable = absurd (cc is_stable)

  -- and waits where it is not
  pub preference_waits : (wish : Wanted) → (row.stand ≡ Stable → ⊥)
      → RowMoves row there (side_of iss row greatest frames) (side_of iss (row_step row (Prefers wish)).row greatest frames)
  preference_waits wish busy = by_stand row.stand refl
    where
      by_stand : (stand : Stand) → row.stand ≡ stand
          → RowMoves row there (side_of iss row greatest frames) (side_of iss (row_line row stand (Preferred wish)).row greatest frames)
      by_stand Stable is = absurd (busy is)
      by_stand Changing is = waits (record row { stand = Unstable; pending = Some wish }) busy refl refl refl refl
      by_stand Unstable is = waits (record row { stand = Unstable; pending = Some wish }) busy refl refl refl refl

  -- the row's offer comes up
  pub offer_moves : iss < 2 ^ 48 → length frames < 2 ^ 47 → IsSoundRow row → (confirmed : Bool)
      → (row_step row (Offers confirmed)).answer ≡ machine.Opens
      → RowMoves row there (side_of iss row greatest frames) (after_sending iss (row_step row (Offers confirmed)).row greatest frames)
  offer_moves fits few sound confirmed opened = by_stand row.stand confirmed row.offer refl opened
    where
      opens_offered : (mandatory : Bool) → (row.offer ≡ offer.Nothing → ⊥)
          → RowMoves row there (side_of iss row greatest frames)
          (side_of iss (record row {
            stand = Changing;
            opened = Some (number_of iss (length frames + 1));
            offer = offer.Nothing;
            mandatory = mandatory;
          }) greatest (with_frame frames (Change (entries_of row.active))))
      opens_offered mandatory offers =
          opens fits few
          (record row {
            stand = Changing;
            opened = Some (number_of iss (length frames + 1));
            offer = offer.Nothing;
            mandatory = mandatory;
          })
          (record { stand = refl; value = refl; opened = refl }) (offered_opens row sound offers)

      by_stand : (stand : Stand) (confirmed : Bool) (offered : Offer) → row.offer ≡ offered
          → (row_line row stand (Offered confirmed offered)).answer ≡ machine.Opens
          → RowMoves row there (side_of iss row greatest frames)
          (after_sending iss (row_line row stand (Offered confirmed offered)).row greatest frames)
      by_stand Stable false offer.Plain is opened = opens_offered false (λ nothing. absurd (cc (is, nothing)))
      by_stand Stable false offer.Mandatory is opened = opens_offered true (λ nothing. absurd (cc (is, nothing)))
      by_stand Stable false offer.Nothing is opened = absurd (cc opened)
      by_stand Stable true offered is opened = absurd (cc opened)
      by_stand Changing confirmed offered is opened = absurd (cc opened)
      by_stand Unstable confirmed offered is opened = absurd (cc opened)

  pub offer_drops : (confirmed : Bool) → ((row_step row (Offers confirmed)).answer ≡ machine.Opens → ⊥)
      → side_of iss (row_step row (Offers confirmed)).row greatest frames ≡ side_of iss row greatest frames
  offer_drops confirmed quiet = by_stand row.stand confirmed row.offer quiet
    where
      by_stand : (stand : Stand) (confirmed : Bool) (offered : Offer)
          → ((row_line row stand (Offered confirmed offered)).answer ≡ machine.Opens → ⊥)
          → side_of iss (row_line row stand (Offered confirmed offered)).row greatest frames ≡ side_of iss row greatest frames
      by_stand Stable false offer.Plain unopened = absurd (unopened refl)
      by_stand Stable false offer.Mandatory unopened = absurd (unopened refl)
      by_stand Stable false offer.Nothing unopened = refl
      by_stand Stable true offered unopened = refl
      by_stand Changing confirmed offered unopened = refl
      by_stand Unstable confirmed offered unopened = refl

  -- the row's Change goes out, again or with what is pending
  pub send_moves : iss < 2 ^ 48 → length frames < 2 ^ 47 → IsSoundRow row → IsBegun iss row → (row.stand ≡ Stable → ⊥)
      → RowMoves row there (side_of iss row greatest frames) (after_sending iss row greatest frames)
  send_moves fits few sound begun busy = by_stand row.stand refl row.opened refl
    where
      by_stand : (stand : Stand) → row.stand ≡ stand → (opened : Option ℕ) → row.opened ≡ opened
          → RowMoves row there (side_of iss row greatest frames)
          (side_of iss (row_line row stand (Sending (number_of iss (length frames + 1)) opened)).row greatest
          (with_frame frames (Change (entries_of (row_line row stand (Sending (number_of iss (length frames + 1)) opened)).row.active))))
      by_stand Stable stable opened is = absurd (busy stable)
      by_stand Changing changing None is = absurd (begun.begun changing is)
      by_stand Changing changing (Some number) is = again busy
      by_stand Unstable unstable opened is =
          opens fits few (sent_anew row (number_of iss (length frames + 1))) (record { stand = refl; value = refl; opened = refl })
          (pending_opens row sound unstable)
