-- What stays of a row's last opening: it is a frame of its end, and a row in CHANGING has one.
use Rattle.std.proofs.Common.{◌≡◌, ℕ, ◌+◌, ◌^◌, ◌<◌, Bool, List, [], length, refl, sym, ap, ◌∙◌, subst, inl, inr, arith, ◌⊎◌}
use Rattle.std.specs.Prelude.{Option, None, Some}
use Rattle.feature_lists.specs.Features.{initial_of}
use Rattle.feature_lists.specs.declared.wishes.Wanted.{Wanted}
use Rattle.feature_machine.specs.declared.stands.Stand.{Stand}
use Rattle.feature_machine.specs.declared.stands.Stand.TheVariants.{Stable, Changing, Unstable}
use Rattle.feature_machine.specs.declared.offers.Offer.{Offer}
use Rattle.feature_machine.specs.declared.judging.Proposal.{Proposal}
use Rattle.feature_machine.specs.declared.judging.Confirmation.{Confirmation}
use Rattle.feature_machine.specs.declared.row.Row.{Row}
use Rattle.feature_machine.specs.Rows as machine
use Rattle.feature_machine.specs.Rows.{row_step, row_line, Proposed, Confirmed, Preferred, Offered, Sending, Prefers, Offers, proposal, confirmation, sent_anew}
use Rattle.two_ends.specs.FeatureView.{FeatureNews}
use Rattle.two_ends.specs.FeatureMoves.{new_side}
use Rattle.seq_circle.specs.Counts.{number_of, count_of, IsNumber}
use Rattle.two_ends.specs.FeatureRows.{side_of, entries_of, row_pair, IsBegun, sending_row}
use Rattle.two_ends.proofs.OfFeatures.FeatureOrder.{count_of-number_of}

pair_starts : (row : Row) → (row_pair row).initial ≡ initial_of row.feature
pair_starts row = grind arith

-- lines that leave the opening, and lead to CHANGING from nowhere else
kept : (iss : ℕ) (row after : Row) → after.opened ≡ row.opened → (after.stand ≡ Changing → row.stand ≡ Changing) → IsBegun iss row
    → IsBegun iss after
kept iss row after opened stand begun = record {
  early = λ number is. begun.early number (sym opened ∙ is);
  begun = λ changing none. begun.begun (stand changing) (sym opened ∙ none);
}

change_line_keeps : (row : Row) (stand : Stand) (proposed : Proposal) (mandatory : Bool)
    → ((row_line row stand (Proposed proposed mandatory)).row.opened ≡ row.opened)
    × ((row_line row stand (Proposed proposed mandatory)).row.stand ≡ row.stand)
change_line_keeps row stand proposed mandatory = grind arith

confirm_line_keeps : (row : Row) (stand : Stand) (confirms : Confirmation)
    → ((row_line row stand (Confirmed confirms)).row.opened ≡ row.opened)
    × ((row_line row stand (Confirmed confirms)).row.stand ≡ Changing → row.stand ≡ Changing)
confirm_line_keeps row stand confirms = grind arith

pub change_begun : (iss : ℕ) (row : Row) (body : List ℕ) (mandatory : Bool) → IsBegun iss row
    → IsBegun iss (row_step row (machine.Change body mandatory)).row
change_begun iss row body mandatory begun =
    let keeps = change_line_keeps row row.stand (proposal row body) mandatory in
    kept iss row (row_step row (machine.Change body mandatory)).row keeps.0 (λ is. sym keeps.1 ∙ is) begun

pub confirm_begun : (iss : ℕ) (row : Row) (body : List ℕ) (ack : Option ℕ) → IsBegun iss row
    → IsBegun iss (row_step row (machine.Confirm body ack)).row
confirm_begun iss row body ack begun =
    let keeps = confirm_line_keeps row row.stand (confirmation row body ack) in
    kept iss row (row_step row (machine.Confirm body ack)).row keeps.0 keeps.1 begun

preference_keeps : (row : Row) (stand : Stand) (wish : Wanted) → (stand ≡ Stable → ⊥)
    → ((row_line row stand (Preferred wish)).row.opened ≡ row.opened)
    × ((row_line row stand (Preferred wish)).row.stand ≡ Changing → row.stand ≡ Changing)
preference_keeps row stand wish busy = grind arith

offer_keeps : (row : Row) (stand : Stand) (confirmed : Bool) (offered : Offer)
    → ((row_line row stand (Offered confirmed offered)).answer ≡ machine.Opens → ⊥)
    → ((row_line row stand (Offered confirmed offered)).row.opened ≡ row.opened)
    × ((row_line row stand (Offered confirmed offered)).row.stand ≡ row.stand)
offer_keeps row stand confirmed offered quiet = grind arith

-- a preference and an offer make the opening absent, or leave it
preference_opens : (row : Row) (stand : Stand) (wish : Wanted)
    → ((row_line row stand (Preferred wish)).row.opened ≡ None) ⊎ ((row_line row stand (Preferred wish)).row.opened ≡ row.opened)
preference_opens row stand wish = grind arith

offer_opens : (row : Row) (stand : Stand) (confirmed : Bool) (offered : Offer)
    → ((row_line row stand (Offered confirmed offered)).row.opened ≡ None)
    ⊎ ((row_line row stand (Offered confirmed offered)).row.opened ≡ row.opened)
offer_opens row stand confirmed offered = grind arith

pub waiting_begun : (iss : ℕ) (row : Row) (wish : Wanted) → (row.stand ≡ Stable → ⊥) → IsBegun iss row
    → IsBegun iss (row_step row (Prefers wish)).row
waiting_begun iss row wish busy begun =
    let keeps = preference_keeps row row.stand wish busy in
    kept iss row (row_step row (Prefers wish)).row keeps.0 keeps.1 begun

pub dropped_begun : (iss : ℕ) (row : Row) (confirmed : Bool) → ((row_step row (Offers confirmed)).answer ≡ machine.Opens → ⊥)
    → IsBegun iss row → IsBegun iss (row_step row (Offers confirmed)).row
dropped_begun iss row confirmed quiet begun =
    let keeps = offer_keeps row row.stand confirmed row.offer quiet in
    kept iss row (row_step row (Offers confirmed)).row keeps.0 (λ is. sym keeps.1 ∙ is) begun

some_same : {one other : ℕ} → Some one ≡ Some other → one ≡ other
some_same is = cc

-- the next frame's number is one of the side's
next_number : (iss : ℕ) (frames : List FeatureNews) → iss < 2 ^ 48 → length frames < 2 ^ 47 → IsNumber iss (number_of iss (length frames + 1))
next_number iss frames fits few =
    let counted : count_of iss (number_of iss (length frames + 1)) ≡ length frames + 1 =
    count_of-number_of iss (length frames + 1) fits (omega arith) (omega arith) in
    record { iss_fits = fits; fits = omega arith; early = omega arith }

module _ (iss : ℕ) (frames : List FeatureNews) (fits : iss < 2 ^ 48) (few : length frames < 2 ^ 47) where
  -- it stays a frame of this end where it is absent, or left
  early_or : (before after : Option ℕ) → (after ≡ None) ⊎ (after ≡ before) → ((number : ℕ) → before ≡ Some number → IsNumber iss number)
      → (number : ℕ) → after ≡ Some number → IsNumber iss number
  early_or before after (inl none) early number is = absurd (cc (none, is))
  early_or before after (inr same) early number is = early number (sym same ∙ is)

  pub sending_begun : (row : Row) → ((number : ℕ) → row.opened ≡ Some number → IsNumber iss number) → IsBegun iss (sending_row iss row frames)
  sending_begun row early = by_stand row.stand refl row.opened refl
    where
      sent_now : (after : Row) → after.opened ≡ Some (number_of iss (length frames + 1)) → IsBegun iss after
      sent_now after opened = record {
        early = λ number is. subst (IsNumber iss) (some_same (sym opened ∙ is)) (next_number iss frames fits few);
        begun = λ changing none. absurd (cc (opened, none));
      }

      by_stand : (stand : Stand) → row.stand ≡ stand → (opened : Option ℕ) → row.opened ≡ opened
          → IsBegun iss (row_line row stand (Sending (number_of iss (length frames + 1)) opened)).row
      by_stand Stable stable opened is = record { early = early; begun = λ changing none. absurd (cc (stable, changing)) }
      by_stand Changing changing None is = sent_now (record row { opened = Some (number_of iss (length frames + 1)) }) refl
      by_stand Changing changing (Some number) is = record { early = early; begun = λ still none. absurd (cc (is, none)) }
      by_stand Unstable unstable opened is = sent_now (sent_anew row (number_of iss (length frames + 1))) refl

  pub preference_begun : (row : Row) (wish : Wanted) → IsBegun iss row
      → IsBegun iss (sending_row iss (row_step row (Prefers wish)).row frames)
  preference_begun row wish begun =
      sending_begun (row_step row (Prefers wish)).row
      (early_or row.opened (row_step row (Prefers wish)).row.opened (preference_opens row row.stand wish) begun.early)

  pub offer_begun : (row : Row) (confirmed : Bool) → IsBegun iss row
      → IsBegun iss (sending_row iss (row_step row (Offers confirmed)).row frames)
  offer_begun row confirmed begun =
      sending_begun (row_step row (Offers confirmed)).row
      (early_or row.opened (row_step row (Offers confirmed)).row.opened (offer_opens row row.stand confirmed row.offer) begun.early)

pub start_begun : (iss : ℕ) (row : Row) → row.stand ≡ Stable → row.opened ≡ None → IsBegun iss row
start_begun iss row stable unopened = record {
  early = λ number is. absurd (cc (unopened, is));
  begun = λ changing none. absurd (cc (stable, changing));
}

pub starts_fresh : (iss : ℕ) (row : Row) → row.stand ≡ Stable → row.opened ≡ None → row.value ≡ initial_of row.feature
    → side_of iss row 0 [] ≡ new_side (row_pair row).initial (entries_of row.active)
starts_fresh iss row stable unopened value =
    rw (stable, unopened, value) (ap (λ initial. new_side initial (entries_of row.active)) (sym (pair_starts row)))
