-- What one step does to a row is moves of its side: what it hears of a packet, what else happens to it, and what goes out.
use Rattle.std.proofs.Common.{◌≡◌, ◌≢◌, refl, sym, ◌∙◌, subst, ℕ, ◌+◌, ◌^◌, ◌<◌, Bool, true, false, List, [], ◌∷◌, ◌++◌, Option, Some, None, if◌then◌else◌, length}
use Rattle.two_ends.proofs.OfFeatures.Beginning.{dropped_begun, offer_begun, preference_begun, sending_begun, waiting_begun}
use Rattle.two_ends.proofs.OfFeatures.ByFeature.{same_moves}
use Rattle.two_ends.proofs.OfFeatures.OpeningLines.{offer_drops, offer_moves, plain_moves, prefer_moves, preference_waits, send_moves}
use Rattle.two_ends.proofs.OfFeatures.FeatureReaching.{joined}
use Rattle.two_ends.proofs.OfFeatures.Taking.{heard_begun, heard_same, replied, silent}
use Rattle.seq_circle.specs.Counts.{number_of}
use Rattle.two_ends.specs.FeaturePackets.{IsHeardOf, carried_reply}
use Rattle.two_ends.specs.FeatureRows.{IsBegun, RowMoves, confirm_in, entries_of, opens_at, row_pair, rule_at, side_of}
use Rattle.two_ends.specs.FeatureMoves.{Done}
use Rattle.two_ends.specs.FeatureView.{FeatureNews, FeatureSide, with_frame}
use Rattle.two_ends.specs.FeatureView.FeatureNews.{Nothing, Change}
use Rattle.feature_lists.specs.Wishes.{is_wish}
use Rattle.feature_lists.specs.declared.wishes.Wanted.{Wanted}
use Rattle.feature_machine.proofs.Soundness.{step_sound}
use Rattle.feature_machine.proofs.Steps.{step_same}
use Rattle.feature_machine.specs.Rows.{Offers, Opens, Prefers, RowEvent, Sends, row_step}
use Rattle.feature_machine.specs.Sound.{IsSameRow, IsSoundRow}
use Rattle.feature_machine.specs.Turns.{row_turned, reply_due}
use Rattle.feature_machine.specs.declared.row.Row.{Row}
use Rattle.feature_machine.specs.declared.stands.Stand.TheVariants.{Stable}

-- A row and its end's frames become others, and the greatest count taken becomes another.
pub record Moved (iss : ℕ) (there : List FeatureNews) (row : Row) (greatest : ℕ) (frames : List FeatureNews) (after : Row) (later : ℕ)
    (more : List FeatureNews) : Type 0 where
  pub moves : RowMoves row there (side_of iss row greatest frames) (side_of iss after later more)
  pub same : IsSameRow row after
  pub begun : IsBegun iss after

-- What a row hears of a packet, with the Confirm that is due and the greatest count then: nothing, or what a newest packet says.
pub data Hears (iss greatest : ℕ) (row : Row) (there : List FeatureNews) (later : ℕ) : List RowEvent → Option (List ℕ) → Type 0 where
  HearsNothing : later ≡ greatest → Hears iss greatest row there later [] None
  HearsNewest : (events : List RowEvent) → greatest < later → IsHeardOf iss row there later events
      → Hears iss greatest row there later events (reply_due row events)

-- What else happens to a row, and whether its Change goes out.
pub data Does (row : Row) : List RowEvent → Bool → Type 0 where
  Rests : Does row [] false
  Asks : row.stand ≢ Stable → Does row [] true
  OfferOpens : (confirmed : Bool) → (row_step row (Offers confirmed)).answer ≡ Opens → Does row (Offers confirmed ∷ []) true
  OfferDrops : (confirmed asks : Bool) → (row_step row (Offers confirmed)).answer ≢ Opens
      → (asks ≡ true → (row_step row (Offers confirmed)).row.stand ≢ Stable) → Does row (Offers confirmed ∷ []) asks
  PrefersNow : (wish : Wanted) → is_wish row.feature row.place wish ≡ true → row.stand ≡ Stable → Does row (Prefers wish ∷ []) true
  PrefersLater : (wish : Wanted) → row.stand ≢ Stable → Does row (Prefers wish ∷ []) false

abbrev pub sends_if : Bool → ℕ → List RowEvent
sends_if asks number = if asks then Sends number ∷ [] else []

-- the frames after a step in which the row is not confirmed: whether its Change goes out, or another packet, or none
abbrev pub frames_after : Row → List FeatureNews → (asks packet : Bool) → List FeatureNews
frames_after after frames true packet = with_frame frames (Change (entries_of after.active))
frames_after after frames false true = with_frame frames Nothing
frames_after after frames false false = frames

-- a row is the same as itself
pub same-refl : (row : Row) → IsSameRow row row
same-refl row = record { role = refl; feature = refl; place = refl }

-- and as what is the same as its like
pub same-then : (one two three : Row) → IsSameRow one two → IsSameRow two three → IsSameRow one three
same-then one two three first second =
    record { role = second.role ∙ first.role; feature = second.feature ∙ first.feature; place = second.place ∙ first.place }

-- moves follow one another
pub moved-then : (iss : ℕ) (there : List FeatureNews) (one two three : Row) (first second third : ℕ) (begin middle last : List FeatureNews)
    → Moved iss there one first begin two second middle → Moved iss there two second middle three third last
    → Moved iss there one first begin three third last
moved-then iss there one two three first second third begin middle last m n =
    record {
      moves =
          joined (rule_at one.role (row_pair one)) (opens_at one.role (row_pair one)) there (side_of iss one first begin) (side_of iss two second middle)
          (side_of iss three third last) m.moves
          (same_moves one two there (side_of iss two second middle) (side_of iss three third last) m.same n.moves);
      same = same-then one two three m.same n.same;
      begun = n.begun;
    }

module _ (iss greatest : ℕ) (row : Row) (there frames : List FeatureNews) (fits : iss < 2 ^ 48) (few : length frames < 2 ^ 47) (sound : IsSoundRow row)
    (begun : IsBegun iss row) where
  abbrev number : ℕ
  number = number_of iss (length frames + 1)

  stays : Moved iss there row greatest frames row greatest frames
  stays = record { moves = Done _; same = same-refl row; begun = begun }

  -- the packet alone
  pub hears : (later : ℕ) (events : List RowEvent) → Hears iss greatest row there later events None
      → Moved iss there row greatest frames (row_turned row events) later frames
  hears later events heard = by events None heard refl where
    by : (events : List RowEvent) (reply : Option (List ℕ)) → Hears iss greatest row there later events reply → reply ≡ None
        → Moved iss there row greatest frames (row_turned row events) later frames
    by _ _ (HearsNothing unmoved) none = subst (λ (n : ℕ). Moved iss there row greatest frames row n frames) (sym unmoved) stays
    by events _ (HearsNewest _ newer is) none =
        record {
          moves = silent iss greatest later row there frames newer sound begun events is none;
          same = heard_same iss later row there events is;
          begun = heard_begun iss later row there events is begun;
        }

  -- with the Confirm that is due
  pub confirms : (later : ℕ) (events : List RowEvent) (body : List ℕ) → Hears iss greatest row there later events (Some body)
      → Moved iss there row greatest frames (row_turned row events) later (with_frame frames (confirm_in row.feature later body))
  confirms later events body heard = by events (Some body) heard refl where
    by : (events : List RowEvent) (reply : Option (List ℕ)) → Hears iss greatest row there later events reply → reply ≡ Some body
        → Moved iss there row greatest frames (row_turned row events) later (with_frame frames (confirm_in row.feature later body))
    by _ _ (HearsNothing unmoved) is = cc is
    by events _ (HearsNewest _ newer is) due =
        record {
          moves =
              subst (λ (r : Option (List ℕ)). RowMoves row there (side_of iss row greatest frames)
              (side_of iss (row_turned row events) later (with_frame frames (carried_reply row.feature later r)))) due
              (replied iss greatest later row there frames newer sound begun events is);
          same = heard_same iss later row there events is;
          begun = heard_begun iss later row there events is begun;
        }

  -- an offer that does not open changes nothing of the side
  pub drops : (confirmed : Bool) → (row_step row (Offers confirmed)).answer ≢ Opens
      → Moved iss there row greatest frames (row_step row (Offers confirmed)).row greatest frames
  drops confirmed closed =
      record {
        moves =
            subst (λ (s : FeatureSide). RowMoves row there (side_of iss row greatest frames) s)
            (sym (offer_drops iss greatest row [] frames confirmed closed)) (Done _);
        same = step_same row (Offers confirmed);
        begun = dropped_begun iss row confirmed closed begun;
      }

  -- another packet goes out
  pub plainly : Moved iss there row greatest frames row greatest (with_frame frames Nothing)
  plainly = record { moves = plain_moves iss greatest row there frames; same = same-refl row; begun = begun }

  pub sends : row.stand ≢ Stable → Moved iss there row greatest frames (row_step row (Sends number)).row greatest
      (with_frame frames (Change (entries_of (row_step row (Sends number)).row.active)))
  sends busy =
      record {
        moves = send_moves iss greatest row there frames fits few sound begun busy;
        same = step_same row (Sends number);
        begun = sending_begun iss frames fits few row begun.early;
      }

  pub offer-opens : (confirmed : Bool) → (row_step row (Offers confirmed)).answer ≡ Opens
      → Moved iss there row greatest frames (row_step (row_step row (Offers confirmed)).row (Sends number)).row greatest
      (with_frame frames (Change (entries_of (row_step (row_step row (Offers confirmed)).row (Sends number)).row.active)))
  offer-opens confirmed opens =
      record {
        moves = offer_moves iss greatest row there frames fits few sound confirmed opens;
        same = same-then row (row_step row (Offers confirmed)).row _ (step_same row (Offers confirmed))
            (step_same (row_step row (Offers confirmed)).row (Sends number));
        begun = offer_begun iss frames fits few row confirmed begun;
      }

  pub prefer-opens : (wish : Wanted) → is_wish row.feature row.place wish ≡ true → row.stand ≡ Stable
      → Moved iss there row greatest frames (row_step (row_step row (Prefers wish)).row (Sends number)).row greatest
      (with_frame frames (Change (entries_of (row_step (row_step row (Prefers wish)).row (Sends number)).row.active)))
  prefer-opens wish is stable =
      record {
        moves = prefer_moves iss greatest row there frames fits few wish is stable;
        same = same-then row (row_step row (Prefers wish)).row _ (step_same row (Prefers wish)) (step_same (row_step row (Prefers wish)).row (Sends number));
        begun = preference_begun iss frames fits few row wish begun;
      }

  pub prefer-waits : (wish : Wanted) → row.stand ≢ Stable
      → Moved iss there row greatest frames (row_step row (Prefers wish)).row greatest frames
  prefer-waits wish busy =
      record {
        moves = preference_waits iss greatest row there frames wish busy;
        same = step_same row (Prefers wish);
        begun = waiting_begun iss row wish busy begun;
      }

-- What else happens to the row, with its Change or without.
pub does : (iss greatest : ℕ) (row : Row) (there frames : List FeatureNews) → iss < 2 ^ 48 → length frames < 2 ^ 47 → IsSoundRow row → IsBegun iss row
    → (events : List RowEvent) (asks packet : Bool) → Does row events asks
    → Moved iss there row greatest frames (row_turned row (events ++ sends_if asks (number_of iss (length frames + 1)))) greatest
    (frames_after (row_turned row (events ++ sends_if asks (number_of iss (length frames + 1)))) frames asks packet)
does iss greatest row there frames fits few sound begun _ false true Rests = plainly iss greatest row there frames fits few sound begun
does iss greatest row there frames fits few sound begun _ false false Rests = stays iss greatest row there frames fits few sound begun
does iss greatest row there frames fits few sound begun _ true packet (Asks busy) = sends iss greatest row there frames fits few sound begun busy
does iss greatest row there frames fits few sound begun _ true packet (OfferOpens confirmed opens) =
    offer-opens iss greatest row there frames fits few sound begun confirmed opens
does iss greatest row there frames fits few sound begun _ true packet (OfferDrops confirmed _ closed busy) =
    let dropped = drops iss greatest row there frames fits few sound begun confirmed closed in
    let next : Row = (row_step row (Offers confirmed)).row in
    moved-then iss there row next (row_step next (Sends (number_of iss (length frames + 1)))).row greatest greatest greatest frames frames
    (with_frame frames (Change (entries_of (row_step next (Sends (number_of iss (length frames + 1)))).row.active))) dropped
    (sends iss greatest next there frames fits few (step_sound row (Offers confirmed) sound tt) dropped.begun (busy refl))
does iss greatest row there frames fits few sound begun _ false true (OfferDrops confirmed _ closed busy) =
    let dropped = drops iss greatest row there frames fits few sound begun confirmed closed in
    let next : Row = (row_step row (Offers confirmed)).row in
    moved-then iss there row next next greatest greatest greatest frames frames (with_frame frames Nothing) dropped
    (plainly iss greatest next there frames fits few (step_sound row (Offers confirmed) sound tt) dropped.begun)
does iss greatest row there frames fits few sound begun _ false false (OfferDrops confirmed _ closed busy) =
    drops iss greatest row there frames fits few sound begun confirmed closed
does iss greatest row there frames fits few sound begun _ true packet (PrefersNow wish is stable) =
    prefer-opens iss greatest row there frames fits few sound begun wish is stable
does iss greatest row there frames fits few sound begun _ false true (PrefersLater wish busy) =
    let waits = prefer-waits iss greatest row there frames fits few sound begun wish busy in
    let next : Row = (row_step row (Prefers wish)).row in
    moved-then iss there row next next greatest greatest greatest frames frames (with_frame frames Nothing) waits
    (record { moves = plain_moves iss greatest next there frames; same = same-refl next; begun = waits.begun })
does iss greatest row there frames fits few sound begun _ false false (PrefersLater wish busy) =
    prefer-waits iss greatest row there frames fits few sound begun wish busy
