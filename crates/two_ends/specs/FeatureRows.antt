-- A row of feature_machine as one side of its feature's pair, and its options as what frames carry for that pair.
use Rattle.std.specs.Prelude.{◌≡◌, ◌≢◌, ℕ, ◌+◌, ◌==◌, ◌&&◌, nat_le, Bool, true, false, Option, None, Some, List, [], ◌∷◌, length}
use Rattle.byteorder.specs.Endian.{big_number, big_bytes}
use Rattle.feature_lists.specs.Features.{described, initial_of, is_permitted}
use Rattle.feature_lists.specs.Lists.{reconciled}
use Rattle.feature_lists.specs.declared.features.Feature.{Feature}
use Rattle.feature_lists.specs.declared.features.Place.{Place}
use Rattle.feature_lists.specs.declared.features.Place.TheVariants as place
use Rattle.feature_lists.specs.declared.wishes.Wanted.{Wanted}
use Rattle.feature_lists.specs.declared.wishes.Wanted.TheVariants as wanted
use Rattle.feature_machine.specs.declared.stands.Role2.{Role2}
use Rattle.feature_machine.specs.declared.stands.Role2.TheVariants as end
use Rattle.feature_machine.specs.declared.stands.Stand.TheVariants.{Changing}
use Rattle.feature_machine.specs.declared.row.Row.{Row}
use Rattle.feature_machine.specs.Rows as machine
use Rattle.feature_machine.specs.Rows.{RowAnswer, Confirms, Ignored, Settled, Fatal, Opens, Waits, Quiet, row_step}
use Rattle.two_ends.specs.FeatureView.{FeatureNews, FeatureSide, with_frame}
use Rattle.two_ends.specs.FeatureView.FeatureNews.{Change, Confirm}
use Rattle.two_ends.specs.FeatureMoves.{Rule, swapped, Pair, Moves, negotiable, at_server, at_client}
use Rattle.seq_circle.specs.Counts.{number_of, count_of, IsNumber}

-- the end where a feature is located, for an end that sees it at this place
abbrev pub location_of : Role2 → Place → Role2
location_of role place.Here = role
location_of end.Client place.There = end.Server
location_of end.Server place.There = end.Client

-- a server-priority feature is negotiable; for any other the location decides (RFC 4340, sections 6.3.1 and 6.3.2)
abbrev pub pair_by : Bool → ℕ → Role2 → Pair
pair_by true initial location = negotiable initial reconciled
pair_by false initial end.Server = at_server initial
pair_by false initial end.Client = at_client initial

-- the pair of a feature that is located at this end
abbrev pub pair_of : Feature → Role2 → Pair
pair_of feature location = pair_by (described feature).is_server_priority (initial_of feature) location

-- the pair's rule for an end, its own wish first
abbrev pub rule_at : Role2 → Pair → Rule
rule_at end.Server pair = pair.rule
rule_at end.Client pair = swapped pair.rule

-- the wishes that the row of an end may open with
abbrev pub opens_at : Role2 → Pair → List ℕ → Bool
opens_at end.Server pair = pair.server_opens
opens_at end.Client pair = pair.client_opens

-- the pair that a row is one side of
abbrev pub row_pair : Row → Pair
row_pair row = pair_of row.feature (location_of row.role row.place)

-- what a step may do to the side of a row
abbrev pub RowMoves : Row → List FeatureNews → FeatureSide → FeatureSide → Type 0
RowMoves row there before after = Moves (rule_at row.role (row_pair row)) (opens_at row.role (row_pair row)) there before after

-- a wish as a list: a number is a list of one
abbrev pub entries_of : Option Wanted → List ℕ
entries_of None = []
entries_of (Some (wanted.List list)) = list
entries_of (Some (wanted.Number number)) = number ∷ []

-- the count of the row's last opening, or 0
abbrev pub opened_count : ℕ → Option ℕ → ℕ
opened_count iss None = 0
opened_count iss (Some number) = count_of iss number

-- the row as a side, with what else the side has: the first number of its end, the greatest count taken, and its frames
abbrev pub side_of : ℕ → Row → ℕ → List FeatureNews → FeatureSide
side_of iss row greatest frames =
    record {
      frames = frames;
      greatest = greatest;
      opened = opened_count iss row.opened;
      stand = row.stand;
      active = entries_of row.active;
      value = row.value;
    }

-- the wish in the data of a Change: a list, or one number of the feature's width
abbrev pub proposed_by : Bool → ℕ → List ℕ → List ℕ
proposed_by true width body = body
proposed_by false width body = big_number width body ∷ []

-- what a Change with these data after the feature number carries
abbrev pub change_in : Feature → List ℕ → FeatureNews
change_in feature body = Change (proposed_by (described feature).is_server_priority (described feature).width body)

-- the same of a Confirm: a value and a list, or a number alone
abbrev pub confirmed_by : Bool → ℕ → ℕ → List ℕ → FeatureNews
confirmed_by true width acknowledged [] = Confirm acknowledged 0 []
confirmed_by true width acknowledged (value ∷ list) = Confirm acknowledged value list
confirmed_by false width acknowledged body = Confirm acknowledged (big_number width body) []

-- what a Confirm with these data carries, on a frame that acknowledges the one with this count
abbrev pub confirm_in : Feature → ℕ → List ℕ → FeatureNews
confirm_in feature acknowledged body =
    confirmed_by (described feature).is_server_priority (described feature).width acknowledged body

-- the data of a Change with this wish, after the feature number
abbrev pub change_data : Feature → Wanted → List ℕ
change_data feature (wanted.List list) = list
change_data feature (wanted.Number number) = big_bytes (described feature).width number

-- The data of a Change are valid for the row of the peer, by the place at which the sender sees the feature: for a
-- server-priority feature there is a value at least; for any other it is located at the sender, and the data are a
-- permitted value in just its bytes.
abbrev pub is_valid_by : Bool → Feature → Place → List ℕ → Bool
is_valid_by true feature at body = nat_le 1 (length body)
is_valid_by false feature place.Here body =
    length body == (described feature).width && is_permitted feature place.Here (big_number (described feature).width body)
is_valid_by false feature place.There body = false

-- the same by the feature
abbrev pub is_valid_change : Feature → Place → List ℕ → Bool
is_valid_change feature at body = is_valid_by (described feature).is_server_priority feature at body

-- a Confirm's data are whole: a value and a list, or a number
abbrev pub is_whole_by : Bool → List ℕ → Bool
is_whole_by true [] = false
is_whole_by true (value ∷ []) = false
is_whole_by true (value ∷ (first ∷ list)) = true
is_whole_by false [] = false
is_whole_by false (byte ∷ bytes) = true

-- the same by the feature
abbrev pub is_whole_confirm : Feature → List ℕ → Bool
is_whole_confirm feature body = is_whole_by (described feature).is_server_priority body

-- the frames of a side once a Change was answered: a Confirm is on a frame of the same step
abbrev pub with_answer : Feature → ℕ → RowAnswer → List FeatureNews → List FeatureNews
with_answer feature acknowledged (Confirms body) frames = with_frame frames (confirm_in feature acknowledged body)
with_answer feature acknowledged Ignored frames = frames
with_answer feature acknowledged Settled frames = frames
with_answer feature acknowledged (Fatal code) frames = frames
with_answer feature acknowledged Opens frames = frames
with_answer feature acknowledged Waits frames = frames
with_answer feature acknowledged Quiet frames = frames

-- The side once a Change with these data was taken, from the peer's frame with this count: if a Confirm is due, it is on a frame of the same
-- step.
abbrev pub after_change : ℕ → Row → ℕ → List FeatureNews → List ℕ → Bool → FeatureSide
after_change iss row count frames body mandatory =
    let step = row_step row (machine.Change body mandatory) in
    side_of iss step.row count (with_answer row.feature count step.answer frames)

-- the side once a Confirm with these data was taken, from the frame with this count, that acknowledges this number
abbrev pub after_confirm : ℕ → Row → ℕ → List FeatureNews → List ℕ → ℕ → FeatureSide
after_confirm iss row count frames body ack = side_of iss (row_step row (machine.Confirm body (Some ack))).row count frames

-- the row once its next frame, with its Change, was sent
abbrev pub sending_row : ℕ → Row → List FeatureNews → Row
sending_row iss row frames = (row_step row (machine.Sends (number_of iss (length frames + 1)))).row

-- and its side
abbrev pub after_sending : ℕ → Row → ℕ → List FeatureNews → FeatureSide
after_sending iss row greatest frames =
    let after = sending_row iss row frames in
    side_of iss after greatest (with_frame frames (Change (entries_of after.active)))

-- the row's last opening, if it has one, has the number of one of its end's frames, and a row in CHANGING has one
pub record IsBegun (iss : ℕ) (row : Row) : Type 0 where
  pub early : (number : ℕ) → row.opened ≡ Some number → IsNumber iss number
  pub begun : row.stand ≡ Changing → row.opened ≢ None
