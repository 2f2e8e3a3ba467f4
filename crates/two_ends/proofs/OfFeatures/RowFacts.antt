-- What a sound row says, as frames carry it, and its pair's rule.
use Rattle.std.proofs.Common.{◌≡◌, ℕ, ◌^◌, ◌<◌, true, false, List, [], ◌∷◌, arith, append-nil, true≢false}
use Rattle.byteorder.specs.Endian.{big_number, big_bytes}
use Rattle.byteorder.specs.Numbers.{big_number-reads_back}
use Rattle.feature_lists.specs.Features.{described, is_permitted}
use Rattle.feature_lists.specs.declared.features.Feature.{Feature}
use Rattle.feature_lists.specs.declared.features.Feature.TheVariants as f
use Rattle.feature_lists.specs.declared.features.Place.{Place}
use Rattle.feature_lists.specs.declared.features.Place.TheVariants as place
use Rattle.feature_machine.specs.declared.row.Row.{Row}
use Rattle.feature_machine.specs.Rows.{is_server_priority, width, entries, reconciled_by, confirm_body, holding, tells_value, is_number}
use Rattle.feature_machine.specs.Sound.{IsSoundRow}
use Rattle.two_ends.specs.FeatureView.FeatureNews.{Confirm}
use Rattle.two_ends.specs.FeatureMoves.{own_value}
use Rattle.two_ends.specs.FeatureRows.{entries_of, row_pair, rule_at, confirm_in}

pub entries-entries_of : (row : Row) → IsSoundRow row → is_server_priority row ≡ true → entries row.active ≡ entries_of row.active
entries-entries_of row sound priority = grind arith

pub rule-reconciled_by : (row : Row) (own peers : List ℕ) → is_server_priority row ≡ true
    → rule_at row.role (row_pair row) own peers ≡ reconciled_by row.role own peers
rule-reconciled_by row own peers priority = grind arith

pub rule-own_value : (row : Row) (own peers : List ℕ) → is_server_priority row ≡ false → row.place ≡ place.Here
    → rule_at row.role (row_pair row) own peers ≡ own_value own peers
rule-own_value row own peers priority here = grind arith

pub rule-remote_value : (row : Row) (own peers : List ℕ) → is_server_priority row ≡ false → row.place ≡ place.There
    → rule_at row.role (row_pair row) own peers ≡ own_value peers own
rule-remote_value row own peers priority remote = grind arith

-- the Confirm of a row with a list carries the row's value and its list
pub list_said : (row : Row) (count value : ℕ) → IsSoundRow row → is_server_priority row ≡ true
    → confirm_in row.feature count (confirm_body (holding row value)) ≡ Confirm count value (entries_of row.active)
list_said row count value sound priority = grind (arith, entries-entries_of)

-- a permitted value of a non-negotiable feature fits its width
pub permitted_fits : (feature : Feature) (place : Place) (value : ℕ) → (described feature).is_server_priority ≡ false
    → is_permitted feature place value ≡ true → value < 256 ^ (described feature).width
permitted_fits f.SequenceWindow place.Here value priority permitted = grind arith
permitted_fits f.SequenceWindow place.There value priority permitted = grind arith
permitted_fits f.AckRatio place.Here value priority permitted = grind arith
permitted_fits f.AckRatio place.There value priority permitted = grind arith
permitted_fits f.Ccid place value priority permitted = absurd (true≢false priority)
permitted_fits _ place value priority permitted = absurd (true≢false priority)

-- a value that is told comes from the location, and fits
pub record IsTold (row : Row) (body : List ℕ) : Type 0 where
  pub remote : row.place ≡ place.There
  pub fits : big_number (width row) body < 256 ^ width row

pub told : (row : Row) (body : List ℕ) → is_server_priority row ≡ false → tells_value row body ≡ true → IsTold row body
told row body priority tells =
    let permitted : is_permitted row.feature row.place (big_number (width row) body) ≡ true = grind arith in
    record {
      remote = grind arith;
      fits = permitted_fits row.feature row.place (big_number (width row) body) priority permitted;
    }

pub remote_silent : (row : Row) → IsSoundRow row → is_server_priority row ≡ false → row.place ≡ place.There → entries_of row.active ≡ []
remote_silent row sound priority remote = grind arith

pub reads_back : (width value : ℕ) → value < 256 ^ width → big_number width (big_bytes width value) ≡ value
reads_back width value fits = rw append-nil at (big_number-reads_back width value [] fits)

-- the Confirm of a told value carries it
pub told_said : (row : Row) (count value : ℕ) → IsSoundRow row → is_server_priority row ≡ false → row.place ≡ place.There → value < 256 ^ width row
    → confirm_in row.feature count (confirm_body (holding row value)) ≡ Confirm count value (entries_of row.active)
told_said row count value sound priority remote fits =
    let silent : entries_of row.active ≡ [] = remote_silent row sound priority remote in
    let same : big_number (width row) (big_bytes (width row) value) ≡ value = reads_back (width row) value fits in
    rw (priority, silent, same)

-- a number is the wish of the location alone
pub number_here : (row : Row) (value : ℕ) → IsSoundRow row → is_server_priority row ≡ false → is_number row.active value ≡ true
    → row.place ≡ place.Here
number_here row value sound priority number = grind arith

pub number_entries : (row : Row) (value : ℕ) → is_number row.active value ≡ true → entries_of row.active ≡ value ∷ []
number_entries row value number = grind arith
