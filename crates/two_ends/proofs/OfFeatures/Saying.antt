-- What our ends say is whole, and valid to each other.
use Rattle.std.proofs.Common.{◌≡◌, ℕ, ◌≤◌, Bool, true, false, List, [], ◌∷◌, length, refl, ap, subst, arith, true≢false}
use Rattle.std.specs.Prelude.{Option, None, Some, ◌==◌, ◌&&◌, ◌↔◌, nat_le, if◌then◌else◌}
use Rattle.byteorder.specs.Endian.{big_number, big_bytes}
use Rattle.byteorder.specs.Numbers.{length-bytes_high_first}
use Rattle.feature_lists.specs.Features.{described, is_permitted}
use Rattle.feature_lists.specs.declared.features.Feature.{Feature}
use Rattle.feature_lists.specs.declared.features.Feature.TheVariants as f
use Rattle.feature_lists.specs.declared.features.Place.{Place}
use Rattle.feature_lists.specs.declared.features.Place.TheVariants as place
use Rattle.feature_lists.specs.declared.wishes.Wanted.{Wanted}
use Rattle.feature_lists.specs.declared.wishes.Wanted.TheVariants as wanted
use Rattle.feature_lists.specs.Wishes.{is_wish}
use Rattle.feature_machine.specs.declared.stands.Stand.{Stand}
use Rattle.feature_machine.specs.declared.stands.Stand.TheVariants.{Stable, Changing, Unstable}
use Rattle.feature_machine.specs.declared.judging.Proposal.{Proposal}
use Rattle.feature_machine.specs.declared.judging.Proposal.TheVariants as p
use Rattle.feature_machine.specs.declared.row.Row.{Row}
use Rattle.feature_machine.specs.Rows as machine
use Rattle.feature_machine.specs.Rows.{row_step, row_line, Proposed, is_server_priority, width, entries, reconciled_by, confirm_body, holding, proposal, shared_or_not, tells_value, is_there}
use Rattle.feature_machine.specs.Sound.{IsSoundRow}
use Rattle.two_ends.specs.FeatureView.FeatureNews.{Change}
use Rattle.two_ends.specs.FeatureRows.{entries_of, change_in, is_whole_confirm, is_whole_by, is_valid_by, is_valid_change, change_data}
use Rattle.feature_machine.specs.Negotiating.{opposite}
use Rattle.two_ends.proofs.OfFeatures.RowFacts.{permitted_fits, reads_back}

opposite_here : (at : Place) → opposite at ≡ place.Here → at ≡ place.There
opposite_here place.There is = refl
opposite_here place.Here is = absurd (cc is)

same_is : (number : ℕ) → (number == number && true) ≡ true
same_is number = grind arith

same_reply : (one other : List ℕ) → machine.Confirms one ≡ machine.Confirms other → one ≡ other
same_reply one other is = cc

-- a permitted value is permitted as the peer sees the feature
permitted_there : (feature : Feature) (value : ℕ) → (described feature).is_server_priority ≡ false
    → is_permitted feature place.Here value ≡ true → is_permitted feature place.There value ≡ true
permitted_there f.SequenceWindow value told permitted = permitted
permitted_there f.AckRatio value told permitted = permitted
permitted_there _ value told permitted = absurd (true≢false told)

-- what a number among the wishes is
record IsNumberWish (feature : Feature) (at : Place) (number : ℕ) : Type 0 where
  told : (described feature).is_server_priority ≡ false
  here : at ≡ place.Here
  permitted : is_permitted feature place.Here number ≡ true

number_wish : (feature : Feature) (at : Place) (number : ℕ) → is_wish feature at (wanted.Number number) ≡ true
    → IsNumberWish feature at number
number_wish feature place.Here number is = record { told = grind arith; here = refl; permitted = grind arith }
number_wish feature place.There number is = absurd (grind arith)

list_wish : (feature : Feature) (at : Place) (list : List ℕ) → is_wish feature at (wanted.List list) ≡ true
    → (described feature).is_server_priority ≡ true
list_wish feature at list is = grind arith

list_filled : (feature : Feature) (at : Place) (list : List ℕ) → is_wish feature at (wanted.List list) ≡ true → 1 ≤ length list
list_filled feature at list is = grind arith

-- a Change's data carry the wish that they were made of
pub change_carries : (feature : Feature) (at : Place) (wish : Wanted) → is_wish feature at wish ≡ true
    → change_in feature (change_data feature wish) ≡ Change (entries_of (Some wish))
change_carries feature at (wanted.List list) is = rw (list_wish feature at list is)
change_carries feature at (wanted.Number number) is =
    let wish : IsNumberWish feature at number = number_wish feature at number is in
    let same : big_number (described feature).width (big_bytes (described feature).width number) ≡ number =
    reads_back (described feature).width number (permitted_fits feature place.Here number wish.told wish.permitted) in
    rw (wish.told, same)

shared_valid : (found : Option ℕ) → shared_or_not found ≡ p.Invalid → ⊥
shared_valid None invalid = cc
shared_valid (Some value) invalid = cc

list_valid : (row : Row) (list : List ℕ) → is_server_priority row ≡ true → 1 ≤ length list
    → proposal row list ≡ p.Invalid → ⊥
list_valid row [] priority filled invalid = absurd (omega arith)
list_valid row (value ∷ rest) priority filled invalid =
    shared_valid (reconciled_by row.role (entries row.active) (value ∷ rest)) (rw priority at invalid)

told_valid : (row : Row) (body : List ℕ) → is_server_priority row ≡ false → tells_value row body ≡ true
    → proposal row body ≡ p.Invalid → ⊥
told_valid row body told tells invalid = grind arith

number_tells : (row : Row) (number : ℕ) → IsNumberWish row.feature (opposite row.place) number
    → tells_value row (big_bytes (width row) number) ≡ true
number_tells row number wish =
    let same : big_number (width row) (big_bytes (width row) number) ≡ number =
    reads_back (width row) number (permitted_fits row.feature place.Here number wish.told wish.permitted) in
    let there : row.place ≡ place.There = opposite_here row.place wish.here in
    let permitted : is_permitted row.feature place.There number ≡ true = permitted_there row.feature number wish.told wish.permitted in
    let long : length (big_bytes (width row) number) ≡ width row = length-bytes_high_first (width row) number in
    rw (there, long, same, permitted) (same_is (width row))

-- a wish of the peer is valid here
pub change_valid : (row : Row) (wish : Wanted) → is_wish row.feature (opposite row.place) wish ≡ true
    → proposal row (change_data row.feature wish) ≡ p.Invalid → ⊥
change_valid row (wanted.List list) is =
    list_valid row list (list_wish row.feature (opposite row.place) list is) (list_filled row.feature (opposite row.place) list is)
change_valid row (wanted.Number number) is =
    let wish : IsNumberWish row.feature (opposite row.place) number = number_wish row.feature (opposite row.place) number is in
    told_valid row (big_bytes (width row) number) wish.told (number_tells row number wish)

-- what a sound row confirms is whole
filled_entries : (row : Row) → IsSoundRow row → is_server_priority row ≡ true → 1 ≤ length (entries row.active)
filled_entries row sound priority = grind arith

whole_list : (value : ℕ) (list : List ℕ) → 1 ≤ length list → is_whole_by true (value ∷ list) ≡ true
whole_list value [] filled = absurd (omega arith)
whole_list value (first ∷ rest) filled = refl

whole_bytes : (bytes : List ℕ) → 1 ≤ length bytes → is_whole_by false bytes ≡ true
whole_bytes [] filled = absurd (omega arith)
whole_bytes (byte ∷ bytes) filled = refl

some_width : (feature : Feature) → 1 ≤ (described feature).width
some_width feature = grind arith

whole_body : (row : Row) (value : ℕ) → IsSoundRow row → is_whole_confirm row.feature (confirm_body (holding row value)) ≡ true
whole_body row value sound = by_rule (is_server_priority row) refl
  where
    by_rule : (priority : Bool) → is_server_priority row ≡ priority
        → is_whole_by priority (if priority then value ∷ entries row.active else big_bytes (width row) value) ≡ true
    by_rule true is = whole_list value (entries row.active) (filled_entries row sound is)
    by_rule false is =
        let long : length (big_bytes (width row) value) ≡ width row = length-bytes_high_first (width row) value in
        let some : 1 ≤ width row = some_width row.feature in
        whole_bytes (big_bytes (width row) value) (omega arith)

-- the Confirm of a valid Change is whole
pub confirm_whole : (row : Row) (body reply : List ℕ) (mandatory : Bool) → IsSoundRow row → (proposal row body ≡ p.Invalid → ⊥)
    → (row_step row (machine.Change body mandatory)).answer ≡ machine.Confirms reply → is_whole_confirm row.feature reply ≡ true
confirm_whole row body reply mandatory sound = by_line row.stand (proposal row body) mandatory
  where
    said : (value : ℕ) → machine.Confirms (confirm_body (holding row value)) ≡ machine.Confirms reply → is_whole_confirm row.feature reply ≡ true
    said value is =
        subst (λ bytes. is_whole_confirm row.feature bytes ≡ true) (same_reply (confirm_body (holding row value)) reply is) (whole_body row value sound)

    by_line : (stand : Stand) (proposed : Proposal) (mandatory : Bool) → (proposed ≡ p.Invalid → ⊥)
        → (row_line row stand (Proposed proposed mandatory)).answer ≡ machine.Confirms reply → is_whole_confirm row.feature reply ≡ true
    by_line stand p.Invalid mandatory valid is = absurd (valid refl)
    by_line Unstable (p.Shared value) mandatory valid is = absurd (cc is)
    by_line Stable (p.Shared value) mandatory valid is = said value is
    by_line Stable p.Unshared false valid is = said row.value is
    by_line Stable p.Unshared true valid is = absurd (cc is)
    by_line Stable (p.Told value) mandatory valid is = said value is
    by_line Changing (p.Shared value) mandatory valid is = said value is
    by_line Changing p.Unshared false valid is = said row.value is
    by_line Changing p.Unshared true valid is = absurd (cc is)
    by_line Changing (p.Told value) mandatory valid is = said value is
    by_line Unstable _ mandatory valid is = absurd (cc is)

-- what a wish is made into is valid, by its sender's place
pub wish_valid : (feature : Feature) (at : Place) (wish : Wanted) → is_wish feature at wish ≡ true
    → is_valid_change feature at (change_data feature wish) ≡ true
wish_valid feature at (wanted.List list) is =
    let priority : (described feature).is_server_priority ≡ true = list_wish feature at list is in
    let filled : 1 ≤ length list = list_filled feature at list is in
    let some : nat_le 1 (length list) ≡ true = grind arith in
    rw priority some
wish_valid feature at (wanted.Number number) is =
    let wish : IsNumberWish feature at number = number_wish feature at number is in
    let same : big_number (described feature).width (big_bytes (described feature).width number) ≡ number =
    reads_back (described feature).width number (permitted_fits feature place.Here number wish.told wish.permitted) in
    let long : length (big_bytes (described feature).width number) ≡ (described feature).width =
    length-bytes_high_first (described feature).width number in
    rw (wish.told, wish.here, long, same, wish.permitted) (same_is (described feature).width)

-- both places of a feature that is not negotiable have one range
one_range : (feature : Feature) (value : ℕ) → (described feature).is_server_priority ≡ false
    → is_permitted feature place.There value ≡ is_permitted feature place.Here value
one_range f.SequenceWindow value told = refl
one_range f.AckRatio value told = refl
one_range _ value told = absurd (true≢false told)

-- a value is told to a row exactly by what is valid at the other place
valid_tells : (row : Row) (body : List ℕ) → is_server_priority row ≡ false
    → tells_value row body ≡ is_valid_by false row.feature (opposite row.place) body
valid_tells row body told = by_place row.place
  where
    by_place : (at : Place)
        → (is_there at && length body == width row && is_permitted row.feature at (big_number (width row) body))
        ≡ is_valid_by false row.feature (opposite at) body
    by_place place.Here = refl
    by_place place.There =
        ap (λ permitted. length body == width row && permitted) (one_range row.feature (big_number (width row) body) told)

priority_understood : (row : Row) (body : List ℕ) → is_server_priority row ≡ true
    → (nat_le 1 (length body) ≡ true) ↔ (proposal row body ≡ p.Invalid → ⊥)
priority_understood row [] priority = (λ is. absurd (cc is), λ valid. absurd (valid (rw priority refl)))
priority_understood row (value ∷ rest) priority =
    (λ is. list_valid row (value ∷ rest) priority (omega arith), λ valid. (grind arith))

told_understood : (row : Row) (body : List ℕ) → is_server_priority row ≡ false
    → (tells_value row body ≡ true) ↔ (proposal row body ≡ p.Invalid → ⊥)
told_understood row body told = (told_valid row body told, λ valid. by_told (tells_value row body) refl valid)
  where
    by_told : (tells : Bool) → tells_value row body ≡ tells → (proposal row body ≡ p.Invalid → ⊥) → tells ≡ true
    by_told true is valid = refl
    by_told false is valid = absurd (valid (rw (told, is) refl))

pub change_understood : (row : Row) (body : List ℕ)
    → (is_valid_change row.feature (opposite row.place) body ≡ true) ↔ (proposal row body ≡ p.Invalid → ⊥)
change_understood row body = by_rule (is_server_priority row) refl
  where
    by_rule : (priority : Bool) → is_server_priority row ≡ priority
        → (is_valid_by priority row.feature (opposite row.place) body ≡ true) ↔ (proposal row body ≡ p.Invalid → ⊥)
    by_rule true is = priority_understood row body is
    by_rule false is =
        subst (λ valid. (valid ≡ true) ↔ (proposal row body ≡ p.Invalid → ⊥)) (valid_tells row body is) (told_understood row body is)
