-- What a mark and a raise make of a set of numbers is what the moves make of a side's marks.
use Rattle.std.proofs.Common.{◌≡◌, ℕ, ◌-◌, ◌^◌, ◌<◌, ◌≤◌, ◌==◌, ◌&&◌, ◌||◌, Bool, true, false, max, refl, ap, sym, ◌∙◌, arith}
use Rattle.std.proofs.Common.{nat_le}
use Rattle.seq_circle.specs.Counts.{number_of}
use Rattle.run_list.specs.declared.answers.Marked.TheVariants.{New}
use Rattle.run_list.specs.MarkedSet.{MarkedSet, has, is_from, answer_to, marked, raised, empty_from}
use Rattle.run_list.proofs.Sets.{has-marked, has-raised, new_parts, sound-marked, sound-raised}
use Rattle.run_list.proofs.Floors.{marked-count, raised-count}
use Rattle.two_ends.specs.MarkView.{MarkSide, floor_with}
use Rattle.two_ends.specs.MarkMoves as moves
use Rattle.two_ends.specs.MarkSets.{IsMarked}

-- the order and the equality of numbers are those of their counts
pub from-counts : (iss low n : ℕ) → iss < 2 ^ 48 → 1 ≤ low → low ≤ 2 ^ 47 → 1 ≤ n → n ≤ 2 ^ 47
    → is_from (number_of iss low) (number_of iss n) ≡ nat_le low n
from-counts iss low n fits some early others_some others_early = grind arith

pub same-counts : (iss one other : ℕ) → iss < 2 ^ 48 → 1 ≤ one → one ≤ 2 ^ 47 → 1 ≤ other → other ≤ 2 ^ 47
    → (number_of iss one == number_of iss other) ≡ (other == one)
same-counts iss one other fits some early others_some others_early = grind arith

pub number_fits : (iss n : ℕ) → number_of iss n < 2 ^ 48
number_fits iss n = omega arith

inside : (floor count m : ℕ) (known : Bool) → floor ≤ count
    → ((m == count) || (nat_le (floor_with floor count) m && known)) ≡ (nat_le (floor_with floor count) m && ((m == count) || known))
inside floor count m known above = grind arith

module _ (iss : ℕ) (set : MarkedSet) (side : MarkSide) (are : IsMarked iss set side) (n : ℕ) (some : 1 ≤ n) (early : n ≤ 2 ^ 47) where
  from_floor : is_from set.floor (number_of iss n) ≡ nat_le side.floor n
  from_floor =
      ap (λ floor. is_from floor (number_of iss n)) are.floor_is ∙ from-counts iss side.floor n are.iss_fits are.floor_some are.floor_early some early

  -- a mark is New where the move that joins may be made
  pub new_by_counts : answer_to set (number_of iss n) ≡ New → (side.floor ≤ n) × (side.marked n ≡ false)
  new_by_counts new =
      let parts = new_parts set (number_of iss n) new in
      let above : nat_le side.floor n ≡ true = sym from_floor ∙ parts.0 in
      let unmarked : side.marked n ≡ false = sym (are.marks_are n some early) ∙ parts.1 in
      (grind arith, unmarked)

  pub counts_are_new : (side.floor ≤ n) × (side.marked n ≡ false) → answer_to set (number_of iss n) ≡ New
  counts_are_new parts =
      let above : nat_le side.floor n ≡ true = at_or_below side.floor n parts.0 in
      let from : is_from set.floor (number_of iss n) ≡ true = from_floor ∙ above in
      let absent : has set.numbers (number_of iss n) ≡ false = are.marks_are n some early ∙ parts.1 in
      rw (from, absent) refl
    where
      at_or_below : (low high : ℕ) → low ≤ high → nat_le low high ≡ true
      at_or_below low high is = grind arith

  -- the marks with the number that joins
  module _ (new : answer_to set (number_of iss n) ≡ New) where
    joined_floor : (marked set (number_of iss n)).floor ≡ number_of iss (floor_with side.floor n)
    joined_floor = marked-count set iss side.floor n are.iss_fits are.floor_some are.floor_early some early are.floor_is new

    floor_early : floor_with side.floor n ≤ 2 ^ 47
    floor_early = omega (arith, are.floor_early)

    floor_some : 1 ≤ floor_with side.floor n
    floor_some = omega (arith, are.floor_some)

    joined_marks : (m : ℕ) → 1 ≤ m → m ≤ 2 ^ 47
        → has (marked set (number_of iss n)).numbers (number_of iss m) ≡ (nat_le (floor_with side.floor n) m && ((m == n) || side.marked m))
    joined_marks m others_some others_early =
        has-marked set (number_of iss n) (number_of iss m) are.is_sound (number_fits iss n) new
        ∙ ap (λ same. same || (is_from (marked set (number_of iss n)).floor (number_of iss m) && has set.numbers (number_of iss m)))
        (same-counts iss n m are.iss_fits some early others_some others_early)
        ∙ ap (λ from. (m == n) || (from && has set.numbers (number_of iss m)))
        (ap (λ floor. is_from floor (number_of iss m)) joined_floor
        ∙ from-counts iss (floor_with side.floor n) m are.iss_fits floor_some floor_early others_some others_early)
        ∙ ap (λ is_there. (m == n) || (nat_le (floor_with side.floor n) m && is_there)) (are.marks_are m others_some others_early)
        ∙ inside side.floor n m (side.marked m) (new_by_counts new).0

    pub joined_are : IsMarked iss (marked set (number_of iss n)) (moves.with_processed side n)
    joined_are =
        record {
          iss_fits = are.iss_fits;
          is_sound = sound-marked set (number_of iss n) are.is_sound (number_fits iss n);
          floor_some = floor_some;
          floor_early = floor_early;
          floor_is = joined_floor;
          marks_are = joined_marks;
        }

  -- the marks under a raised floor
  raised_floor : (raised set (number_of iss n)).floor ≡ number_of iss (max side.floor n)
  raised_floor = raised-count set iss side.floor n are.iss_fits are.floor_some are.floor_early some early are.floor_is

  raised_marks : (m : ℕ) → 1 ≤ m → m ≤ 2 ^ 47
      → has (raised set (number_of iss n)).numbers (number_of iss m) ≡ (nat_le (max side.floor n) m && side.marked m)
  raised_marks m others_some others_early =
      has-raised set (number_of iss n) (number_of iss m) are.is_sound
      ∙ ap (λ from. from && has set.numbers (number_of iss m))
      (ap (λ floor. is_from floor (number_of iss m)) raised_floor
      ∙ from-counts iss (max side.floor n) m are.iss_fits (omega (arith, are.floor_some)) (omega (arith, are.floor_early)) others_some others_early)
      ∙ ap (λ is_there. nat_le (max side.floor n) m && is_there) (are.marks_are m others_some others_early)

  pub raised_are : IsMarked iss (raised set (number_of iss n)) (moves.with_floor side n)
  raised_are =
      record {
        iss_fits = are.iss_fits;
        is_sound = sound-raised set (number_of iss n) are.is_sound (number_fits iss n);
        floor_some = omega (arith, are.floor_some);
        floor_early = omega (arith, are.floor_early);
        floor_is = raised_floor;
        marks_are = raised_marks;
      }

-- a set that begins at a number
pub begun_shut_are : (iss : ℕ) (side : MarkSide) (n : ℕ) → iss < 2 ^ 48 → 1 ≤ n → n ≤ 2 ^ 47
    → IsMarked iss (empty_from (number_of iss n)) (moves.begun_shut side n)
begun_shut_are iss side n fits some early =
    record {
      iss_fits = fits;
      is_sound = record { floor_fits = number_fits iss n; falling = tt };
      floor_some = some;
      floor_early = early;
      floor_is = refl;
      marks_are = λ m others_some others_early. refl;
    }

pub begun_are : (iss : ℕ) (side : MarkSide) (n : ℕ) → iss < 2 ^ 48 → 1 ≤ n → n ≤ 2 ^ 47
    → IsMarked iss (marked (empty_from (number_of iss n)) (number_of iss n)) (moves.with_first_frame side n)
begun_are iss side n fits some early =
    let empty = begun_shut_are iss side n fits some early in
    let new = counts_are_new iss (empty_from (number_of iss n)) (moves.begun_shut side n) empty n some early (omega arith, refl) in
    let joins = joined_are iss (empty_from (number_of iss n)) (moves.begun_shut side n) empty n some early new in
    record {
      iss_fits = fits;
      is_sound = joins.is_sound;
      floor_some = some;
      floor_early = early;
      floor_is = joins.floor_is ∙ ap (λ floor. number_of iss floor) (same_floor n);
      marks_are = λ m others_some others_early. joins.marks_are m others_some others_early ∙ one_mark n m;
    }
  where
    same_floor : (n : ℕ) → floor_with n n ≡ n
    same_floor n = omega arith

    one_mark : (n m : ℕ) → (nat_le (floor_with n n) m && ((m == n) || false)) ≡ (m == n)
    one_mark n m = grind arith
