-- A set of sequence numbers as a side's marks: numbers go up from the peer's ISS as counts do (own).
use Rattle.std.specs.Prelude.{◌≡◌, ℕ, ◌^◌, ◌<◌, ◌≤◌, Bool}
use Rattle.seq_circle.specs.Counts.{number_of}
use Rattle.run_list.specs.MarkedSet.{MarkedSet, IsSound, has}
use Rattle.two_ends.specs.MarkView.{MarkSide}

-- Its floor has the number of the marks' floor, and of the peer's first 2^47 packets it has the numbers of those that
-- are marked.
pub record AreMarks (iss : ℕ) (set : MarkedSet) (floor : ℕ) (marked : ℕ → Bool) : Type 0 where
  pub iss_fits : iss < 2 ^ 48
  pub is_sound : IsSound set
  pub floor_some : 1 ≤ floor
  pub floor_early : floor ≤ 2 ^ 47
  pub floor_is : set.floor ≡ number_of iss floor
  pub marks_are : (n : ℕ) → 1 ≤ n → n ≤ 2 ^ 47 → has set.numbers (number_of iss n) ≡ marked n

-- the set is the side's
abbrev pub IsMarked : ℕ → MarkedSet → MarkSide → Type 0
IsMarked iss set side = AreMarks iss set side.floor side.marked
