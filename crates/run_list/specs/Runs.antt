-- Runs as they are kept: from the newest down, with a gap between any two.
use Rattle.std.specs.Prelude.{◌≡◌, ℕ, ◌+◌, ◌-◌, ◌^◌, ◌<◌, ◌≤◌, List, [], ◌∷◌, ◌++◌, zero, suc, false, Vec, vec_capacity}
use Rattle.seq_circle.specs.Circle.{distance, down}
use Rattle.run_list.specs.declared.walking.Stretch.{Stretch}
use Rattle.run_list.specs.MarkedSet.{has, with_number}

-- this many numbers, from one down
abbrev pub downwards : ℕ → ℕ → List ℕ
downwards zero hi = []
downwards (suc count) hi = hi ∷ downwards count (down hi 1)

-- the numbers of the runs, in their order
abbrev pub numbers_of : List Stretch → List ℕ
numbers_of [] = []
numbers_of (s ∷ ss) = downwards s.count s.hi ++ numbers_of ss

-- a run has a number, and lies from the floor up and below the bound
pub record IsLaid (floor bound : ℕ) (s : Stretch) : Type 0 where
  pub fits : s.hi < 2 ^ 48
  pub some : 1 ≤ s.count
  pub below : distance floor s.hi < bound
  pub above : s.count ≤ distance floor s.hi + 1

-- how far above the floor the next run has to end, so that a number lies between
abbrev pub bound_below : ℕ → Stretch → ℕ
bound_below floor s = distance floor s.hi - s.count

-- the runs lie below the bound, each below the one before with a gap between
abbrev pub AreLaid : ℕ → ℕ → List Stretch → Type 0
AreLaid floor bound [] = Unit {0}
AreLaid floor bound (s ∷ ss) = IsLaid floor bound s × AreLaid floor (bound_below floor s) ss

-- the bound that is left below the runs
abbrev pub bound_after : ℕ → ℕ → List Stretch → ℕ
bound_after floor bound [] = bound
bound_after floor bound (s ∷ ss) = bound_after floor (bound_below floor s) ss

-- the new runs have one number more than the old, which did not have it
pub record Adds (floor bound n : ℕ) (old new : List Stretch) : Type 0 where
  pub laid : AreLaid floor bound new
  pub fresh : has (numbers_of old) n ≡ false
  pub numbers : numbers_of new ≡ with_number floor n (numbers_of old)

-- the same of runs in a row, among the 2,048 numbers from the floor on
abbrev pub AddsOne : {Z : Type 0} → ℕ → ℕ → Vec Stretch Z → Vec Stretch Z → Type 0
AddsOne floor n old new = Adds floor 2048 n old.items new.items

-- a row of runs has the same room as before
abbrev pub SameRoom : {Z : Type 0} → Vec Stretch Z → Vec Stretch Z → Type 0
SameRoom old new = vec_capacity new ≡ vec_capacity old

-- a number is above the run, is in it, or lies right below it
abbrev pub Touches : ℕ → ℕ → Stretch → Type 0
Touches floor n s = distance floor s.hi ≤ distance floor n + s.count
