-- The maximal runs of successive numbers of a set, from the newest down (RFC 4340, section 11.4).
use Rattle.std.specs.Prelude.{ℕ, ◌+◌, ◌==◌, List, [], ◌∷◌, if◌then◌else◌}
use Rattle.seq_circle.specs.Circle.{residue}
use Rattle.run_list.specs.declared.walking.Stretch.{Stretch}

-- a run of this many numbers, from its newest down
abbrev pub stretch : ℕ → ℕ → Stretch
stretch hi count = record { hi = hi; count = count }

-- a number above these runs: it extends the first one, or begins a new one
abbrev pub extended_by : ℕ → List Stretch → List Stretch
extended_by n [] = stretch n 1 ∷ []
extended_by n (s ∷ ss) =
    if residue (s.hi + 1) == n then stretch n (s.count + 1) ∷ ss else stretch n 1 ∷ s ∷ ss

-- the maximal runs of numbers that are listed from the newest down
abbrev pub stretches : List ℕ → List Stretch
stretches [] = []
stretches (n ∷ ns) = extended_by n (stretches ns)
