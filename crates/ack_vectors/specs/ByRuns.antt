-- A vector's bytes by the runs of its set, as they are written.
use Rattle.std.specs.Prelude.{ℕ, ◌+◌, ◌-◌, List, [], ◌∷◌, ◌++◌, min, nat_lt, if◌then◌else◌}
use Rattle.seq_circle.specs.Circle.{distance}
use Rattle.run_list.specs.declared.walking.Stretch.{Stretch}
use Rattle.ack_vectors.specs.Vector.{pieces}

-- the bytes of this many numbers from the floor up, if these runs are still to come
abbrev pub bytes_by_runs : ℕ → ℕ → List Stretch → List ℕ
bytes_by_runs floor left [] = pieces 3 left
bytes_by_runs floor left (s ∷ ss) =
    let top = distance floor s.hi + 1 in
    let bottom = top - s.count in
    if nat_lt bottom left
    then pieces 3 (left - min top left) ++ (pieces 0 (min top left - bottom) ++ bytes_by_runs floor bottom ss)
    else bytes_by_runs floor left ss
