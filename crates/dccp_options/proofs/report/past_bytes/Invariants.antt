use Rattle.std.proofs.Common.{◌≡◌, ◌≤◌, ◌++◌, ℕ, List, length}
use Rattle.dccp_options.specs.Vectors.{states}
use Rattle.dccp_options.proofs.report.past_bytes.Given as goal

abbrev pub invariant-loop-byte : goal.invariant-loop-byte
invariant-loop-byte l =
    ((passed : List ℕ) × (l.vector ≡ passed ++ l.left) × (l.numbers ≡ length (states passed)))
    × (l.numbers ≤ l.most)

abbrev pub decreases-loop-byte : goal.decreases-loop-byte
decreases-loop-byte l = length l.left
