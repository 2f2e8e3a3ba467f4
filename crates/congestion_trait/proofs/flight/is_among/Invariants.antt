use Rattle.std.proofs.Common.{Contains, ◌↔◌, length}
use Rattle.congestion_trait.proofs.flight.is_among.Given as goal

abbrev pub invariant-loop-newest : goal.invariant-loop-newest
invariant-loop-newest l = Contains l.entries l.entry ↔ Contains l.left l.entry

abbrev pub decreases-loop-newest : goal.decreases-loop-newest
decreases-loop-newest l = length l.left
