use Rattle.std.proofs.Common.{◌≤◌, ◌-◌, length, take}
use Rattle.congestion_trait.specs.Walk.{AllReported}
use Rattle.congestion_trait.proofs.walk.settled_from.Given as goal

abbrev pub invariant-loop-settled : goal.invariant-loop-settled
invariant-loop-settled l = (l.settled ≤ length l.entries.items) × AllReported (take l.settled l.entries.items)

abbrev pub decreases-loop-settled : goal.decreases-loop-settled
decreases-loop-settled l = length l.entries.items - l.settled
