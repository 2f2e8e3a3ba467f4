use Rattle.std.proofs.Common.{◌≤◌, ◌-◌, length, drop}
use Rattle.congestion_trait.specs.Walk.{AllOut}
use Rattle.congestion_trait.proofs.walk.unheard_from.Given as goal

abbrev pub invariant-loop-place : goal.invariant-loop-place
invariant-loop-place l = (l.counts.settled ≤ l.place) × (l.place ≤ length l.entries.items) × AllOut (drop l.place l.entries.items)

abbrev pub decreases-loop-place : goal.decreases-loop-place
decreases-loop-place l = length l.entries.items - l.place
