use Rattle.std.proofs.Common.{◌≤◌, ◌-◌, length, drop}
use Rattle.dccp_options.specs.Vectors.{state_at}
use Rattle.congestion_trait.specs.Walk.{AllOut, AreReceived}
use Rattle.congestion_trait.proofs.walk.received_to.Given as goal

abbrev pub invariant-loop-place : goal.invariant-loop-place
invariant-loop-place l =
    (l.counts.settled ≤ l.place) × (l.place ≤ length l.entries.items)
    × AllOut (drop l.place l.entries.items)
    × AreReceived (state_at l.report.ack l.report.bytes) l.counts.settled l.place l.entries.items

abbrev pub decreases-loop-place : goal.decreases-loop-place
decreases-loop-place l = length l.entries.items - l.place
