use Rattle.std.proofs.Common.{◌≡◌, ◌≤◌, length, take}
use Rattle.dccp_options.specs.Vectors.{state_at, states}
use Rattle.congestion_trait.specs.Walk.{IsAt, IsAlong, AllUntouched}
use Rattle.congestion_trait.proofs.walk.settle.Given as goal

abbrev pub invariant-loop-untouched : goal.invariant-loop-untouched
invariant-loop-untouched l =
    IsAlong (state_at l.report.ack l.report.bytes) l.mark l.fn.entries.items l.index l.entries.items l.walk
    × IsAt (states l.report.bytes) l.cursor.start l.cursor.end l.cursor.state l.cursor.left l.cursor.ended
    × (l.entries.capacity ≡ l.fn.entries.capacity)
    × (l.untouched ≤ l.index)
    × (l.index ≤ length l.fn.entries.items)
    × AllUntouched (state_at l.report.ack l.report.bytes) (take l.untouched l.fn.entries.items)
    × (l.walk.heard ≡ l.heard)

abbrev pub decreases-loop-untouched : goal.decreases-loop-untouched
decreases-loop-untouched l = l.index
