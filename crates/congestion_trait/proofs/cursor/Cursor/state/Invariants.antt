use Rattle.std.proofs.Common.{◌≤◌, ◌<◌, ◌^◌, length}
use Rattle.dccp_options.specs.Vectors.{states}
use Rattle.congestion_trait.specs.Walk.{IsAt}
use Rattle.congestion_trait.proofs.cursor.Cursor.state.Given as goal

abbrev pub invariant-loop-self : goal.invariant-loop-self
invariant-loop-self l =
    (l.self.start ≤ l.place) × (l.place < 2 ^ 48)
    × IsAt (states l.report.bytes) l.self.start l.self.end l.self.state l.self.left l.self.ended

abbrev pub decreases-loop-self : goal.decreases-loop-self
decreases-loop-self l = length l.self.left
