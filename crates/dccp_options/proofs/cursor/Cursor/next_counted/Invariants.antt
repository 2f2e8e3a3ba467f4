use Rattle.std.proofs.Common.{◌≡◌, ◌≤◌, length}
use Rattle.dccp_options.specs.Left.{counted_left}
use Rattle.dccp_options.proofs.cursor.Cursor.next_counted.Given as goal

abbrev pub invariant-loop-raw : goal.invariant-loop-raw
invariant-loop-raw l =
    (counted_left l.self ≡ counted_left l.fn.self) × (length l.self.rest.now ≤ length l.fn.self.rest.now)

abbrev pub decreases-loop-raw : goal.decreases-loop-raw
decreases-loop-raw l = length l.self.rest.now
