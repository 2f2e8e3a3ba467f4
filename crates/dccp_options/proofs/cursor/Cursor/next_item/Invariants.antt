use Rattle.std.proofs.Common.{◌≡◌, length, false}
use Rattle.dccp_options.specs.Left.{entries_left}
use Rattle.dccp_options.proofs.cursor.Cursor.next_item.Given as goal

abbrev pub invariant-loop-raw : goal.invariant-loop-raw
invariant-loop-raw l =
    entries_left l.mandatory l.self ≡ entries_left false l.fn.self

abbrev pub decreases-loop-raw : goal.decreases-loop-raw
decreases-loop-raw l = length l.self.rest.now
