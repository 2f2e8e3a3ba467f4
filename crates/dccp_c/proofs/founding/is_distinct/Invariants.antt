use Rattle.std.proofs.Common.{◌≡◌, length}
use Rattle.feature_lists.specs.Lists.{is_distinct}
use Rattle.dccp_c.proofs.founding.is_distinct.Given as goal

-- the list is distinct where what is left of it is
abbrev pub invariant-loop-tail : goal.invariant-loop-tail
invariant-loop-tail l = is_distinct l.tail ≡ is_distinct l.fn.given

abbrev pub decreases-loop-tail : goal.decreases-loop-tail
decreases-loop-tail l = length l.tail
