use Rattle.std.proofs.Common.{◌≡◌, length}
use Rattle.dccp_c.specs.Making.{wished_all}
use Rattle.dccp_c.proofs.making.wished_all.Given as goal

abbrev pub invariant-loop-left : goal.invariant-loop-left
invariant-loop-left l = wished_all l.config l.left ≡ wished_all l.fn.config l.wishes

abbrev pub decreases-loop-left : goal.decreases-loop-left
decreases-loop-left l = length l.left
