use Rattle.std.proofs.Common.{◌≡◌, length}
use Rattle.data_dropped.specs.Reports.{drop_options}
use Rattle.data_dropped.proofs.report.next_drops.Given as goal

abbrev pub invariant-loop-item : goal.invariant-loop-item
invariant-loop-item l = drop_options l.options ≡ drop_options l.fn.options

abbrev pub decreases-loop-item : goal.decreases-loop-item
decreases-loop-item l = length l.options
