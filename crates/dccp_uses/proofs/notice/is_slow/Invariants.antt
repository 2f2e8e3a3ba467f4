use Rattle.std.proofs.Common.{◌≡◌, length}
use Rattle.std.specs.List.{list_any}
use Rattle.dccp_uses.specs.Notice.{is_slow_option}
use Rattle.dccp_uses.proofs.notice.is_slow.Given as goal

abbrev pub invariant-loop-item : goal.invariant-loop-item
invariant-loop-item l = list_any is_slow_option l.options ≡ list_any is_slow_option l.fn.options

abbrev pub decreases-loop-item : goal.decreases-loop-item
decreases-loop-item l = length l.options
