use Rattle.std.proofs.Common.{◌≡◌, length}
use Rattle.std.specs.List.{list_any}
use Rattle.data_dropped.specs.Reports.{drop_options}
use Rattle.dccp_uses.specs.Notice.{is_slow_option}
use Rattle.dccp_uses.proofs.notice.say_anything.Given as goal

abbrev pub invariant-loop-item : goal.invariant-loop-item
invariant-loop-item l =
    record {
      slow : list_any is_slow_option l.options ≡ list_any is_slow_option l.fn.options;
      drops : drop_options l.options ≡ drop_options l.fn.options;
    }

abbrev pub decreases-loop-item : goal.decreases-loop-item
decreases-loop-item l = length l.options
