use Rattle.std.proofs.Common.{◌≡◌, filter, vec_len, vec_capacity}
use Rattle.run_list.specs.MarkedSet.{is_from}
use Rattle.run_list.specs.Runs.{AreLaid, numbers_of}
use Rattle.run_list.proofs.plain_edits.cut.Given as goal

abbrev pub invariant-loop-last : goal.invariant-loop-last
invariant-loop-last l = record {
  laid : AreLaid l.floor 2048 l.runs.items;
  room : vec_capacity l.runs ≡ vec_capacity l.fn.runs;
  numbers : filter (is_from l.fn.to) (numbers_of l.runs.items) ≡ filter (is_from l.fn.to) (numbers_of l.fn.runs.items);
}

abbrev pub decreases-loop-last : goal.decreases-loop-last
decreases-loop-last l = vec_len l.runs
