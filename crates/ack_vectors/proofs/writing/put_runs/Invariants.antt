use Rattle.std.proofs.Common.{◌≡◌, ◌≤◌, ◌++◌, length}
use Rattle.run_list.specs.Runs.{AreLaid}
use Rattle.ack_vectors.specs.ByRuns.{bytes_by_runs}
use Rattle.ack_vectors.proofs.writing.put_runs.Given as goal

abbrev pub invariant-loop-run : goal.invariant-loop-run
invariant-loop-run g l = record {
  can : (goal.iterator-loop-run g).can_next l.run-iterator;
  finite : (goal.iterator-loop-run g).is_finite l.run-iterator;
  laid : AreLaid l.floor 2048 l.run-iterator;
  fits : length l.out.items ≤ l.room;
  joins : l.out.items ++ bytes_by_runs l.floor l.left l.run-iterator ≡ l.fn.out.items ++ bytes_by_runs l.floor l.fn.left l.fn.runs;
}
