use Rattle.std.proofs.Common.{◌≡◌, length}
use Rattle.run_list.specs.Nodes.{all_nodes}
use Rattle.run_list.specs.Linked.{IsParted, runs_from, linked_runs}
use Rattle.run_list.proofs.linked.release.Given as goal

abbrev pub invariant-loop-at : goal.invariant-loop-at
invariant-loop-at l = record {
  parted : IsParted (all_nodes l.runs.nodes) l.runs.first l.runs.free l.at (length l.runs.nodes);
  stays : linked_runs l.runs ≡ linked_runs l.fn.runs;
}

abbrev pub decreases-loop-at : goal.decreases-loop-at
decreases-loop-at l = length (runs_from (all_nodes l.runs.nodes) l.at)
