use Rattle.std.proofs.Common.{length}
use Rattle.run_list.specs.Nodes.{all_nodes}
use Rattle.run_list.specs.Linked.{IsPassed, runs_from}
use Rattle.run_list.proofs.linked.place_for.Given as goal

abbrev pub invariant-loop-at : goal.invariant-loop-at
invariant-loop-at l = IsPassed l.fn.floor l.fn.n (all_nodes l.runs.nodes) l.runs.first l.before l.at

abbrev pub decreases-loop-at : goal.decreases-loop-at
decreases-loop-at l = length (runs_from (all_nodes l.runs.nodes) l.at)
