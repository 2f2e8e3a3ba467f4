use Rattle.std.proofs.Common.{◌<◌, ◌≤◌, length}
use Rattle.seq_circle.specs.Circle.{distance}
use Rattle.run_list.specs.Linked.{IsPlace, runs_from}
use Rattle.run_list.specs.Nodes.{all_nodes, node_at}
use Rattle.run_list.proofs.linked.place_below.Given as goal

abbrev pub invariant-loop-at : goal.invariant-loop-at
invariant-loop-at l = record {
  place : IsPlace (all_nodes l.runs.nodes) l.runs.first l.before l.at;
  kept : l.before < 1024 → l.rise ≤ distance l.floor (node_at (all_nodes l.runs.nodes) l.before).hi;
}

abbrev pub decreases-loop-at : goal.decreases-loop-at
decreases-loop-at l = length (runs_from (all_nodes l.runs.nodes) l.at)
