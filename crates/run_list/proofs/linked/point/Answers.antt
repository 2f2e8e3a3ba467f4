use Rattle.std.proofs.Common.{ap, arith}
use Rattle.run_list.specs.declared.nodes.Node.{Node}
use Rattle.run_list.specs.Linked.{run_of}
use Rattle.run_list.specs.Nodes.{all_nodes}
use Rattle.run_list.proofs.Paths.{points_first, points_after}
use Rattle.run_list.proofs.linked.point.Goals as goal

pub get-node-requires : goal.get-node-requires
get-node-requires c = c.requires.made (omega arith)

pub write-requires : goal.write-requires
write-requires c = c.requires.made (omega arith)

pub returns-then-before-eq-NONE-clause-points : goal.returns-then-before-eq-NONE-clause-points
returns-then-before-eq-NONE-clause-points c = points_first (all_nodes c.args.runs.now.nodes) c.args.runs.now.first c.args.before c.args.to (omega arith)

pub returns-else-before-eq-NONE-clause-points : goal.returns-else-before-eq-NONE-clause-points
returns-else-before-eq-NONE-clause-points c =
    rw c.write.ensures.all (points_after (all_nodes c.args.runs.now.nodes) c.args.runs.now.first c.args.before
    (record { hi = c.get-node.result.hi; count = c.get-node.result.count; next = c.args.to }) c.requires.size (omega arith)
    (ap (λ (n : Node). run_of n) c.get-node.ensures))
