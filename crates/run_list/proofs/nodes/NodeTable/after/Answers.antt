use Rattle.std.proofs.Common.{ap, sym, arith}
use Rattle.run_list.specs.declared.nodes.Node.{Node}
use Rattle.run_list.proofs.Fresh.{new-node}
use Rattle.run_list.proofs.nodes.NodeTable.after.Goals as goal

pub returns-in-None : goal.returns-in-None
returns-in-None c = sym (ap (λ (n : Node). n.next) (new-node c.args.self.now c.args.at c.in-None.ensures.none (omega arith)))
