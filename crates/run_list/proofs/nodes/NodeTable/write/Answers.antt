use Rattle.std.proofs.Common.{◌≡◌, List, ap, arith, length}
use Rattle.run_list.specs.declared.nodes.Node.{Node}
use Rattle.run_list.proofs.Fresh.{written-nodes}
use Rattle.run_list.proofs.nodes.NodeTable.write.Goals as goal

pub returns-clause-all : goal.returns-clause-all
returns-clause-all c =
    let long : length c.self.inside.made.items ≡ length c.args.self.now = ap (λ (ns : List Node). length ns) c.self.view_is in
    rw (c.from.ensures, ← c.self.view_is) (written-nodes c.self.inside.made.items c.args.at c.args.node (omega arith))
