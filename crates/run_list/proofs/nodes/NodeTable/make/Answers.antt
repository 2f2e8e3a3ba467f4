use Rattle.std.proofs.Common.{◌≡◌, List, ap, arith, length}
use Rattle.run_list.specs.declared.nodes.Node.{Node}
use Rattle.run_list.proofs.Fresh.{more-nodes}
use Rattle.run_list.proofs.nodes.NodeTable.make.Goals as goal

pub returns-else-from-len-clause-all : goal.returns-else-from-len-clause-all
returns-else-from-len-clause-all c =
    let long : length c.self.inside.made.items ≡ length c.args.self.now = ap (λ (ns : List Node). length ns) c.self.view_is in
    let at : c.args.at ≡ length c.self.inside.made.items = omega arith in
    rw (c.push_reserved.ensures.items, at, ← c.self.view_is) (more-nodes c.self.inside.made.items c.args.node (omega arith))
