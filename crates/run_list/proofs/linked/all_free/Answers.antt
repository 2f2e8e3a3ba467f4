use Rattle.std.proofs.Common.{List, ap, length, refl}
use Rattle.run_list.specs.declared.nodes.Node.{Node}
use Rattle.run_list.proofs.Fresh.{none_made}
use Rattle.run_list.proofs.linked.all_free.Goals as goal

pub returns-clause-linked : goal.returns-clause-linked
returns-clause-linked c = (none_made c.in_ok-nodes.nodes 1024 0 (ap (λ (ns : List Node). length ns) c.in_ok-nodes.ensures) refl refl).0

pub returns-clause-empty : goal.returns-clause-empty
returns-clause-empty c = (none_made c.in_ok-nodes.nodes 1024 0 (ap (λ (ns : List Node). length ns) c.in_ok-nodes.ensures) refl refl).1
