use Rattle.std.proofs.Common.{◌∙◌, sym, arith}
use Rattle.run_list.specs.Nodes.{all_nodes}
use Rattle.run_list.specs.Linked.{linked_runs}
use Rattle.run_list.proofs.Found.{stretches-numbers_of}
use Rattle.run_list.proofs.Links.{linked_chained}
use Rattle.run_list.proofs.list.RunList.walk.Goals as goal

pub over-requires : goal.over-requires
over-requires c =
    linked_chained (all_nodes c.self.inside.runs.nodes) c.self.inside.runs.first c.self.inside.runs.free c.self.invariant.2

pub returns : goal.returns
returns c =
    rw (← c.self.view_is)
    (c.over.ensures
    ∙ sym (stretches-numbers_of c.self.inside.floor 2048 (linked_runs c.self.inside.runs) c.self.invariant.0
    (omega arith) c.self.invariant.1))
