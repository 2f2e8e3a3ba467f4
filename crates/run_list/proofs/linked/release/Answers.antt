use Rattle.std.proofs.Common.{◌≡◌, ◌∙◌, ap, refl, arith}
use Rattle.run_list.specs.declared.nodes.Node.{Node}
use Rattle.run_list.specs.Nodes.{all_nodes, node_at}
use Rattle.run_list.proofs.Links.{loose_is_made, parted_step, parted_falls, parted_end}
use Rattle.run_list.proofs.linked.release.Goals as goal

pub get-node-requires : goal.get-node-requires
get-node-requires c =
    loose_is_made (all_nodes c.loop-at.runs.nodes) c.loop-at.runs.first c.loop-at.runs.free c.loop-at.at c.loop-at.invariant.parted (omega arith)

pub free-requires : goal.free-requires
free-requires c =
    loose_is_made (all_nodes c.loop-at.runs.nodes) c.loop-at.runs.first c.loop-at.runs.free c.loop-at.at c.loop-at.invariant.parted (omega arith)

pub loop-at-smaller : goal.loop-at-smaller
loop-at-smaller c =
    let nodes = all_nodes c.loop-at.runs.nodes in
    let next : c.get-node.result.next ≡ (node_at nodes c.loop-at.at).next = ap (λ (n : Node). n.next) c.get-node.ensures in
    rw (c.free.ensures.all, next) (parted_falls nodes c.loop-at.runs.first c.loop-at.runs.free c.loop-at.at
    (record { hi = c.get-node.result.hi; count = 0; next = c.loop-at.runs.free }) c.loop-at.invariant.parted (omega arith) refl refl)

pub loop-at-preserved : goal.loop-at-preserved
loop-at-preserved c =
    let nodes = all_nodes c.loop-at.runs.nodes in
    let next : c.get-node.result.next ≡ (node_at nodes c.loop-at.at).next = ap (λ (n : Node). n.next) c.get-node.ensures in
    let step = parted_step nodes c.loop-at.runs.first c.loop-at.runs.free c.loop-at.at
    (record { hi = c.get-node.result.hi; count = 0; next = c.loop-at.runs.free }) c.loop-at.invariant.parted
    (omega arith) refl refl in
    rw (c.free.ensures.all, c.free.ensures.made, c.free.ensures.first, c.free.ensures.free, next)
    record { parted = step.0; stays = step.1 ∙ c.loop-at.invariant.stays }

pub returns-clause-linked : goal.returns-clause-linked
returns-clause-linked c =
    parted_end (all_nodes c.loop-at.runs.nodes) c.loop-at.runs.first c.loop-at.runs.free c.loop-at.at c.loop-at.invariant.parted (omega arith)
