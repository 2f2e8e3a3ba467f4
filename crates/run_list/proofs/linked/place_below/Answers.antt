use Rattle.std.proofs.Common.{◌≡◌, ap, arith}
use Rattle.seq_circle.specs.Circle.{distance}
use Rattle.run_list.specs.declared.nodes.Node.{Node}
use Rattle.run_list.specs.Nodes.{all_nodes, node_at}
use Rattle.run_list.proofs.Links.{at_is_made}
use Rattle.run_list.proofs.Places.{place_falls, below_step}
use Rattle.run_list.proofs.linked.place_below.Goals as goal

pub get-node-requires : goal.get-node-requires
get-node-requires c =
    at_is_made (all_nodes c.args.runs.now.nodes) c.args.runs.now.first c.args.runs.now.free c.loop-at.before c.loop-at.at c.requires.linked
    c.loop-at.invariant.place c.loop-at-test.true

pub loop-at-smaller : goal.loop-at-smaller
loop-at-smaller c =
    let read : c.get-node.result ≡ node_at (all_nodes c.args.runs.now.nodes) c.loop-at.at = c.get-node.ensures in
    rw (ap (λ (n : Node). n.next) read)
    (place_falls (all_nodes c.args.runs.now.nodes) c.args.runs.now.first c.loop-at.before c.loop-at.at c.loop-at.invariant.place c.requires.linked.size c.loop-at-test.true)

pub loop-at-preserved : goal.loop-at-preserved
loop-at-preserved c =
    let read : c.get-node.result ≡ node_at (all_nodes c.args.runs.now.nodes) c.loop-at.at = c.get-node.ensures in
    let hi : distance c.args.floor c.get-node.result.hi ≡ distance c.args.floor (node_at (all_nodes c.args.runs.now.nodes) c.loop-at.at).hi =
    ap (λ (n : Node). distance c.args.floor n.hi) read in
    let step = below_step c.args.floor c.distance-rise.result (all_nodes c.args.runs.now.nodes) c.args.runs.now.first c.loop-at.before c.loop-at.at c.loop-at.invariant.place c.loop-at-test.true
    (omega arith) in
    rw (ap (λ (n : Node). n.next) read) record { place = step.0; kept = step.1 }
