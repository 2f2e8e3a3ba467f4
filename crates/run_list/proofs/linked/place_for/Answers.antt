use Rattle.std.proofs.Common.{◌≡◌, ap, arith}
use Rattle.seq_circle.specs.Circle.{distance}
use Rattle.run_list.specs.declared.nodes.Node.{Node}
use Rattle.run_list.specs.Nodes.{all_nodes, node_at}
use Rattle.run_list.proofs.Links.{at_is_made, place_laid, place_bound}
use Rattle.run_list.proofs.Places.{place_falls, passed_from, passed_step, passed_end}
use Rattle.run_list.proofs.linked.place_for.Goals as goal

pub get-node-requires : goal.get-node-requires
get-node-requires c =
    at_is_made (all_nodes c.args.runs.now.nodes) c.args.runs.now.first c.args.runs.now.free c.loop-at.before c.loop-at.at c.requires.linked
    c.loop-at.invariant.place c.loop-at-test.true

pub loop-at-smaller : goal.loop-at-smaller
loop-at-smaller c =
    let read : c.get-node.result ≡ node_at (all_nodes c.args.runs.now.nodes) c.loop-at.at = c.get-node.ensures in
    rw (ap (λ (n : Node). n.next) read)
    (place_falls (all_nodes c.args.runs.now.nodes) c.args.runs.now.first c.loop-at.before c.loop-at.at c.loop-at.invariant.place c.requires.linked.size c.loop-at-test.true)

pub loop-at-preserved : goal.loop-at-preserved
loop-at-preserved c =
    let read : c.get-node.result ≡ node_at (all_nodes c.args.runs.now.nodes) c.loop-at.at = c.get-node.ensures in
    let hi : distance c.args.floor c.get-node.result.hi ≡ distance c.args.floor (node_at (all_nodes c.args.runs.now.nodes) c.loop-at.at).hi =
    ap (λ (n : Node). distance c.args.floor n.hi) read in
    let count : c.get-node.result.count ≡ (node_at (all_nodes c.args.runs.now.nodes) c.loop-at.at).count = ap (λ (n : Node). n.count) read in
    rw (ap (λ (n : Node). n.next) read)
    (passed_step c.args.floor c.args.n (all_nodes c.args.runs.now.nodes) c.args.runs.now.first c.loop-at.before c.loop-at.at c.loop-at.invariant c.loop-at-test.true (omega arith))

pub loop-at-init : goal.loop-at-init
loop-at-init c =
    passed_from c.args.floor c.args.n (all_nodes c.args.runs.now.nodes) c.args.runs.now.first c.begin-before.result.before c.begin-before.result.at
    c.begin-before.ensures.begins c.requires.near

pub overflow_add-place : goal.overflow_add-place
overflow_add-place c =
    let read : c.get-node.result ≡ node_at (all_nodes c.args.runs.now.nodes) c.loop-at.at = c.get-node.ensures in
    let count : c.get-node.result.count ≡ (node_at (all_nodes c.args.runs.now.nodes) c.loop-at.at).count = ap (λ (n : Node). n.count) read in
    let laid = (place_laid c.args.floor (all_nodes c.args.runs.now.nodes) c.args.runs.now.first c.loop-at.before c.loop-at.at c.loop-at.invariant.place c.requires.linked.size
    c.loop-at-test.true c.requires.laid).0 in
    let bound = place_bound c.args.floor (all_nodes c.args.runs.now.nodes) c.args.runs.now.first c.loop-at.before c.loop-at.at c.loop-at.invariant.place c.requires.linked.size
    c.requires.laid in
    omega (arith, laid.above, laid.below, c.requires.near)

pub returns-after-loop-at : goal.returns-after-loop-at
returns-after-loop-at c =
    record {
      place = passed_end c.args.floor c.args.n (all_nodes c.args.runs.now.nodes) c.args.runs.now.first c.loop-at.before c.loop-at.at c.loop-at.invariant
          (λ h. absurd (omega arith));
    }

pub returns-then-distance-place : goal.returns-then-distance-place
returns-then-distance-place c =
    let read : c.get-node.result ≡ node_at (all_nodes c.args.runs.now.nodes) c.loop-at.at = c.get-node.ensures in
    let hi : distance c.args.floor c.get-node.result.hi ≡ distance c.args.floor (node_at (all_nodes c.args.runs.now.nodes) c.loop-at.at).hi =
    ap (λ (n : Node). distance c.args.floor n.hi) read in
    let count : c.get-node.result.count ≡ (node_at (all_nodes c.args.runs.now.nodes) c.loop-at.at).count = ap (λ (n : Node). n.count) read in
    record { place = passed_end c.args.floor c.args.n (all_nodes c.args.runs.now.nodes) c.args.runs.now.first c.loop-at.before c.loop-at.at c.loop-at.invariant (λ h. omega arith) }
