use Rattle.std.proofs.Common.{◌≡◌, ◌+◌, ◌∷◌, ap, subst, sym, arith, rules}
use Rattle.run_list.specs.declared.nodes.Node.{Node}
use Rattle.run_list.specs.Stretches.{stretch}
use Rattle.run_list.specs.Runs.{bound_after, Adds}
use Rattle.run_list.specs.Linked.{run_of, runs_at}
use Rattle.run_list.specs.Nodes.{all_nodes, node_at}
use Rattle.run_list.proofs.Laid.{adds_up}
use Rattle.run_list.proofs.Paths.{following}
use Rattle.run_list.proofs.Links.{at_is_made, edit_linked, place_laid, place_bound, adds_place}
use Rattle.run_list.proofs.linked.extend_up.Goals as goal

pub get-node-requires : goal.get-node-requires
get-node-requires c =
    at_is_made (all_nodes c.args.runs.now.nodes) c.args.runs.now.first c.args.runs.now.free c.args.before c.args.at c.requires.linked c.requires.place.place
    c.requires.within

pub write-requires : goal.write-requires
write-requires c =
    at_is_made (all_nodes c.args.runs.now.nodes) c.args.runs.now.first c.args.runs.now.free c.args.before c.args.at c.requires.linked c.requires.place.place
    c.requires.within

pub overflow_add-count : goal.overflow_add-count
overflow_add-count c =
    let nodes = all_nodes c.args.runs.now.nodes in
    let place = c.requires.place.place in
    let read : c.get-node.result ≡ node_at nodes c.args.at = c.get-node.ensures in
    let count : c.get-node.result.count ≡ (node_at nodes c.args.at).count = ap (λ (n : Node). n.count) read in
    let laid = (place_laid c.args.floor nodes c.args.runs.now.first c.args.before c.args.at place c.requires.linked.size c.requires.within c.requires.laid).0 in
    let bound = place_bound c.args.floor nodes c.args.runs.now.first c.args.before c.args.at place c.requires.linked.size c.requires.laid in
    omega (arith, laid.above, laid.below)

pub returns-clause-linked : goal.returns-clause-linked
returns-clause-linked c =
    let nodes = all_nodes c.args.runs.now.nodes in
    let read : c.get-node.result ≡ node_at nodes c.args.at = c.get-node.ensures in
    rw (c.write.ensures.all, c.write.ensures.made) (edit_linked nodes c.args.runs.now.first c.args.runs.now.free c.args.before c.args.at
    (record { hi = c.args.n; count = c.get-node.result.count + 1; next = c.get-node.result.next }) c.requires.linked c.requires.place.place
    c.requires.within (ap (λ (n : Node). n.next) read)).0

pub returns-clause-adds : goal.returns-clause-adds
returns-clause-adds c =
    let nodes = all_nodes c.args.runs.now.nodes in
    let place = c.requires.place.place in
    let first = c.args.runs.now.first in
    let read : c.get-node.result ≡ node_at nodes c.args.at = c.get-node.ensures in
    let new : Node = record { hi = c.args.n; count = c.get-node.result.count + 1; next = c.get-node.result.next } in
    let laid = place_laid c.args.floor nodes first c.args.before c.args.at place c.requires.linked.size c.requires.within c.requires.laid in
    let adds = adds_up c.args.floor (bound_after c.args.floor 2048 (runs_at nodes place.passed)) c.args.n (run_of (node_at nodes c.args.at))
    (runs_at nodes (following place.rest))
    (search rules) (search rules) c.requires.place.above laid c.requires.right_below in
    let P : Node → Type 0 = λ m. Adds c.args.floor (bound_after c.args.floor 2048 (runs_at nodes place.passed)) c.args.n
    (run_of (node_at nodes c.args.at) ∷ runs_at nodes (following place.rest)) (stretch c.args.n (m.count + 1) ∷ runs_at nodes (following place.rest)) in
    rw c.write.ensures.all (adds_place c.args.floor c.args.n nodes first c.args.before c.args.at place
    (run_of new ∷ runs_at nodes (following place.rest)) _ c.requires.linked.size (search rules)
    c.requires.within c.requires.laid c.requires.place.above
    (edit_linked nodes first c.args.runs.now.free c.args.before c.args.at new c.requires.linked place c.requires.within (ap (λ (n : Node). n.next) read)).1
    (subst P (sym read) adds))
