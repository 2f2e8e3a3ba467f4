use Rattle.std.proofs.Common.{◌≡◌, ◌+◌, ◌-◌, List, ◌∷◌, ap, subst, refl, sym, arith, rules}
use Rattle.seq_circle.specs.Circle.{distance}
use Rattle.run_list.specs.declared.walking.Stretch.{Stretch}
use Rattle.run_list.specs.declared.nodes.Node.{Node}
use Rattle.run_list.specs.Stretches.{stretch}
use Rattle.run_list.specs.Runs.{AreLaid, bound_after, Adds}
use Rattle.run_list.specs.Linked.{run_of, runs_at}
use Rattle.run_list.specs.Nodes.{all_nodes, node_at}
use Rattle.run_list.proofs.Laid.{adds_down, adds_between}
use Rattle.run_list.proofs.Paths.{following}
use Rattle.run_list.proofs.Links.{at_is_made, next_is_made, edit_linked, join_linked, place_laid, place_bound, both_laid, gap_left, below_none, below_parts, adds_place}
use Rattle.run_list.proofs.linked.extend_down.Goals as goal
use Rattle.run_list.proofs.linked.extend_down.Goals.{then-node-lt-NONE+else-distance, else-node-lt-NONE}

pub get-node-requires : goal.get-node-requires
get-node-requires c =
    at_is_made (all_nodes c.args.runs.now.nodes) c.args.runs.now.first c.args.runs.now.free c.args.before c.args.at c.requires.linked c.requires.place.place
    c.requires.within

pub get-below-requires : goal.get-below-requires
get-below-requires c =
    next_is_made (all_nodes c.args.runs.now.nodes) c.args.runs.now.first c.args.runs.now.free c.args.before c.args.at c.get-node.result.next c.requires.linked
    c.requires.place.place c.requires.within (ap (λ (n : Node). n.next) c.get-node.ensures) (omega arith)

pub write-requires : goal.write-requires
write-requires c =
    at_is_made (all_nodes c.args.runs.now.nodes) c.args.runs.now.first c.args.runs.now.free c.args.before c.args.at c.requires.linked c.requires.place.place
    c.requires.within

pub free-requires : goal.free-requires
free-requires c =
    rw c.write.ensures.made
    (next_is_made (all_nodes c.args.runs.now.nodes) c.args.runs.now.first c.args.runs.now.free c.args.before c.args.at c.get-node.result.next c.requires.linked
    c.requires.place.place c.requires.within (ap (λ (n : Node). n.next) c.get-node.ensures) (omega arith))

pub write-requires-2 : goal.write-requires-2
write-requires-2 c =
    at_is_made (all_nodes c.args.runs.now.nodes) c.args.runs.now.first c.args.runs.now.free c.args.before c.args.at c.requires.linked c.requires.place.place
    c.requires.within

pub overflow_add-count : goal.overflow_add-count
overflow_add-count c =
    let nodes = all_nodes c.args.runs.now.nodes in
    let place = c.requires.place.place in
    let read : c.get-node.result ≡ node_at nodes c.args.at = c.get-node.ensures in
    let count : c.get-node.result.count ≡ (node_at nodes c.args.at).count = ap (λ (n : Node). n.count) read in
    let laid = (place_laid c.args.floor nodes c.args.runs.now.first c.args.before c.args.at place c.requires.linked.size c.requires.within c.requires.laid).0 in
    let bound = place_bound c.args.floor nodes c.args.runs.now.first c.args.before c.args.at place c.requires.linked.size c.requires.laid in
    omega (arith, laid.above, laid.below)

pub overflow_add-count-then-distance : goal.overflow_add-count-then-distance
overflow_add-count-then-distance c =
    let nodes = all_nodes c.args.runs.now.nodes in
    let place = c.requires.place.place in
    let next = c.get-node.result.next in
    let read : c.get-node.result ≡ node_at nodes c.args.at = c.get-node.ensures in
    let read_next : c.get-below.result ≡ node_at nodes next = c.get-below.ensures in
    let count : c.get-node.result.count ≡ (node_at nodes c.args.at).count = ap (λ (n : Node). n.count) read in
    let count_next : c.get-below.result.count ≡ (node_at nodes next).count = ap (λ (n : Node). n.count) read_next in
    let laid = both_laid c.args.floor nodes c.args.runs.now.first c.args.before c.args.at next place c.requires.linked.size c.requires.within
    (ap (λ (n : Node). n.next) read) (omega arith) c.requires.laid in
    let bound = place_bound c.args.floor nodes c.args.runs.now.first c.args.before c.args.at place c.requires.linked.size c.requires.laid in
    omega (arith, laid.0.above, laid.0.below, laid.1.0.above, laid.1.0.below)

pub returns-then-distance-clause-linked : goal.returns-then-distance-clause-linked
returns-then-distance-clause-linked c =
    let nodes = all_nodes c.args.runs.now.nodes in
    let next = c.get-node.result.next in
    let read : c.get-node.result ≡ node_at nodes c.args.at = c.get-node.ensures in
    let read_next : c.get-below.result ≡ node_at nodes next = c.get-below.ensures in
    let made : Node = record {
      hi = c.get-node.result.hi;
      count = c.get-node.result.count + 1 + c.get-below.result.count;
      next =
          c.get-below.result.next;
    } in
    let freed : Node = record {
      hi = c.get-below.result.hi;
      count = 0;
      next =
          c.args.runs.now.free;
    } in
    rw (c.free.ensures.all, c.write.ensures.all, c.free.ensures.made, c.write.ensures.made, c.free.ensures.first, c.free.ensures.free)
    (join_linked nodes c.args.runs.now.first c.args.runs.now.free c.args.before c.args.at next made freed
    c.requires.linked c.requires.place.place c.requires.within (ap (λ (n : Node). n.next) read) (omega arith) (ap (λ (n : Node). n.next) read_next) refl refl).0

pub returns-then-distance-clause-adds : goal.returns-then-distance-clause-adds
returns-then-distance-clause-adds c =
    let nodes = all_nodes c.args.runs.now.nodes in
    let first = c.args.runs.now.first in
    let place = c.requires.place.place in
    let next = c.get-node.result.next in
    let read : c.get-node.result ≡ node_at nodes c.args.at = c.get-node.ensures in
    let read_next : c.get-below.result ≡ node_at nodes next = c.get-below.ensures in
    let made : Node = record {
      hi = c.get-node.result.hi;
      count = c.get-node.result.count + 1 + c.get-below.result.count;
      next =
          c.get-below.result.next;
    } in
    let freed : Node = record {
      hi = c.get-below.result.hi;
      count = 0;
      next =
          c.args.runs.now.free;
    } in
    let link : next ≡ (node_at nodes c.args.at).next = ap (λ (n : Node). n.next) read in
    let all = join_linked nodes first c.args.runs.now.free c.args.before c.args.at next made freed
    c.requires.linked place c.requires.within link (omega arith) (ap (λ (n : Node). n.next) read_next) refl refl in
    let laid = both_laid c.args.floor nodes first c.args.before c.args.at next place c.requires.linked.size c.requires.within link
    (omega arith) c.requires.laid in
    let hi : distance c.args.floor c.get-below.result.hi ≡ distance c.args.floor (node_at nodes next).hi =
    ap (λ (n : Node). distance c.args.floor n.hi) read_next in
    let adds = adds_between c.args.floor (bound_after c.args.floor 2048 (runs_at nodes place.passed)) c.args.n (run_of (node_at nodes c.args.at))
    (run_of (node_at nodes next))
    (runs_at nodes (following (following place.rest))) (search rules) (search rules) laid c.requires.right_above (omega arith) in
    let rest = runs_at nodes (following (following place.rest)) in
    let b = bound_after c.args.floor 2048 (runs_at nodes place.passed) in
    let here = run_of (node_at nodes c.args.at) in
    let there = run_of (node_at nodes next) in
    let Q : Node → Type 0 = λ m. Adds c.args.floor b c.args.n (here ∷ there ∷ rest) (stretch m.hi (m.count + 1 + there.count) ∷ rest) in
    let R : Node → Type 0 = λ m. Adds c.args.floor b c.args.n (here ∷ there ∷ rest)
    (stretch c.get-node.result.hi (c.get-node.result.count + 1 + m.count) ∷ rest) in
    rw (c.free.ensures.all, c.write.ensures.all, c.free.ensures.first)
    (adds_place c.args.floor c.args.n nodes first c.args.before c.args.at place
    (run_of made ∷ runs_at nodes (following (following place.rest))) _ c.requires.linked.size (search rules)
    c.requires.within c.requires.laid c.requires.place.above all.1
    (rw (below_parts nodes first c.args.before c.args.at next place c.requires.within link (omega arith)) (subst R (sym read_next) (subst Q (sym read) adds))))

pub overflow_add-count-2 : goal.overflow_add-count-2
overflow_add-count-2 c =
    let nodes = all_nodes c.args.runs.now.nodes in
    let place = c.requires.place.place in
    let read : c.get-node.result ≡ node_at nodes c.args.at = c.get-node.ensures in
    let count : c.get-node.result.count ≡ (node_at nodes c.args.at).count = ap (λ (n : Node). n.count) read in
    let laid = (place_laid c.args.floor nodes c.args.runs.now.first c.args.before c.args.at place c.requires.linked.size c.requires.within c.requires.laid).0 in
    let bound = place_bound c.args.floor nodes c.args.runs.now.first c.args.before c.args.at place c.requires.linked.size c.requires.laid in
    omega (arith, laid.above, laid.below)

pub returns-clause-linked : goal.returns-clause-linked
returns-clause-linked c =
    let nodes = all_nodes c.args.runs.now.nodes in
    let read : c.get-node.result ≡ node_at nodes c.args.at = c.get-node.ensures in
    rw (c.write-2.ensures.all, c.write-2.ensures.made) (edit_linked nodes c.args.runs.now.first c.args.runs.now.free c.args.before c.args.at
    (record { hi = c.get-node.result.hi; count = c.get-node.result.count + 1; next = c.get-node.result.next })
    c.requires.linked c.requires.place.place c.requires.within (ap (λ (n : Node). n.next) read)).0

pub returns-clause-adds : goal.returns-clause-adds
returns-clause-adds c =
    let nodes = all_nodes c.args.runs.now.nodes in
    let first = c.args.runs.now.first in
    let place = c.requires.place.place in
    let next = c.get-node.result.next in
    let read : c.get-node.result ≡ node_at nodes c.args.at = c.get-node.ensures in
    let link : next ≡ (node_at nodes c.args.at).next = ap (λ (n : Node). n.next) read in
    let new : Node = record { hi = c.get-node.result.hi; count = c.get-node.result.count + 1; next = c.get-node.result.next } in
    let laid = place_laid c.args.floor nodes first c.args.before c.args.at place c.requires.linked.size c.requires.within c.requires.laid in
    let P : List Stretch → Type 0 = λ ts. AreLaid c.args.floor (distance c.args.floor c.args.n - 1) ts in
    let below : AreLaid c.args.floor (distance c.args.floor c.args.n - 1) (runs_at nodes (following place.rest)) =
    elim c.if-node-lt-NONE.branch [
      | then-node-lt-NONE+else-distance w ↦
          let read_next : w.get-below.result ≡ node_at nodes next = w.get-below.ensures in
          let hi : distance c.args.floor w.get-below.result.hi ≡ distance c.args.floor (node_at nodes next).hi =
          ap (λ (n : Node). distance c.args.floor n.hi) read_next in
          gap_left c.args.floor c.args.n nodes first c.args.before c.args.at next place c.requires.linked.size c.requires.within link
          (omega arith) c.requires.laid c.requires.right_above
          (λ e. absurd (omega arith))
      | else-node-lt-NONE w ↦ subst P (sym (below_none nodes first c.args.before c.args.at place c.requires.within (omega arith))) tt
    ] in
    let adds = adds_down c.args.floor (bound_after c.args.floor 2048 (runs_at nodes place.passed)) c.args.n (run_of (node_at nodes c.args.at))
    (runs_at nodes (following place.rest))
    (search rules) (search rules) laid c.requires.right_above below in
    let Q : Node → Type 0 = λ m. Adds c.args.floor (bound_after c.args.floor 2048 (runs_at nodes place.passed)) c.args.n
    (run_of (node_at nodes c.args.at) ∷ runs_at nodes (following place.rest)) (stretch m.hi (m.count + 1) ∷ runs_at nodes (following place.rest)) in
    rw c.write-2.ensures.all (adds_place c.args.floor c.args.n nodes first c.args.before c.args.at place
    (run_of new ∷ runs_at nodes (following place.rest)) _ c.requires.linked.size (search rules)
    c.requires.within c.requires.laid c.requires.place.above
    (edit_linked nodes first c.args.runs.now.free c.args.before c.args.at new c.requires.linked place c.requires.within link).1
    (subst Q (sym read) adds))
