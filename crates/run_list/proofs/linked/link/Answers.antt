use Rattle.std.proofs.Common.{◌<◌, ◌-◌, ◌∙◌, List, ◌∷◌, length, set, subst, refl, arith, rules}
use Rattle.run_list.specs.declared.walking.Stretch.{Stretch}
use Rattle.run_list.specs.declared.nodes.Node.{Node}
use Rattle.seq_circle.specs.Circle.{distance}
use Rattle.run_list.specs.Stretches.{stretch}
use Rattle.run_list.specs.Runs.{AreLaid, bound_after}
use Rattle.run_list.specs.Linked.{runs_at, Points, runs_from, linked_runs}
use Rattle.run_list.specs.Nodes.{all_nodes}
use Rattle.std.proofs.lemmas.List.{length-set}
use Rattle.run_list.proofs.Fresh.{free_is_next}
use Rattle.run_list.proofs.Laid.{adds_alone}
use Rattle.run_list.proofs.Paths.{last-fits}
use Rattle.run_list.proofs.Links.{link_room, before_is_made, link_linked, place_runs, rest_runs, adds_runs}
use Rattle.run_list.proofs.linked.link.Goals as goal

pub after-runs-requires : goal.after-runs-requires
after-runs-requires c =
    link_room c.args.floor c.args.n (all_nodes c.args.runs.now.nodes) c.args.runs.now.first c.args.runs.now.free c.args.before c.args.at
    c.requires.linked c.requires.place.place (search rules) (search rules) c.requires.laid c.requires.place.above c.requires.below

pub make-requires-clause-within : goal.make-requires-clause-within
make-requires-clause-within c =
    link_room c.args.floor c.args.n (all_nodes c.args.runs.now.nodes) c.args.runs.now.first c.args.runs.now.free c.args.before c.args.at
    c.requires.linked c.requires.place.place (search rules) (search rules) c.requires.laid c.requires.place.above c.requires.below

pub make-requires-clause-next : goal.make-requires-clause-next
make-requires-clause-next c =
    let room : c.args.runs.now.free < 1024 =
    link_room c.args.floor c.args.n (all_nodes c.args.runs.now.nodes) c.args.runs.now.first c.args.runs.now.free c.args.before c.args.at
    c.requires.linked c.requires.place.place (search rules) (search rules) c.requires.laid c.requires.place.above c.requires.below in
    free_is_next c.args.runs.now.nodes c.args.runs.now.first c.args.runs.now.free c.requires.linked room

pub point-requires-clause-size : goal.point-requires-clause-size
point-requires-clause-size c =
    rw c.make.ensures.all (length-set (all_nodes c.args.runs.now.nodes) c.args.runs.now.free (record { hi = c.args.n; count = 1; next = c.args.at })
    ∙ c.requires.linked.size)

pub point-requires-clause-made : goal.point-requires-clause-made
point-requires-clause-made c =
    λ h. (let made = before_is_made (all_nodes c.args.runs.now.nodes) c.args.runs.now.first c.args.runs.now.free c.args.before c.args.at c.requires.linked
    c.requires.place.place h in omega (arith, c.make.ensures.more))

pub point-requires-clause-within : goal.point-requires-clause-within
point-requires-clause-within c =
    last-fits (all_nodes c.args.runs.now.nodes) c.args.runs.now.first c.args.at c.args.before c.requires.place.place.passed c.requires.place.place.passed_path
    c.requires.place.place.last

pub returns-clause-linked : goal.returns-clause-linked
returns-clause-linked c =
    let nodes = all_nodes c.args.runs.now.nodes in
    let free = c.args.runs.now.free in
    let room : free < 1024 = link_room c.args.floor c.args.n nodes c.args.runs.now.first free c.args.before c.args.at
    c.requires.linked c.requires.place.place (search rules) (search rules) c.requires.laid c.requires.place.above c.requires.below in
    let node : Node = record { hi = c.args.n; count = 1; next = c.args.at } in
    let points : Points (set nodes free node) (all_nodes c.point.new.runs.nodes) c.args.runs.now.first c.point.new.runs.first c.args.before free =
    rw c.make.ensures.all at c.point.ensures.points in
    rw (c.point.ensures.free, c.after-runs.ensures)
    (link_linked nodes (all_nodes c.point.new.runs.nodes) c.args.runs.now.first c.point.new.runs.first free c.args.before c.args.at
    (length c.point.new.runs.nodes) node c.requires.linked c.requires.place.place room refl points (omega (arith, c.make.ensures.more, c.point.ensures.made))
    (omega (arith, c.make.ensures.made, c.point.ensures.made))).0

pub returns-clause-adds : goal.returns-clause-adds
returns-clause-adds c =
    let nodes = all_nodes c.args.runs.now.nodes in
    let free = c.args.runs.now.free in
    let first = c.args.runs.now.first in
    let place = c.requires.place.place in
    let room : free < 1024 = link_room c.args.floor c.args.n nodes first free c.args.before c.args.at
    c.requires.linked place (search rules) (search rules) c.requires.laid c.requires.place.above c.requires.below in
    let node : Node = record { hi = c.args.n; count = 1; next = c.args.at } in
    let points : Points (set nodes free node) (all_nodes c.point.new.runs.nodes) first c.point.new.runs.first c.args.before free =
    rw c.make.ensures.all at c.point.ensures.points in
    let P : List Stretch → Type 0 = λ ts. AreLaid c.args.floor (distance c.args.floor c.args.n - 1) ts in
    adds_runs c.args.floor c.args.n (runs_at nodes place.passed) (runs_at nodes place.rest) (stretch c.args.n 1 ∷ runs_at nodes place.rest)
    (runs_from nodes first) (linked_runs c.point.new.runs) (search rules)
    (place_runs nodes first c.args.before c.args.at place c.requires.linked.size)
    (link_linked nodes (all_nodes c.point.new.runs.nodes) first c.point.new.runs.first free c.args.before c.args.at (length c.make.new.self) node
    c.requires.linked place room refl points c.make.ensures.more c.make.ensures.made).1
    c.requires.laid c.requires.place.above
    (adds_alone c.args.floor (bound_after c.args.floor 2048 (runs_at nodes place.passed)) c.args.n (runs_at nodes place.rest) (search rules) (search rules)
    c.requires.place.above (subst P (rest_runs nodes first c.args.before c.args.at place c.requires.linked.size) c.requires.below))
