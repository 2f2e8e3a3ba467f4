use Rattle.std.proofs.Common.{◌≡◌, ◌+◌, ◌-◌, ◌<◌, ◌≤◌, ap, arith, rules}
use Rattle.seq_circle.specs.Circle.{distance}
use Rattle.run_list.specs.declared.nodes.Node.{Node}
use Rattle.run_list.specs.Linked.{IsPlaceFor}
use Rattle.run_list.specs.Nodes.{all_nodes, node_at}
use Rattle.run_list.proofs.Paths.{path-fits}
use Rattle.run_list.proofs.Links.{at_is_made, place_laid, place_bound, below_end, below_far, present_in}
use Rattle.run_list.proofs.linked.put.Goals as goal

pub link-requires-clause-below : goal.link-requires-clause-below
link-requires-clause-below c =
    below_end c.args.floor
    (distance c.args.floor c.args.n - 1) (all_nodes c.args.runs.now.nodes) c.place_for-before.result.at c.requires.linked.size c.if-at-eq-NONE.true

pub get-node-requires : goal.get-node-requires
get-node-requires c =
    let nodes = all_nodes c.args.runs.now.nodes in
    let at = c.place_for-before.result.at in
    let place = c.place_for-before.ensures.place.place in
    let fits : at ≤ 1024 = path-fits nodes at place.rest place.rest_path in
    at_is_made nodes c.args.runs.now.first c.args.runs.now.free c.place_for-before.result.before at c.requires.linked place (omega arith)

pub link-requires-then-hi-place-clause-below : goal.link-requires-then-hi-place-clause-below
link-requires-then-hi-place-clause-below c =
    let nodes = all_nodes c.args.runs.now.nodes in
    let at = c.place_for-before.result.at in
    let place : IsPlaceFor c.args.floor c.args.n nodes c.args.runs.now.first c.place_for-before.result.before at =
    c.place_for-before.ensures.place in
    let fits : at ≤ 1024 = path-fits nodes at place.place.rest place.place.rest_path in
    let read : c.get-node.result ≡ node_at nodes at = c.get-node.ensures in
    let hi : distance c.args.floor c.get-node.result.hi ≡ distance c.args.floor (node_at nodes at).hi =
    ap (λ (n : Node). distance c.args.floor n.hi) read in
    below_far c.args.floor
    (distance c.args.floor c.args.n - 1) nodes c.args.runs.now.first c.place_for-before.result.before at place.place c.requires.linked.size
    (omega arith) c.requires.laid (omega arith)

pub extend_up-requires-clause-within : goal.extend_up-requires-clause-within
extend_up-requires-clause-within c =
    let fits : c.place_for-before.result.at ≤ 1024 =
    path-fits (all_nodes c.args.runs.now.nodes) c.place_for-before.result.at c.place_for-before.ensures.place.place.rest c.place_for-before.ensures.place.place.rest_path in
    omega arith

pub extend_up-requires-clause-right_below : goal.extend_up-requires-clause-right_below
extend_up-requires-clause-right_below c =
    let nodes = all_nodes c.args.runs.now.nodes in
    let at = c.place_for-before.result.at in
    let fits : at ≤ 1024 = path-fits (all_nodes c.args.runs.now.nodes) at c.place_for-before.ensures.place.place.rest c.place_for-before.ensures.place.place.rest_path in
    let read : c.get-node.result ≡ node_at nodes at = c.get-node.ensures in
    let hi : distance c.args.floor c.get-node.result.hi ≡ distance c.args.floor (node_at nodes at).hi =
    ap (λ (n : Node). distance c.args.floor n.hi) read in
    omega arith

pub overflow_add-place : goal.overflow_add-place
overflow_add-place c =
    let nodes = all_nodes c.args.runs.now.nodes in
    let at = c.place_for-before.result.at in
    let before = c.place_for-before.result.before in
    let place : IsPlaceFor c.args.floor c.args.n nodes c.args.runs.now.first before at = c.place_for-before.ensures.place in
    let fits : at ≤ 1024 = path-fits nodes at place.place.rest place.place.rest_path in
    let read : c.get-node.result ≡ node_at nodes at = c.get-node.ensures in
    let count : c.get-node.result.count ≡ (node_at nodes at).count = ap (λ (n : Node). n.count) read in
    let laid = (place_laid c.args.floor nodes c.args.runs.now.first before at place.place c.requires.linked.size (omega arith) c.requires.laid).0 in
    let bound = place_bound c.args.floor nodes c.args.runs.now.first before at place.place c.requires.linked.size c.requires.laid in
    omega (arith, laid.above, laid.below, c.requires.near)

pub extend_down-requires-clause-within : goal.extend_down-requires-clause-within
extend_down-requires-clause-within c =
    let fits : c.place_for-before.result.at ≤ 1024 =
    path-fits (all_nodes c.args.runs.now.nodes) c.place_for-before.result.at c.place_for-before.ensures.place.place.rest c.place_for-before.ensures.place.place.rest_path in
    omega arith

pub extend_down-requires-clause-right_above : goal.extend_down-requires-clause-right_above
extend_down-requires-clause-right_above c =
    let nodes = all_nodes c.args.runs.now.nodes in
    let at = c.place_for-before.result.at in
    let fits : at ≤ 1024 = path-fits (all_nodes c.args.runs.now.nodes) at c.place_for-before.ensures.place.place.rest c.place_for-before.ensures.place.place.rest_path in
    let read : c.get-node.result ≡ node_at nodes at = c.get-node.ensures in
    let hi : distance c.args.floor c.get-node.result.hi ≡ distance c.args.floor (node_at nodes at).hi =
    ap (λ (n : Node). distance c.args.floor n.hi) read in
    let count : c.get-node.result.count ≡ (node_at nodes at).count = ap (λ (n : Node). n.count) read in
    omega arith

pub returns-else-hi-place-3-clause-there : goal.returns-else-hi-place-3-clause-there
returns-else-hi-place-3-clause-there c =
    let nodes = all_nodes c.args.runs.now.nodes in
    let at = c.place_for-before.result.at in
    let before = c.place_for-before.result.before in
    let place : IsPlaceFor c.args.floor c.args.n nodes c.args.runs.now.first before at = c.place_for-before.ensures.place in
    let fits : at ≤ 1024 = path-fits nodes at place.place.rest place.place.rest_path in
    let read : c.get-node.result ≡ node_at nodes at = c.get-node.ensures in
    let hi : distance c.args.floor c.get-node.result.hi ≡ distance c.args.floor (node_at nodes at).hi =
    ap (λ (n : Node). distance c.args.floor n.hi) read in
    let count : c.get-node.result.count ≡ (node_at nodes at).count = ap (λ (n : Node). n.count) read in
    let within : at < 1024 = omega arith in
    let touch : distance c.args.floor (node_at nodes at).hi ≤ distance c.args.floor c.args.n + (node_at nodes at).count = place.touches within in
    present_in c.args.floor c.args.n nodes c.args.runs.now.first before at place.place c.requires.linked.size (search rules)
    (search rules) within c.requires.laid place.above (omega arith) (omega arith)
