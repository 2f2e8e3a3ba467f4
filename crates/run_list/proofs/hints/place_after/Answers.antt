use Rattle.std.proofs.Common.{◌≡◌, ◌<◌, ap, arith}
use Rattle.seq_circle.specs.Circle.{distance}
use Rattle.run_list.specs.declared.nodes.Node.{Node}
use Rattle.run_list.specs.Nodes.{all_nodes, node_at}
use Rattle.run_list.proofs.Links.{place_after}
use Rattle.run_list.proofs.hints.place_after.Goals as goal

pub returns : goal.returns
returns c =
    let nodes = all_nodes c.args.runs.now.nodes in
    let linked = c.requires.linked in
    let within : c.args.node < 1024 = c.in_ok-run.ensures.within in
    let read : c.in_ok-run.run' ≡ node_at nodes c.args.node = c.in_ok-run.ensures.value in
    let hi : distance c.args.floor c.in_ok-run.run'.hi ≡ distance c.args.floor (node_at nodes c.args.node).hi =
    ap (λ (n : Node). distance c.args.floor n.hi) read in
    let count : c.in_ok-run.run'.count ≡ (node_at nodes c.args.node).count = ap (λ (n : Node). n.count) read in
    rw (ap (λ (n : Node). n.next) read) record {
      place = place_after nodes c.args.runs.now.first c.args.runs.now.free c.args.node linked within (omega arith);
      above = λ h. omega arith;
    }
