use Rattle.std.proofs.Common.{◌≡◌, ◌≤◌, ◌∙◌, List, [], ap, length, sym, arith}
use Rattle.run_list.specs.declared.walking.Stretch.{Stretch}
use Rattle.run_list.specs.Nodes.{all_nodes}
use Rattle.run_list.proofs.Links.{chain_step, chain_stop, chain_fits, chain_is_made}
use Rattle.run_list.proofs.walking.WalkIterator.next.Goals as goal

pub returns-then-self-eq-NONE-clause-steps : goal.returns-then-self-eq-NONE-clause-steps
returns-then-self-eq-NONE-clause-steps c =
    let empty : c.args.self.now ≡ [] = sym c.self.view_is ∙ chain_stop (all_nodes c.self.inside.nodes.now) c.self.inside.at c.self.invariant c.if-self-eq-NONE.true in
    (empty, empty)

pub get-node-requires : goal.get-node-requires
get-node-requires c =
    let fits : c.self.inside.at ≤ 1024 = chain_fits (all_nodes c.self.inside.nodes.now) c.self.inside.at c.self.invariant in
    chain_is_made (all_nodes c.self.inside.nodes.now) c.self.inside.at c.self.invariant (omega arith)

pub invariant_of-self : goal.invariant_of-self
invariant_of-self c =
    let fits : c.self.inside.at ≤ 1024 = chain_fits (all_nodes c.self.inside.nodes.now) c.self.inside.at c.self.invariant in
    rw c.get-node.ensures (chain_step (all_nodes c.self.inside.nodes.now) c.self.inside.at c.self.invariant (omega arith)).0

pub returns-clause-steps : goal.returns-clause-steps
returns-clause-steps c =
    let fits : c.self.inside.at ≤ 1024 = chain_fits (all_nodes c.self.inside.nodes.now) c.self.inside.at c.self.invariant in
    rw c.get-node.ensures (sym c.self.view_is ∙ (chain_step (all_nodes c.self.inside.nodes.now) c.self.inside.at c.self.invariant (omega arith)).1)

pub returns-clause-goes : goal.returns-clause-goes
returns-clause-goes c =
    let shorter = ap (λ (ss : List Stretch). length ss) (returns-clause-steps c) in
    record { on = λ finite. (tt, finite, omega (arith, shorter)); keeps = tt; rests = λ finite. tt }
