use Rattle.std.proofs.Common.{ap, sym, ◌∙◌, Bool, None, if◌then◌else◌}
use Rattle.dccp_listener.specs.Peers.{end_of_peer}
use Rattle.dccp_listener.proofs.Searching.{others_found, own_found, value_gone}
use Rattle.dccp_listener.proofs.flows.PeerList+Endpoint+Kinds.settle.Goals as goal

pub returns-then-over-clause-own : goal.returns-then-over-clause-own
returns-then-over-clause-own c =
    own_found c.args.peer None c.args.self.now c.remove.new.self
    (value_gone c.args.peer c.args.self.now c.remove.new.self c.remove.ensures.ordered c.remove.ensures.entries).1
    ∙ sym (ap (λ (over : Bool). if over then None else end_of_peer c.args.self.now c.args.peer) c.if-over.true)

pub returns-then-over-clause-others : goal.returns-then-over-clause-others
returns-then-over-clause-others c =
    others_found c.args.peer None c.args.self.now c.remove.new.self
    (value_gone c.args.peer c.args.self.now c.remove.new.self c.remove.ensures.ordered c.remove.ensures.entries).1
