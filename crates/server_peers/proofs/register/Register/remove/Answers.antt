use Rattle.std.proofs.Common.{ap, arith, ◌∙◌, None, Option, refl, ℕ}
use Rattle.std.specs.Map.{lookup}
use Rattle.std.specs.VecDeque.{deque_capacity}
use Rattle.dccp_listener.proofs.Searching.{value_gone}
use Rattle.dccp_listener.specs.Peers.{is_peer}
use Rattle.server_peers.specs.Queues.{tickets_at, unqueued}
use Rattle.server_peers.proofs.Tickets.{goes_on, stays_ordered}
use Rattle.server_peers.proofs.register.Register.remove.Goals as goal

pub requeue-requires-clause-order : goal.requeue-requires-clause-order
requeue-requires-clause-order g c =
    stays_ordered g.V.Moment.moment_of c.self.inside.entries (tickets_at c.self.inside.tickets.items) (deque_capacity c.self.inside.tickets) c.self.invariant

pub invariant_of-self : goal.invariant_of-self
invariant_of-self g c =
    let left = value_gone c.args.peer c.self.inside.entries c.remove.new.self c.self.invariant.ordered c.remove.ensures.entries in
    goes_on g.V.Moment.moment_of c.self.inside.entries c.remove.new.self (tickets_at c.self.inside.tickets.items) (tickets_at c.requeue.new.tickets.items)
    (deque_capacity c.self.inside.tickets) (deque_capacity c.requeue.new.tickets) c.args.peer (lookup (is_peer c.args.peer) c.self.inside.entries) None c.self.invariant
    left.0 refl left.1
    (c.requeue.ensures.moved
    ∙ ap (λ (m : Option (ℕ × ℕ)). unqueued m c.args.peer (tickets_at c.self.inside.tickets.items)) c.moment_of-from.ensures)
    (λ some. omega (arith, some, c.remove.ensures.count, c.self.invariant.room (omega (arith, some, c.remove.ensures.count)), c.requeue.ensures.room))
