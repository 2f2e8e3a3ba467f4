use Rattle.std.specs.VecDeque.{deque_capacity}
use Rattle.server_peers.specs.Queues.{tickets_at}
use Rattle.server_peers.proofs.Tickets.{stays_ordered}
use Rattle.server_peers.proofs.register.Register.count_in.Goals as goal

pub count_in-requires : goal.count_in-requires
count_in-requires g c =
    stays_ordered g.V.Moment.moment_of c.self.inside.entries (tickets_at c.self.inside.tickets.items) (deque_capacity c.self.inside.tickets) c.self.invariant
