use Rattle.std.proofs.Common.{ap, arith, length, List, not, rules, subst, sym, ◌<◌}
use Rattle.std.specs.BTreeMap.{is_at}
use Rattle.std.specs.VecDeque.{deque_capacity}
use Rattle.server_peers.specs.Queues.{AreTicketsInOrder, ticket_at, ticket_cmp, tickets_at}
use Rattle.server_peers.specs.declared.queue.Ticket.{Ticket}
use Rattle.server_peers.proofs.Tickets.{few_left, without_ordered}
use Rattle.server_peers.proofs.queue.requeue.Goals as goal

pub put-requires-clause-order : goal.put-requires-clause-order
put-requires-clause-order c = subst AreTicketsInOrder (sym c.take.ensures.taken) (without_ordered (ticket_at c.number_of.result) (tickets_at c.args.tickets.now.items) c.requires.order)

pub put-requires-clause-room : goal.put-requires-clause-room
put-requires-clause-room c =
    let room : length (tickets_at c.args.tickets.now.items) < deque_capacity c.args.tickets.now = search rules in
    omega (
      arith,
      ap (λ (l : List Ticket). length l) c.take.ensures.taken,
      few_left (λ other. not (is_at (ticket_cmp (ticket_at c.number_of.result)) other)) (tickets_at c.args.tickets.now.items),
      room,
      c.take.ensures.room,
    )
