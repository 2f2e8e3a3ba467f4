use Rattle.std.proofs.Common.{ap, arith, is_some, length, List, None, Option, Some, subst, sym, ◌∙◌, ℕ}
use Rattle.std.proofs.lemmas.List.{length-map}
use Rattle.std.specs.VecDeque.{deque_capacity}
use Rattle.std.specs.Map.{lookup}
use Rattle.dccp_listener.proofs.Searching.{own_found, value_put}
use Rattle.dccp_listener.specs.Peers.{is_peer}
use Rattle.dccp_listener.specs.declared.peer.Peer.{Peer}
use Rattle.server_peers.specs.Queues.{AreTicketsInOrder, queued, ticket_at, tickets_at}
use Rattle.server_peers.specs.declared.queue.Ticket.{Ticket}
use Rattle.server_peers.proofs.Tickets.{goes_on, if_some, no_more, stays_ordered}
use Rattle.server_peers.proofs.Among.{none_from}
use Rattle.server_peers.proofs.register.Register.place_for.Goals as goal

pub requeue-requires-clause-order : goal.requeue-requires-clause-order
requeue-requires-clause-order g c =
    subst AreTicketsInOrder (sym (ap tickets_at c.try_reserve.ensures.items))
    (stays_ordered g.V.Moment.moment_of c.self.inside.entries (tickets_at c.self.inside.tickets.items) (deque_capacity c.self.inside.tickets) c.self.invariant)

-- a place for one ticket more than there will be
pub requeue-requires-clause-room : goal.requeue-requires-clause-room
requeue-requires-clause-room g c =
    if_some c.moment.result
    (omega (
      arith,
      c.in-Ok.ensures.ok,
      c.try_reserve.ensures.len,
      c.len-more.ensures,
      ap (λ (l : List ℕ). length l) c.try_reserve.ensures.items,
      length-map c.try_reserve.new.self.items ticket_at,
      length-map c.self.inside.tickets.items ticket_at,
      c.self.inside.tickets.ok.0,
      ap (λ (l : List Ticket). length l) c.self.invariant.is_queue,
      no_more g.V.Moment.moment_of c.self.inside.entries,
    ))

pub invariant_of-self-2 : goal.invariant_of-self-2
invariant_of-self-2 g c =
    let put = value_put c.args.peer c.self.inside.entries c.insert.new.self c.args.fresh c.self.invariant.ordered c.in_ok-insert.ensures.entries in
    goes_on g.V.Moment.moment_of c.self.inside.entries c.insert.new.self (tickets_at c.self.inside.tickets.items) (tickets_at c.requeue.new.tickets.items)
    (deque_capacity c.self.inside.tickets) (deque_capacity c.requeue.new.tickets) c.args.peer None (Some c.args.fresh) c.self.invariant put.0
    (none_from _ (ap (λ (es : List (Peer × g.row.V.Denot)). is_some (lookup (is_peer c.args.peer) es)) c.self.view_is ∙ sym c.has.ensures ∙ c.if-has.false)) put.1
    (c.requeue.ensures.moved
    ∙ ap (λ (m : Option (ℕ × ℕ)). queued m c.args.peer (tickets_at c.try_reserve.new.self.items)) c.moment.ensures
    ∙ ap (λ (l : List ℕ). queued (g.V.Moment.moment_of c.args.fresh) c.args.peer (tickets_at l)) c.try_reserve.ensures.items)
    (λ some. omega (arith, c.in-Ok.ensures.ok, c.try_reserve.ensures.len, c.len-more.ensures, c.insert.ensures.count, c.requeue.ensures.room))

pub returns-clause-there : goal.returns-clause-there
returns-clause-there g c =
    ap is_some
    (own_found c.args.peer (Some c.args.fresh) c.self.inside.entries c.insert.new.self
    (value_put c.args.peer c.self.inside.entries c.insert.new.self c.args.fresh c.self.invariant.ordered c.in_ok-insert.ensures.entries).1)
