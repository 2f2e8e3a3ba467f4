use Rattle.std.proofs.Common.{ap, ◌∙◌, ◌≡◌, List, IsSome, rules, true}
use Rattle.std.specs.VecDeque.{deque_capacity}
use Rattle.std.specs.BTreeMap.{insert_entry}
use Rattle.std.specs.Map.{lookup}
use Rattle.dccp_listener.specs.Peers.{is_peer, peer_cmp}
use Rattle.dccp_listener.specs.declared.peer.Peer.{Peer}
use Rattle.server_peers.specs.Queues.{tickets_at}
use Rattle.server_peers.proofs.Tickets.{has_room, if_some, is_some_kept, stays_ordered}
use Rattle.server_peers.proofs.Writing.{queue_moves, queue_stays, written_over}
use Rattle.server_peers.proofs.register.Register.put.Goals as goal

pub requeue-requires-clause-order : goal.requeue-requires-clause-order
requeue-requires-clause-order g c =
    stays_ordered g.V.Moment.moment_of c.self.inside.entries (tickets_at c.self.inside.tickets.items) (deque_capacity c.self.inside.tickets) c.self.invariant

pub requeue-requires-clause-room : goal.requeue-requires-clause-room
requeue-requires-clause-room g c =
    let there : IsSome (lookup (is_peer c.args.peer) c.self.inside.entries) = search rules in
    if_some c.moment-to.result
    (has_room g.V.Moment.moment_of c.self.inside.entries (tickets_at c.self.inside.tickets.items) (deque_capacity c.self.inside.tickets) c.self.invariant
    (is_some_kept c.args.peer c.self.inside.entries there))

pub invariant_of-self : goal.invariant_of-self
invariant_of-self g c =
    let there : IsSome (lookup (is_peer c.args.peer) c.self.inside.entries) = search rules in
    queue_moves c.args.peer c.args.value.now g.V.Moment.moment_of c.self.inside.entries (tickets_at c.self.inside.tickets.items) (deque_capacity c.self.inside.tickets)
    c.self.invariant there c.set.new.self (tickets_at c.requeue.new.tickets.items) (deque_capacity c.requeue.new.tickets) c.moment_of-from.result c.moment-to.result
    c.set.ensures c.moment_of-from.ensures c.moment-to.ensures c.requeue.ensures.moved c.requeue.ensures.room

pub invariant_of-self-else-not-is_one_moment : goal.invariant_of-self-else-not-is_one_moment
invariant_of-self-else-not-is_one_moment g c =
    let there : IsSome (lookup (is_peer c.args.peer) c.self.inside.entries) = search rules in
    let one : c.is_one_moment.result ≡ true = search rules in
    queue_stays c.args.peer c.args.value.now g.V.Moment.moment_of c.self.inside.entries (tickets_at c.self.inside.tickets.items) (deque_capacity c.self.inside.tickets)
    c.self.invariant there c.set.new.self c.moment_of-from.result c.moment-to.result c.set.ensures
    c.moment_of-from.ensures c.moment-to.ensures (c.is_one_moment.ensures one)

pub returns-then-not-is_one_moment : goal.returns-then-not-is_one_moment
returns-then-not-is_one_moment g c =
    let there : IsSome (lookup (is_peer c.args.peer) c.self.inside.entries) = search rules in
    c.set.ensures ∙ written_over c.args.peer c.args.value.now c.self.inside.entries c.self.invariant.ordered there
    ∙ ap (λ (es : List (Peer × g.row.V.Denot)). insert_entry peer_cmp es c.args.peer c.args.value.now) c.self.view_is

pub returns-else-not-is_one_moment : goal.returns-else-not-is_one_moment
returns-else-not-is_one_moment g c =
    let there : IsSome (lookup (is_peer c.args.peer) c.self.inside.entries) = search rules in
    c.set.ensures ∙ written_over c.args.peer c.args.value.now c.self.inside.entries c.self.invariant.ordered there
    ∙ ap (λ (es : List (Peer × g.row.V.Denot)). insert_entry peer_cmp es c.args.peer c.args.value.now) c.self.view_is
