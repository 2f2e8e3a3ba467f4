use Rattle.std.proofs.Common.{◌≡◌, ◌-◌, ◌*◌, ◌^◌, ◌<◌, ◌∙◌, ℕ, arith, get_or, nat_lt, refl, rules, subst, sym}
use Rattle.std.proofs.lemmas.Fn.{answers_by}
use Rattle.std.proofs.lemmas.List.{length-map}
use Rattle.server_peers.specs.Queues.{BeginsAt, ticket_at, tickets_at}
use Rattle.server_peers.proofs.Classes.{begins_first, begins_past}
use Rattle.server_peers.proofs.TicketNumbers.{begins_as, first_class, last_class, parted_under}
use Rattle.server_peers.proofs.queue.front.Goals as goal

pub returns-then-least-index-clause-begins : goal.returns-then-least-index-clause-begins
returns-then-least-index-clause-begins c =
    begins_first (tickets_at c.args.tickets.now.items) c.requires c.args.class (ticket_at c.index.result.now)
    (first_class c.args.class _ c.args.tickets.now.items c.index.result.now refl (omega (arith, c.if-least-index.true, c.index.ensures)))

pub returns-then-index-least-clause-begins : goal.returns-then-index-least-clause-begins
returns-then-index-least-clause-begins c =
    subst (λ (n : ℕ). BeginsAt c.args.class (tickets_at c.args.tickets.now.items) n)
    (length-map c.args.tickets.now.items ticket_at ∙ sym c.args.tickets.now.ok.0 ∙ sym c.len-count.ensures)
    (begins_past (tickets_at c.args.tickets.now.items) c.requires c.args.class (ticket_at c.index-2.result.now)
    (last_class c.args.class _ c.args.tickets.now.items c.index-2.result.now refl
    (subst (λ (n : ℕ). get_or c.args.tickets.now.items (n - 1) c.index-2.result.now < c.args.class * 2 ^ 64 * 2 ^ 48) (c.len-count.ensures ∙ c.args.tickets.now.ok.0)
    (omega (arith, c.if-index-least.true, c.index-2.ensures)))))

pub returns-clause-begins : goal.returns-clause-begins
returns-clause-begins c =
    begins_as c.args.class _ c.args.tickets.now.items c.partition_point.result refl (omega (arith, c.partition_point.ensures.bound, c.args.tickets.now.ok.0))
    (c.partition_point.ensures.partitioned (λ (n : ℕ). nat_lt n (c.args.class * 2 ^ 64 * 2 ^ 48))
    (answers_by _ _ (λ f. f.0.now ≡ c.args.class * 2 ^ 64 * 2 ^ 48) (λ f a r g called is. search rules) _ (search rules))
    (parted_under (c.args.class * 2 ^ 64 * 2 ^ 48) c.args.tickets.now.items c.requires))
