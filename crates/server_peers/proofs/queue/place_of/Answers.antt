use Rattle.std.proofs.Common.{◌≡◌, ◌-◌, ◌∙◌, ℕ, arith, get_or, subst}
use Rattle.server_peers.proofs.TicketNumbers.{all_before}
use Rattle.server_peers.proofs.queue.place_of.Goals as goal

pub returns-then-index-ticket-2-clause-position : goal.returns-then-index-ticket-2-clause-position
returns-then-index-ticket-2-clause-position c = λ rises. (
  (λ k d from lt.
      all_before c.args.ticket c.index-2.result.now c.args.tickets.now.items c.requires
      (subst (λ (n : ℕ). c.index-2.result.now ≡ get_or c.args.tickets.now.items (n - 1) c.index-2.result.now) (c.len-count.ensures ∙ c.args.tickets.now.ok.0) c.index-2.ensures)
      c.if-index-ticket-2.true k d (omega (arith, lt, c.len-count.ensures, c.args.tickets.now.ok.0))),
  (λ k d from lt. absurd (omega (arith, from, lt, c.len-count.ensures, c.args.tickets.now.ok.0))),
)
