use Rattle.std.proofs.Common.{ap, sym, ◌∙◌, Ok, Err, nat_cmp}
use Rattle.std.proofs.lemmas.Cmp.{nat_cmp_total}
use Rattle.server_peers.specs.Queues.{tickets_at}
use Rattle.server_peers.proofs.Ordered.{putting}
use Rattle.server_peers.proofs.TicketNumbers.{numbers_rise, put_as}
use Rattle.server_peers.proofs.queue.put.Goals as goal

pub returns-in-Err-clause-put : goal.returns-in-Err-clause-put
returns-in-Err-clause-put c =
    ap tickets_at
    (c.insert_at.ensures.inserted
    ∙ putting nat_cmp nat_cmp_total c.args.ticket c.args.tickets.now.items (numbers_rise c.args.tickets.now.items c.requires.order) (Err c.in-Err.at)
    c.in-Err.ensures.bound c.in-Err.ensures.position)
    ∙ put_as c.args.ticket c.args.tickets.now.items

pub returns-in_default-clause-put : goal.returns-in_default-clause-put
returns-in_default-clause-put c =
    ap tickets_at
    (sym
    (putting nat_cmp nat_cmp_total c.args.ticket c.args.tickets.now.items (numbers_rise c.args.tickets.now.items c.requires.order) (Ok c.in_default.field-0)
    c.in_default.ensures.bound c.in_default.ensures.position))
    ∙ put_as c.args.ticket c.args.tickets.now.items
