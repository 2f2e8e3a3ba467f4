use Rattle.std.proofs.Common.{ap, ◌∙◌, Ok, Err, nat_cmp}
use Rattle.std.proofs.lemmas.Cmp.{nat_cmp_total}
use Rattle.server_peers.specs.Queues.{tickets_at}
use Rattle.server_peers.proofs.Ordered.{taking}
use Rattle.server_peers.proofs.TicketNumbers.{left_as, numbers_rise}
use Rattle.server_peers.proofs.queue.take.Goals as goal

pub returns-in-Ok-clause-taken : goal.returns-in-Ok-clause-taken
returns-in-Ok-clause-taken c =
    ap tickets_at
    (c.remove_at.ensures.removed
    ∙ taking nat_cmp nat_cmp_total c.args.ticket c.args.tickets.now.items (numbers_rise c.args.tickets.now.items c.requires) (Ok c.in-Ok.at)
    c.in-Ok.ensures.bound c.in-Ok.ensures.position)
    ∙ left_as c.args.ticket c.args.tickets.now.items

pub returns-in_default-clause-taken : goal.returns-in_default-clause-taken
returns-in_default-clause-taken c =
    ap tickets_at
    (taking nat_cmp nat_cmp_total c.args.ticket c.args.tickets.now.items (numbers_rise c.args.tickets.now.items c.requires) (Err c.in_default.field-0)
    c.in_default.ensures.bound c.in_default.ensures.position)
    ∙ left_as c.args.ticket c.args.tickets.now.items
