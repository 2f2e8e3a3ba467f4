use Rattle.std.proofs.Common.{sym, ◌∙◌, arith}
use Rattle.std.proofs.lemmas.List.{length-map}
use Rattle.server_peers.specs.Queues.{ticket_at, tickets_at}
use Rattle.server_peers.proofs.Classes.{count_between}
use Rattle.server_peers.proofs.queue.count_in.Goals as goal

pub returns : goal.returns
returns c =
    c.saturating_sub.ensures
    ∙ sym
    (count_between c.args.class (tickets_at c.args.tickets.now.items) c.front-first.result c.front.result
    (omega (arith, c.front.ensures.within, length-map c.args.tickets.now.items ticket_at)) c.front-first.ensures.begins c.front.ensures.begins)
