use Rattle.std.proofs.Common.{arith}
use Rattle.server_peers.proofs.Ordered.{removed}
use Rattle.server_peers.proofs.queue.remove_at.Goals as goal

pub returns-else-at-len-clause-removed : goal.returns-else-at-len-clause-removed
returns-else-at-len-clause-removed c =
    removed c.remove.result c.remove.ensures.items (c.remove.ensures.variant.1 (omega (arith, c.requires, c.args.tickets.now.ok.0)))
