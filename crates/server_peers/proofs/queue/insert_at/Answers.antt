use Rattle.std.proofs.Common.{arith}
use Rattle.server_peers.proofs.Ordered.{inserted}
use Rattle.server_peers.proofs.queue.insert_at.Goals as goal

pub returns-then-at-len-clause-inserted : goal.returns-then-at-len-clause-inserted
returns-then-at-len-clause-inserted c =
    inserted c.insert.result c.insert.ensures.items c.insert.ensures.full (omega (arith, c.requires.room, c.args.tickets.now.ok.0))
