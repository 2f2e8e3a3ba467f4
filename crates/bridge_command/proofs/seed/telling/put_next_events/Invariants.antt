use Rattle.bridge_command.proofs.SeedTold.{IsTold}
use Rattle.bridge_command.proofs.seed.telling.put_next_events.Given as goal

abbrev pub invariant-loop : goal.invariant-loop
invariant-loop l = IsTold l.fn.more l.counter l.fn.run l.run l.fn.text.items l.text.items
