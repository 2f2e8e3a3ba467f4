use Rattle.std.proofs.Common.{◌≡◌, drop}
use Rattle.feature_machine.specs.Negotiating.{due_keys}
use Rattle.feature_machine.proofs.due.first_due.Given as goal

-- no row so far is due
abbrev pub invariant-loop-index : goal.invariant-loop-index
invariant-loop-index l = due_keys (drop l.index l.rows) ≡ due_keys (drop l.from l.rows)
