use Rattle.std.proofs.Common.{◌≡◌, ◌++◌, take, drop, map}
use Rattle.feature_machine.specs.Negotiating.{first_row}
use Rattle.feature_machine.proofs.negotiation.fill.Given as goal

-- the rows so far are made
abbrev pub invariant-loop-index : goal.invariant-loop-index
invariant-loop-index l = l.rows ≡ map (first_row l.role) (take l.index l.listed) ++ drop l.index l.fn.rows
