use Rattle.std.proofs.Common.{◌≡◌, ◌++◌, take, drop, map}
use Rattle.feature_machine.specs.Lists.{unoffered}
use Rattle.feature_machine.proofs.lists.unoffer.Given as goal

-- the offers so far are gone
abbrev pub invariant-loop-one : goal.invariant-loop-one
invariant-loop-one l = l.listed ≡ map unoffered (take l.one-index l.fn.listed) ++ drop l.one-index l.fn.listed
