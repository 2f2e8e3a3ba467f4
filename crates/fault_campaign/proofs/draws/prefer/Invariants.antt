use Rattle.std.proofs.Common.{◌≡◌, ◌++◌, drop, length}
use Rattle.fault_campaign.proofs.draws.prefer.Given as goal

abbrev pub invariant-loop-number : goal.invariant-loop-number
invariant-loop-number l = (l.values ++ drop l.number-index l.numbers ≡ l.numbers) × (length l.values ≡ l.number-index)
