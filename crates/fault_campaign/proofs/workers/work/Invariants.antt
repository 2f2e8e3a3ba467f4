use Rattle.std.proofs.Common.{◌-◌, length}
use Rattle.fault_campaign.proofs.Claiming.{IsClaiming}
use Rattle.fault_campaign.proofs.workers.work.Given as goal

abbrev pub invariant-loop-index : goal.invariant-loop-index
invariant-loop-index g l = IsClaiming l.fn.job l.fn.claims l.fn.claimer.view l.claimer l.report

abbrev pub decreases-loop-index : goal.decreases-loop-index
decreases-loop-index g l = l.claimer.view.limit - length l.claimer.view.numbers
