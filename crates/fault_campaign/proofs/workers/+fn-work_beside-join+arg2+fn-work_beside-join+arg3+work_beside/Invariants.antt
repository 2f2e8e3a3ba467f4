use Rattle.fault_campaign.proofs.workers.+fn-work_beside-join+arg2+fn-work_beside-join+arg3+work_beside.Given as goal

abbrev pub decreases-join+arg2 : goal.decreases-join+arg2
decreases-join+arg2 g l = l.more

abbrev pub decreases-join+arg3 : goal.decreases-join+arg3
decreases-join+arg3 g l = l.few

abbrev pub decreases-work_beside : goal.decreases-work_beside
decreases-work_beside g l = l.workers
