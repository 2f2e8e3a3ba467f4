use Rattle.std.proofs.Common.{rules}
use Rattle.fault_campaign.proofs.Claiming.{small}
use Rattle.fault_campaign.proofs.workers.+fn-work_beside-join+arg2+fn-work_beside-join+arg3+work_beside.Goals as goal

pub both-requires-clause-few : goal.both-requires-clause-few
both-requires-clause-few g t c = small _ c.args.job _ _ _ c.join-mine.result.0.1 (search rules) c.requires.3.some c.requires.3.most c.join-mine.ensures.first

pub both-requires-clause-others : goal.both-requires-clause-others
both-requires-clause-others g t c =
    small _ c.args.job _ _ _ c.join-mine.result.1.1 (search rules) c.requires.3.some c.requires.3.most c.join-mine.ensures.second
