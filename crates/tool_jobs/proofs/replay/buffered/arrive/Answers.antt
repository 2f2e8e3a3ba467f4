use Rattle.tool_jobs.proofs.Buffering.{data-told}
use Rattle.tool_jobs.proofs.replay.buffered.arrive.Goals as goal

pub returns-clause-told : goal.returns-clause-told
returns-clause-told c = data-told c.args.bytes.now c.receive.result.outcome c.receive.ensures.within
