use Rattle.tool_jobs.proofs.Telling.{answer_is_told}
use Rattle.tool_jobs.proofs.replay.bare.arrive.Goals as goal

pub returns-clause-told : goal.returns-clause-told
returns-clause-told c =
    answer_is_told c.args.end.now.state c.args.end.now.congestion c.args.bytes.now c.receive.new.self c.receive.new.out c.receive.result c.receive.ensures.step
