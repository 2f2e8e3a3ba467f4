use Rattle.bridge_command.specs.Words.{bridge_usage}
use Rattle.tool_text.proofs.Ending.{written-by}
use Rattle.bridge_command.proofs.top.refuse_words.Goals as goal

pub returns-clause-usage : goal.returns-clause-usage
returns-clause-usage g c =
    written-by c.write_all.result (g.E.Sink.taken c.args.errors.now)
    (g.E.Sink.taken c.write_all.new.sink) bridge_usage _ c.write_all.ensures.whole c.write_all.ensures.front
    c.write_all.ensures.cause
