use Rattle.tool_text.proofs.Ending.{begun-by, whole-by}
use Rattle.tool_text.proofs.output.blocks.cut_off.Goals as goal

pub returns-clause-front : goal.returns-clause-front
returns-clause-front g c =
    begun-by c.write_all.result (g.K.Sink.taken c.args.output.now)
    (g.K.Sink.taken c.write_all.new.sink) c.args.text.now c.write_all.ensures.whole c.write_all.ensures.front

pub returns-clause-whole : goal.returns-clause-whole
returns-clause-whole g c =
    whole-by c.write_all.result (g.K.Sink.taken c.args.output.now)
    (g.K.Sink.taken c.write_all.new.sink) c.args.text.now _ c.write_all.ensures.whole c.write_all.ensures.cause
