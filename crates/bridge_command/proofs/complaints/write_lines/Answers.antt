use Rattle.tool_text.proofs.Ending.{written-by}
use Rattle.bridge_command.proofs.complaints.write_lines.Goals as goal

pub returns : goal.returns
returns g c =
    written-by c.write_all.result (g.E.Sink.taken c.args.errors.now)
    (g.E.Sink.taken c.write_all.new.sink) c.args.lines.now _ c.write_all.ensures.whole c.write_all.ensures.front
    c.write_all.ensures.cause
