-- What was read before and in this turn is the front that is lost.
use Rattle.std.proofs.Common.{◌++◌, take}
use Rattle.dccp_io.proofs.Known.{prepend_known-more}
use Rattle.dccp_io.proofs.whole.read_all.Goals as goal

pub returns-then-is_err-clause-lost : goal.returns-then-is_err-clause-lost
returns-then-is_err-clause-lost g c = (
  c.loop-block.text.items ++ take c.in-Ok.count c.read.new.into,
  prepend_known-more (g.S.Source.left c.args.source.now) (g.S.Source.left c.loop-block.source) (g.S.Source.left c.read.new.self) c.loop-block.text.items
      (take c.in-Ok.count c.read.new.into) c.loop-block.invariant.next c.in-Ok.ensures.next,
)
