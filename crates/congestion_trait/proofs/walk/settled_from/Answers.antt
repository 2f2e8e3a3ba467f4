use Rattle.std.proofs.Common.{sym, ◌∙◌, arith}
use Rattle.congestion_trait.proofs.Settled.{front_more}
use Rattle.congestion_trait.proofs.walk.settled_from.Goals as goal

pub loop-settled-preserved : goal.loop-settled-preserved
loop-settled-preserved c = (
  omega arith,
  front_more c.args.entries.now.items c.loop-settled.settled c.entry_at.result c.entry_at.ensures c.loop-settled.invariant.1
      (sym c.is_reported.ensures ∙ c.if-is_reported.true),
)
