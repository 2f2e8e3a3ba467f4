use Rattle.std.proofs.Common.{ap, arith, get_or}
use Rattle.std.proofs.lemmas.List.Edits.{map_over_more}
use Rattle.feature_machine.specs.Lists.{unoffered}
use Rattle.feature_machine.proofs.lists.unoffer.Goals as goal

pub loop-one-preserved : goal.loop-one-preserved
loop-one-preserved c =
    map_over_more unoffered c.args.listed.now c.loop-one.listed c.loop-one.one-index (get_or c.loop-one.listed c.loop-one.one-index c.one-item.result)
    (omega arith) c.loop-one.invariant (ap (λ d. get_or c.loop-one.listed c.loop-one.one-index d) c.one-item.is)
