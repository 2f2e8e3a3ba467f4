use Rattle.std.proofs.Common.{arith}
use Rattle.feature_machine.specs.Negotiating.{first_row}
use Rattle.feature_machine.proofs.Listing.{mapped_more}
use Rattle.feature_machine.proofs.negotiation.fill.Goals as goal

pub loop-index-preserved : goal.loop-index-preserved
loop-index-preserved c =
    let more = mapped_more (first_row c.args.role) c.args.listed.now c.args.rows.now c.loop-index.index c.index-listed-index.result c.first.result (omega arith)
    (omega arith) in
    cc (more, c.loop-index.invariant, c.index-listed-index.is, c.first.ensures)
