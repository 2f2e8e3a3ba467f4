use Rattle.std.proofs.Common.{rules, ◌<◌, ◌^◌, ◌∙◌, sym}
use Rattle.dccp_ecn.specs.EcnVector.{ecn_states}
use Rattle.dccp_ecn.proofs.ByPieces.{alike-more}
use Rattle.dccp_ecn.proofs.writing.alike.Goals as goal

pub loop-count-preserved : goal.loop-count-preserved
loop-count-preserved c =
    let fits : c.args.top < 2 ^ 48 = search rules in
    alike-more (ecn_states c.args.received.now) c.args.state c.loop-count.count c.args.top c.sub.result fits c.sub.ensures
    (sym c.state.ensures.value ∙ c.if-state.false) c.loop-count.invariant
