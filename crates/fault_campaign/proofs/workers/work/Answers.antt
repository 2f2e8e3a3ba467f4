use Rattle.std.proofs.Common.{rules}
use Rattle.fault_campaign.proofs.Claiming.{fits, in-vain, one-turn}
use Rattle.fault_campaign.proofs.workers.work.Goals as goal

pub plus-report-requires : goal.plus-report-requires
plus-report-requires g c =
    fits c.args.job c.args.claims.now c.args.claimer.view c.loop-index.claimer c.loop-index.report c.in-Ok.one c.in-Some.index c.loop-index.invariant
    c.in-Ok.ensures.value

pub loop-index-preserved : goal.loop-index-preserved
loop-index-preserved g c =
    one-turn c.args.job c.args.claims.now c.args.claimer.view c.loop-index.claimer c.begin.new.self c.loop-index.report c.plus-report.result c.in-Ok.one
    c.in-Some.index
    c.loop-index.invariant c.in-Some.ensures.some c.in-Some.ensures.below c.in-Some.ensures.greater c.in-Ok.ensures.value c.plus-report.ensures

pub returns : goal.returns
returns g c = in-vain c.args.job c.args.claims.now c.args.claimer.view c.loop-index.claimer c.begin.new.self c.loop-index.report c.loop-index.invariant
    (search rules)
