use Rattle.std.proofs.Common.{rules}
use Rattle.fault_campaign.proofs.Turns.{at-end, at-start, counts-little, one-turn}
use Rattle.fault_campaign.proofs.run.OngoingRun.go_on_with.Goals as goal

pub loop-init : goal.loop-init
loop-init c = at-start c.args.more c.args.self.now (search rules)

pub go_on-requires : goal.go_on-requires
go_on-requires c = counts-little c.args.more c.loop.counter c.args.self.now c.loop.self c.loop.invariant

pub loop-preserved : goal.loop-preserved
loop-preserved c = one-turn c.args.more c.loop.counter c.args.self.now c.loop.self c.go_on.new.self (search rules) c.in_ok-go_on.ensures c.loop.invariant

pub returns : goal.returns
returns c = at-end c.args.more c.loop.counter c.args.self.now c.loop.self (search rules) c.loop.invariant
