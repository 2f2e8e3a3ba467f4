use Rattle.fault_campaign.proofs.Turns.{IsUnderWay}
use Rattle.fault_campaign.proofs.run.OngoingRun.go_on_with.Given as goal

abbrev pub invariant-loop : goal.invariant-loop
invariant-loop l = IsUnderWay l.fn.more l.counter l.fn.self l.self
