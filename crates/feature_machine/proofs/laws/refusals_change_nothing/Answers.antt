use Rattle.feature_machine.proofs.Steps.{step_stays, step_same}
use Rattle.feature_machine.proofs.laws.refusals_change_nothing.Goals as goal

pub returns-clause-refused : goal.returns-clause-refused
returns-clause-refused c = step_stays

pub returns-clause-same : goal.returns-clause-same
returns-clause-same c = step_same
