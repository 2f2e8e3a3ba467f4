use Rattle.schedule_text.proofs.FaultsSame.{first-fault}
use Rattle.schedule_text.proofs.laws.the_first_fault_is_answered.Goals as goal

pub returns : goal.returns
returns c = first-fault
