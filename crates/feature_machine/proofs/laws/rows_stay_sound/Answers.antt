use Rattle.feature_machine.proofs.Steps.{stepped_negotiation}
use Rattle.feature_machine.proofs.laws.rows_stay_sound.Goals as goal

pub returns : goal.returns
returns c = stepped_negotiation
