use Rattle.dccp_uses.proofs.OneInput.{steps_are_inputs}
use Rattle.dccp_uses.proofs.laws.rules_are_inputs.Goals as goal

pub returns : goal.returns
returns g c = steps_are_inputs g.C.Congestion.control
