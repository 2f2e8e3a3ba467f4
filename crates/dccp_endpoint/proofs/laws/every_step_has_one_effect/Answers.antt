use Rattle.dccp_endpoint.proofs.Calling.{every_step_has_an_effect}
use Rattle.dccp_endpoint.proofs.laws.every_step_has_one_effect.Goals as goal

pub returns : goal.returns
returns c = every_step_has_an_effect
