use Rattle.dccp_endpoint.proofs.Spelled.{told_numbers_are_spelled}
use Rattle.dccp_endpoint.proofs.laws.told_numbers_are_spelled.Goals as goal

pub returns : goal.returns
returns c = told_numbers_are_spelled
