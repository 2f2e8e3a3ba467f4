use Rattle.dccp_endpoint.proofs.NearWindows.{valid-near}
use Rattle.dccp_endpoint.proofs.laws.valid_numbers_are_near.Goals as goal

pub returns : goal.returns
returns c = valid-near c.verdicts_are_those_of_whole_numbers.ensures.valid
