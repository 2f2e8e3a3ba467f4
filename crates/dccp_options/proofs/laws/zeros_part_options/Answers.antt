use Rattle.dccp_options.proofs.AfterZeros.{options_after_zeros}
use Rattle.dccp_options.proofs.laws.zeros_part_options.Goals as goal

pub returns : goal.returns
returns c = options_after_zeros
