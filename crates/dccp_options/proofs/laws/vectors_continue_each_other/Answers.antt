use Rattle.dccp_options.proofs.States.{states-append}
use Rattle.dccp_options.proofs.laws.vectors_continue_each_other.Goals as goal

pub returns : goal.returns
returns c = states-append
