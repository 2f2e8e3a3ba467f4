use Rattle.dccp_server.proofs.Ending.{ticks_end}
use Rattle.dccp_server.proofs.laws.ticks_of_a_listener_end.Goals as goal

pub returns : goal.returns
returns c = ticks_end
