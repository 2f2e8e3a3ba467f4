use Rattle.dccp_server.proofs.InRooms.{keep_flows}
use Rattle.dccp_server.proofs.Timing.{timed_ends}
use Rattle.dccp_server.proofs.laws.flows_are_timed_ends.Goals as goal

pub returns-clause-alike : goal.returns-clause-alike
returns-clause-alike c = timed_ends

pub returns-clause-kept : goal.returns-clause-kept
returns-clause-kept c = keep_flows
