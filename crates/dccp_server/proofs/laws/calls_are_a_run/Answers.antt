use Rattle.dccp_server.proofs.Through.{run_through}
use Rattle.dccp_server.proofs.laws.calls_are_a_run.Goals as goal

pub returns : goal.returns
returns c = run_through
