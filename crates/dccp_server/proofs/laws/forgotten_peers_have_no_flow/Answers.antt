use Rattle.dccp_server.proofs.Forgetting.{forgotten_have_none}
use Rattle.dccp_server.proofs.laws.forgotten_peers_have_no_flow.Goals as goal

pub returns : goal.returns
returns c = forgotten_have_none
