use Rattle.dccp_server.proofs.Walking.{walks_name_each}
use Rattle.dccp_server.proofs.laws.walks_name_each_peer_once.Goals as goal

pub returns : goal.returns
returns c = walks_name_each
