use Rattle.dccp_listener.proofs.Chains.{each_has_its_chain}
use Rattle.dccp_listener.proofs.laws.each_peer_has_its_own_chain.Goals as goal

pub returns : goal.returns
returns c = each_has_its_chain
