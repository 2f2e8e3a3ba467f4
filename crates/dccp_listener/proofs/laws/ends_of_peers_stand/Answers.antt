use Rattle.dccp_listener.proofs.EndsStand.{ends_stand}
use Rattle.dccp_listener.proofs.laws.ends_of_peers_stand.Goals as goal

pub returns : goal.returns
returns c = ends_stand
