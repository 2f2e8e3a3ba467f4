use Rattle.dccp_uses.proofs.Classic.{classic_is_the_session}
use Rattle.dccp_uses.proofs.laws.classic_is_the_session.Goals as goal

pub returns : goal.returns
returns g c = classic_is_the_session g.C.Congestion.control
