use Rattle.dccp_server.proofs.Refusing.{refused_change_nothing}
use Rattle.dccp_server.proofs.laws.refused_calls_change_nothing.Goals as goal

pub returns : goal.returns
returns c = refused_change_nothing
