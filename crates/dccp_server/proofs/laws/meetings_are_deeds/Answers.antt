use Rattle.dccp_server.proofs.MetByDoings.{meetings_are_deeds}
use Rattle.dccp_server.proofs.laws.meetings_are_deeds.Goals as goal

pub returns : goal.returns
returns c = meetings_are_deeds
