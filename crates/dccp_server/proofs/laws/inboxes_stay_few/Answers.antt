use Rattle.dccp_server.proofs.FewInboxes.{inboxes_stay_few}
use Rattle.dccp_server.proofs.laws.inboxes_stay_few.Goals as goal

pub returns : goal.returns
returns c = inboxes_stay_few
