use Rattle.dccp_listener.proofs.Greeted.{greeted_opens}
use Rattle.dccp_listener.proofs.laws.what_is_greeted_is_opened.Goals as goal

pub returns : goal.returns
returns c = greeted_opens
