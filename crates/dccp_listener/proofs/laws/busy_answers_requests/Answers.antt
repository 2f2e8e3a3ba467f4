use Rattle.dccp_listener.proofs.Requests.{busy_answers_requests}
use Rattle.dccp_listener.proofs.laws.busy_answers_requests.Goals as goal

pub returns : goal.returns
returns c = busy_answers_requests
