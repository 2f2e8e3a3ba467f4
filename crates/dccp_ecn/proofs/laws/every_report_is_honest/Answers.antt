use Rattle.dccp_ecn.proofs.Running.{events-honest}
use Rattle.dccp_ecn.proofs.laws.every_report_is_honest.Goals as goal

pub returns : goal.returns
returns c = events-honest
