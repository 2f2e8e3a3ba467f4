use Rattle.dccp_ecn.proofs.Running.{run-told}
use Rattle.dccp_ecn.proofs.laws.every_run_is_told.Goals as goal

pub returns : goal.returns
returns c = run-told
