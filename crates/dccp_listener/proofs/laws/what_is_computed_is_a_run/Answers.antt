use Rattle.dccp_listener.proofs.Computing.{computed_runs}
use Rattle.dccp_listener.proofs.laws.what_is_computed_is_a_run.Goals as goal

pub returns : goal.returns
returns c = computed_runs
