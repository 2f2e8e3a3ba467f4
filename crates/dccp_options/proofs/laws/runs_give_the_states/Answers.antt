use Rattle.dccp_options.proofs.States.{state_at-runs, each_run-gives}
use Rattle.dccp_options.proofs.laws.runs_give_the_states.Goals as goal

pub returns-clause-first : goal.returns-clause-first
returns-clause-first c = λ ack n bytes fits_ack fits_n. state_at-runs ack bytes n fits_ack fits_n

pub returns-clause-each : goal.returns-clause-each
returns-clause-each c = each_run-gives
