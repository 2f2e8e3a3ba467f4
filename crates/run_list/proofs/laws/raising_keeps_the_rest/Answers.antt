use Rattle.run_list.proofs.Sets.{raised_iff}
use Rattle.run_list.proofs.laws.raising_keeps_the_rest.Goals as goal

pub returns : goal.returns
returns c = record { numbers = raised_iff }
