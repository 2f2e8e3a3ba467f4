use Rattle.run_list.proofs.Sets.{marked_iff}
use Rattle.run_list.proofs.laws.marking_adds_one_number.Goals as goal

pub returns : goal.returns
returns c = record { numbers = marked_iff }
