use Rattle.run_list.proofs.Sets.{set_same}
use Rattle.run_list.proofs.laws.a_set_is_known_by_its_numbers.Goals as goal

pub returns : goal.returns
returns c = set_same
