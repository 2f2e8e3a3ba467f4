use Rattle.ccid_two.proofs.Mark.{one_halving}
use Rattle.ccid_two.proofs.laws.one_mark_one_halving.Goals as goal

pub returns : goal.returns
returns c = λ calls states ratio reports order congested. one_halving calls states ratio reports order congested
