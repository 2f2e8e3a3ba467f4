use Rattle.congestion_trait.proofs.Numbers.{numbers_reported-exact}
use Rattle.congestion_trait.proofs.laws.numbers_reported_are_reported.Goals as goal

pub returns : goal.returns
returns c = λ entries number. numbers_reported-exact entries number
