use Rattle.feature_lists.proofs.Numbered.{found, number_is, in_order}
use Rattle.feature_lists.proofs.laws.numbers_name_features.Goals as goal

pub returns-clause-found : goal.returns-clause-found
returns-clause-found c = found

pub returns-clause-number : goal.returns-clause-number
returns-clause-number c = number_is

pub returns-clause-order : goal.returns-clause-order
returns-clause-order c = in_order
