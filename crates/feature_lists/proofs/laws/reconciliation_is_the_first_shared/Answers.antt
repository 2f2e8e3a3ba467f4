use Rattle.feature_lists.proofs.FirstShared.{found_is_first, none_is_shared}
use Rattle.feature_lists.proofs.laws.reconciliation_is_the_first_shared.Goals as goal

pub returns-clause-found : goal.returns-clause-found
returns-clause-found c = found_is_first

pub returns-clause-none : goal.returns-clause-none
returns-clause-none c = none_is_shared
