use Rattle.validity_windows.proofs.Verdicts.{valid_by_whole, otherwise_refused}
use Rattle.validity_windows.proofs.laws.verdicts_are_those_of_whole_numbers.Goals as goal

pub returns-clause-valid : goal.returns-clause-valid
returns-clause-valid c = valid_by_whole

pub returns-clause-otherwise : goal.returns-clause-otherwise
returns-clause-otherwise c = otherwise_refused
