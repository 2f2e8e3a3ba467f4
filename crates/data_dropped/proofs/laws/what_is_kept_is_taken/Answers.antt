use Rattle.data_dropped.proofs.History.{every-accounted, every-codes}
use Rattle.data_dropped.proofs.laws.what_is_kept_is_taken.Goals as goal

pub returns-clause-accounted : goal.returns-clause-accounted
returns-clause-accounted c = every-accounted

pub returns-clause-codes : goal.returns-clause-codes
returns-clause-codes c = every-codes
