use Rattle.feature_machine.proofs.Turning.{listed_there, listed_others}
use Rattle.feature_machine.proofs.rows.lists_stand_apart.Goals as goal

pub returns-clause-there : goal.returns-clause-there
returns-clause-there c = listed_there

pub returns-clause-others : goal.returns-clause-others
returns-clause-others c = listed_others
