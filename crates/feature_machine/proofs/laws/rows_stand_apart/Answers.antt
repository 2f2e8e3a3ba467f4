use Rattle.feature_machine.proofs.Places.{same_feature, same_number, same_place, put_there, put_others}
use Rattle.feature_machine.proofs.laws.rows_stand_apart.Goals as goal

pub returns-clause-apart : goal.returns-clause-apart
returns-clause-apart c = λ one other here there same. (same_feature one other (same_number one other here there same), same_place one other here there same)

pub returns-clause-there : goal.returns-clause-there
returns-clause-there c = put_there

pub returns-clause-others : goal.returns-clause-others
returns-clause-others c = put_others
