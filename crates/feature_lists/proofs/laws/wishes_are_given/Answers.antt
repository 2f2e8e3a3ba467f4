use Rattle.feature_lists.proofs.Given.{given}
use Rattle.feature_lists.proofs.laws.wishes_are_given.Goals as goal

pub returns : goal.returns
returns c = given
