use Rattle.feature_lists.proofs.Allowed.{allowed_says}
use Rattle.feature_lists.proofs.laws.allowed_lists.Goals as goal

pub returns : goal.returns
returns c = allowed_says
