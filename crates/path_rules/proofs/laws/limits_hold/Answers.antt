use Rattle.path_rules.proofs.Granting.{limits_hold}
use Rattle.path_rules.proofs.laws.limits_hold.Goals as goal

pub returns : goal.returns
returns c = limits_hold
