use Rattle.two_ends.proofs.OfFeatures.FeatureReachable.{reachable_agree, reachable_given}
use Rattle.two_ends.proofs.features.laws.reachable_sides_agree.Goals as goal

pub returns-clause-agree : goal.returns-clause-agree
returns-clause-agree c = reachable_agree

pub returns-clause-given : goal.returns-clause-given
returns-clause-given c = reachable_given
