use Rattle.two_ends.proofs.OfFeatures.ByFeature.{reached_agrees, reached_is_given}
use Rattle.two_ends.proofs.features.each_feature.values_were_given.Goals as goal

pub returns-clause-agree : goal.returns-clause-agree
returns-clause-agree c = reached_agrees

pub returns-clause-given : goal.returns-clause-given
returns-clause-given c = reached_is_given
