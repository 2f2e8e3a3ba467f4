use Rattle.two_ends.proofs.OfFeatures.ByFeature.{feature_agrees, feature_given}
use Rattle.two_ends.proofs.features.each_feature.every_feature_agrees.Goals as goal

pub returns-clause-agree : goal.returns-clause-agree
returns-clause-agree c = feature_agrees

pub returns-clause-given : goal.returns-clause-given
returns-clause-given c = feature_given
