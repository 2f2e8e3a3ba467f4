use Rattle.two_ends.proofs.OfFeatures.FeatureReachable.{reachable_agree_at_server, reachable_agree_at_client, reachable_given_at_server, reachable_given_at_client}
use Rattle.two_ends.proofs.features.laws.location_decides.Goals as goal

pub returns-clause-agree_at_server : goal.returns-clause-agree_at_server
returns-clause-agree_at_server c = reachable_agree_at_server

pub returns-clause-agree_at_client : goal.returns-clause-agree_at_client
returns-clause-agree_at_client c = reachable_agree_at_client

pub returns-clause-given_at_server : goal.returns-clause-given_at_server
returns-clause-given_at_server c = reachable_given_at_server

pub returns-clause-given_at_client : goal.returns-clause-given_at_client
returns-clause-given_at_client c = reachable_given_at_client
