use Rattle.two_ends.proofs.OfFeatures.ByFeature.{one_pair, same_pair, same_moves, server_row_steps, client_row_steps}
use Rattle.two_ends.proofs.features.each_feature.row_steps_stay_reachable.Goals as goal

pub returns-clause-server_step : goal.returns-clause-server_step
returns-clause-server_step c = server_row_steps

pub returns-clause-client_step : goal.returns-clause-client_step
returns-clause-client_step c = client_row_steps

pub returns-clause-one_pair : goal.returns-clause-one_pair
returns-clause-one_pair c = one_pair

pub returns-clause-same_pair : goal.returns-clause-same_pair
returns-clause-same_pair c = same_pair

pub returns-clause-same_moves : goal.returns-clause-same_moves
returns-clause-same_moves c = same_moves
