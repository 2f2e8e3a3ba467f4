use Rattle.two_ends.proofs.OfFeatures.ByFeature.{starts, server_row_reaches, client_row_reaches}
use Rattle.two_ends.proofs.features.each_feature.row_steps_reach.Goals as goal

pub returns-clause-start : goal.returns-clause-start
returns-clause-start c = starts

pub returns-clause-server_step : goal.returns-clause-server_step
returns-clause-server_step c = server_row_reaches

pub returns-clause-client_step : goal.returns-clause-client_step
returns-clause-client_step c = client_row_reaches
