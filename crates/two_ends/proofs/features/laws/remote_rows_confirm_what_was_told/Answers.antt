use Rattle.two_ends.proofs.OfFeatures.Confirmed.{server_confirmed, client_confirmed}
use Rattle.two_ends.proofs.features.laws.remote_rows_confirm_what_was_told.Goals as goal

pub returns-clause-at_server : goal.returns-clause-at_server
returns-clause-at_server c = server_confirmed

pub returns-clause-at_client : goal.returns-clause-at_client
returns-clause-at_client c = client_confirmed
