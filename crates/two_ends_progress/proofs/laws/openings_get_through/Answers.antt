use Rattle.two_ends_progress.proofs.Opening.{opening-leads, start-asks}
use Rattle.two_ends_progress.proofs.laws.openings_get_through.Goals as goal

pub returns-clause-asked : goal.returns-clause-asked
returns-clause-asked g c = λ client server for_client for_server events is_client is_server client_fits server_fits paired opening room.
    opening-leads g.C.Congestion.control c.every_step_has_one_effect.ensures client server for_client for_server events is_client is_server
    client_fits server_fits paired opening room

pub returns-clause-started : goal.returns-clause-started
returns-clause-started g c = λ client server for_client for_server is_client is_server.
    start-asks g.C.Congestion.control c.every_step_has_one_effect.ensures client server for_client for_server is_client is_server
