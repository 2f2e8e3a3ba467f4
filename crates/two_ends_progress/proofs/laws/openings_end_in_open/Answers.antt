use Rattle.two_ends_progress.proofs.Opened.{opened-leads}
use Rattle.two_ends_progress.proofs.laws.openings_end_in_open.Goals as goal

pub returns : goal.returns
returns g c = λ client server for_client for_server events is_client is_server client_fits server_fits paired opening few.
    opened-leads g.C.Congestion.control c.every_step_has_one_effect.ensures client server for_client for_server events is_client is_server client_fits
    server_fits paired (λ all. c.every_run_is_safe.ensures client server for_client for_server all is_client is_server client_fits server_fits) opening few
