use Rattle.two_ends_progress.proofs.Agreed.{agreeing-leads}
use Rattle.two_ends_progress.proofs.laws.negotiations_settle.Goals as goal

pub returns : goal.returns
returns g c = λ client server for_client for_server events is_client is_server client_fits server_fits paired opened room.
    agreeing-leads g.C.Congestion.control c.every_step_has_one_effect.ensures client server for_client for_server events is_client is_server client_fits
    server_fits paired (λ all. c.every_run_is_safe.ensures client server for_client for_server all is_client is_server client_fits server_fits) opened room
