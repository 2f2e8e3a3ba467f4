use Rattle.two_ends_progress.proofs.Sent.{data-leads}
use Rattle.two_ends_progress.proofs.laws.data_get_through.Goals as goal

pub returns : goal.returns
returns g c = λ client server for_client for_server events side payload is_client is_server client_fits server_fits paired opened settled few reports short.
    data-leads g.C.Congestion.control g.met.C.Congestion.lawful c.every_step_has_one_effect.ensures client server for_client for_server events is_client is_server
    client_fits server_fits paired (c.every_run_is_safe.ensures client server for_client for_server events is_client is_server client_fits server_fits) side
    payload opened settled few reports short
