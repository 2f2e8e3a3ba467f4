use Rattle.two_ends_progress.proofs.Sent.{data-or-over}
use Rattle.two_ends_progress.proofs.laws.senders_are_never_stuck.Goals as goal

pub returns : goal.returns
returns g c = λ client server for_client for_server events side payload is_client is_server client_fits server_fits paired opened few short.
    data-or-over g.C.Congestion.control g.met.C.Congestion.lawful c.every_step_has_one_effect.ensures client server for_client for_server is_client is_server
    client_fits server_fits paired (λ all. c.every_run_is_safe.ensures client server for_client for_server all is_client is_server client_fits server_fits) events
    side payload short opened few
