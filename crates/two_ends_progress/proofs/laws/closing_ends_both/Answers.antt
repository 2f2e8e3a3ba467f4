use Rattle.two_ends_progress.proofs.Closing.{closing-leads}
use Rattle.two_ends_progress.proofs.laws.closing_ends_both.Goals as goal

pub returns : goal.returns
returns g c = λ client server for_client for_server events side is_client is_server client_fits server_fits paired opened room.
    closing-leads g.C.Congestion.control c.every_step_has_one_effect.ensures client server for_client for_server events side is_client is_server
    client_fits server_fits paired opened room
