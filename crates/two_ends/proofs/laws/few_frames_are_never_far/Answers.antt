use Rattle.two_ends.proofs.OfWorlds.Nearing.{plays-near}
use Rattle.two_ends.proofs.laws.few_frames_are_never_far.Goals as goal

pub returns : goal.returns
returns g c = λ client server for_client for_server events next client_fits server_fits clients servers.
    plays-near g.C.Congestion.control c.every_step_has_one_effect.ensures client server for_client for_server events client_fits server_fits clients servers
    next
