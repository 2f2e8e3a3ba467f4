use Rattle.two_ends.proofs.OfWorlds.Believing.{plays-asked}
use Rattle.two_ends.proofs.laws.last_lists_are_active.Goals as goal

pub returns : goal.returns
returns g c = λ client server for_client for_server events is_client is_server client_fits server_fits.
    plays-asked g.C.Congestion.control g.met.C.Congestion.lawful c.every_step_has_one_effect.ensures client server for_client for_server events client_fits
    server_fits is_client is_server
