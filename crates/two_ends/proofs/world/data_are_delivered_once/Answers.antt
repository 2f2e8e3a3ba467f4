use Rattle.two_ends.proofs.OfWorlds.Believing.{plays-delivered}
use Rattle.two_ends.proofs.world.data_are_delivered_once.Goals as goal

pub returns : goal.returns
returns g c = λ client server for_client for_server events client_fits server_fits.
    plays-delivered g.C.Congestion.control g.met.C.Congestion.lawful c.every_step_has_one_effect.ensures client server for_client for_server events client_fits
    server_fits
