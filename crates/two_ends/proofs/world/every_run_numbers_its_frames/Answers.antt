use Rattle.two_ends.proofs.OfWorlds.Believing.{plays-facts}
use Rattle.two_ends.proofs.world.every_run_numbers_its_frames.Goals as goal

pub returns : goal.returns
returns g c = λ client server for_client for_server events client_fits server_fits.
    plays-facts g.C.Congestion.control g.met.C.Congestion.lawful c.every_step_has_one_effect.ensures client server for_client for_server events client_fits
    server_fits
