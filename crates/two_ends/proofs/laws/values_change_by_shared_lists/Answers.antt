use Rattle.two_ends.proofs.OfFeatures.Sharing.{plays-changes}
use Rattle.two_ends.proofs.laws.values_change_by_shared_lists.Goals as goal

pub returns : goal.returns
returns g c = λ client server for_client for_server events next is_client is_server client_fits server_fits.
    plays-changes g.C.Congestion.control g.met.C.Congestion.lawful c.every_step_has_one_effect.ensures client server for_client for_server events next
    client_fits
    server_fits is_client is_server
