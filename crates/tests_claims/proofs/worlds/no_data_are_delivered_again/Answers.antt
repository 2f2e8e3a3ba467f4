use Rattle.tests_claims.proofs.worlds.no_data_are_delivered_again.Goals as goal

pub returns : goal.returns
returns g c = λ client server for_client for_server events i j frame client_fits server_fits one other.
    c.data_are_delivered_once.ensures client server for_client for_server events client_fits server_fits i j frame one other
