-- The two ends that every schedule begins with (own).
use Rattle.std.specs.Prelude.{[], ◌∷◌}
use Rattle.dccp_sum.specs.declared.pseudo_header.Pseudo.{Pseudo}
use Rattle.dccp_sum.specs.declared.pseudo_header.Pseudo.TheVariants.{V4}
use Rattle.dccp_endpoint.specs.declared.config.Config.{Config}
use Rattle.feature_machine.specs.Lists.{usual_lists}
use Rattle.ack_vectors.specs.declared.room.Vectors.TheVariants.{One}
use Rattle.dccp_states.specs.declared.phase.Role.{Role}
use Rattle.dccp_states.specs.declared.phase.Role.TheVariants.{Client, Server}

-- from the client 10.0.0.1 to the server 10.0.0.2
abbrev pub to_server : Pseudo
to_server = V4 (10 ∷ 0 ∷ 0 ∷ 1 ∷ []) (10 ∷ 0 ∷ 0 ∷ 2 ∷ [])

-- the same two addresses the other way round
abbrev pub to_client : Pseudo
to_client = V4 (10 ∷ 0 ∷ 0 ∷ 2 ∷ []) (10 ∷ 0 ∷ 0 ∷ 1 ∷ [])

-- the client's port is 40000 and its first number 1000, the server's are 5001 and 2000; the service code is 42, the
-- lists are the usual ones, with their offers, and an Ack Vector has one option
abbrev pub usual : Role → Config
usual Client =
    record { role = Client; pseudo_out = to_server; pseudo_in = to_client; own_port = 40000; peer_port = 5001; service = 42; iss = 1000; lists = usual_lists; vectors = One }
usual Server =
    record { role = Server; pseudo_out = to_client; pseudo_in = to_server; own_port = 5001; peer_port = 40000; service = 42; iss = 2000; lists = usual_lists; vectors = One }
