-- What an end of each role is made from (RFC 4340, sections 7.2, 8.1.2 and 9.1).
use Rattle.std.specs.Prelude.{ℕ}
use Rattle.dccp_sum.specs.declared.pseudo_header.Pseudo.{Pseudo}
use Rattle.dccp_sum.specs.Checksum.{reversed}
use Rattle.dccp_states.specs.declared.phase.Role.{Role}
use Rattle.feature_machine.specs.Lists.{usual_lists}
use Rattle.ack_vectors.specs.declared.room.Vectors.TheVariants.{One}
use Rattle.dccp_endpoint.specs.declared.config.Config.{Config}
use Rattle.dccp_endpoint.specs.declared.config.Ports.{Ports}

-- between these addresses and ports, for this service, with this first number and the usual lists
abbrev pub configured : Role → Pseudo → Ports → ℕ → ℕ → Config
configured role addresses ports service iss =
    record {
      role = role;
      pseudo_out = addresses;
      pseudo_in = reversed addresses;
      own_port = ports.own;
      peer_port = ports.peer;
      service = service;
      iss = iss;
      lists = usual_lists;
      vectors = One;
    }
