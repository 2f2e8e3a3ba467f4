-- Two configurations that belong to one connection (own): the packets of the one are those that the other expects.
use Rattle.std.specs.Prelude.{◌≡◌}
use Rattle.dccp_endpoint.specs.declared.config.Config.{Config}

-- The packets of the first have the addresses and the ports that the second expects on its connection.
pub record IsSentTo (from to : Config) : Type 0 where
  pub addresses : to.pseudo_in ≡ from.pseudo_out
  pub source : from.own_port ≡ to.peer_port
  pub target : from.peer_port ≡ to.own_port

-- the same in both directions
pub record AreForEachOther (client server : Config) : Type 0 where
  pub there : IsSentTo client server
  pub back : IsSentTo server client
