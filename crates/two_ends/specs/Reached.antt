-- How a world came about (own).
use Rattle.std.specs.Prelude.{◌≡◌, List}
use Rattle.congestion_trait.specs.Control.{Control}
use Rattle.dccp_endpoint.specs.declared.config.Config.{Config}
use Rattle.dccp_states.specs.declared.phase.Role.TheVariants.{Client, Server}
use Rattle.dccp_endpoint.specs.Drafts.{Fits}
use Rattle.two_ends.specs.Controlled.{ControlledWorld, begins_with, plays}
use Rattle.world_events.specs.declared.event.Event.{Event}

-- two ends with configurations that fit, which have sent and received nothing
pub record IsBeginning {C : Type 0} (control : Control C) (w : ControlledWorld C) : Type 0 where
  pub client : Config
  pub server : Config
  pub for_client : C
  pub for_server : C
  pub client_fits : Fits client
  pub server_fits : Fits server
  pub same : w ≡ begins_with control client server for_client for_server

-- some schedule leads here from a client and a server that have sent and received nothing
pub record ReachedByEvents {C : Type 0} (control : Control C) (w : ControlledWorld C) : Type 0 where
  pub client : Config
  pub server : Config
  pub for_client : C
  pub for_server : C
  pub is_client : client.role ≡ Client
  pub is_server : server.role ≡ Server
  pub client_fits : Fits client
  pub server_fits : Fits server
  pub events : List Event
  pub same : w ≡ plays control (begins_with control client server for_client for_server) events
