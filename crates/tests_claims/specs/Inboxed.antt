-- Two ends with inboxes after some schedule (own).
use Rattle.std.specs.Prelude.{◌≡◌, ℕ, List}
use Rattle.congestion_trait.specs.Control.{Control}
use Rattle.dccp_endpoint.specs.Drafts.{Fits}
use Rattle.dccp_endpoint.specs.declared.config.Config.{Config}
use Rattle.dccp_states.specs.declared.phase.Role.TheVariants.{Client, Server}
use Rattle.two_inboxes.specs.Inboxes.{InboxEvent, InboxPair, begins_with_inboxes, inbox_plays}

-- some schedule leads here from a client and a server with each other's addresses, with inboxes for this many packets
pub record ReachedWithInboxes {C : Type 0} (control : Control C) (w : InboxPair C) : Type 0 where
  pub client : Config
  pub server : Config
  pub for_client : C
  pub for_server : C
  pub client_most : ℕ
  pub server_most : ℕ
  pub is_client : client.role ≡ Client
  pub is_server : server.role ≡ Server
  pub client_fits : Fits client
  pub server_fits : Fits server
  pub there : server.pseudo_in ≡ client.pseudo_out
  pub back : client.pseudo_in ≡ server.pseudo_out
  pub events : List InboxEvent
  pub same : w ≡ inbox_plays control (begins_with_inboxes control client server for_client for_server client_most server_most) events
