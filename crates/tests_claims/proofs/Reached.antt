-- A world that a list of events reached is safe, and has its facts, by the laws on all lists.
use Rattle.std.proofs.Common.{◌≡◌, List, sym, subst}
use Rattle.congestion_trait.specs.Control.{Control}
use Rattle.dccp_endpoint.specs.Drafts.{Fits}
use Rattle.dccp_endpoint.specs.declared.config.Config.{Config}
use Rattle.dccp_states.specs.declared.phase.Role.TheVariants.{Client, Server}
use Rattle.two_ends.specs.Controlled.{ControlledWorld, plays_from_start}
use Rattle.two_ends.specs.Numbered.{Facts}
use Rattle.two_ends.specs.Reached.{ReachedByEvents}
use Rattle.two_ends.specs.Safe.{Safe}
use Rattle.world_events.specs.declared.event.Event.{Event}

module _ {C : Type 0} (control : Control C)
    (law : (client server : Config) (for_client for_server : C) (events : List Event) → client.role ≡ Client → server.role ≡ Server
    → Fits client → Fits server → Safe control (plays_from_start control client server for_client for_server events)) where
  pub safe : (w : ControlledWorld C) → ReachedByEvents control w → Safe control w
  safe w r =
      subst (Safe control) (sym r.same)
      (law r.client r.server r.for_client r.for_server r.events r.is_client r.is_server r.client_fits r.server_fits)

-- So its facts hold.
module _ {C : Type 0} (control : Control C)
    (law : (client server : Config) (for_client for_server : C) (events : List Event) → Fits client → Fits server
    → Facts (plays_from_start control client server for_client for_server events).world) where
  pub facts : (w : ControlledWorld C) → ReachedByEvents control w → Facts w.world
  facts w r =
      subst (λ (x : ControlledWorld C). Facts x.world) (sym r.same)
      (law r.client r.server r.for_client r.for_server r.events r.client_fits r.server_fits)
