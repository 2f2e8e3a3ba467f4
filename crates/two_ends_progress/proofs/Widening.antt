-- No window of two ends is ever closed.
use Rattle.std.proofs.Common.{◌≤◌, List, [], ◌∷◌, Result, Ok, Err}
use Rattle.std.specs.List.{filter}
use Rattle.congestion_trait.specs.Control.{Control, KeepsWindow}
use Rattle.congestion_trait.proofs.Keeping.{open_run}
use Rattle.dccp_endpoint.specs.Controlled.{is_made}
use Rattle.dccp_endpoint.specs.declared.config.Config.{Config}
use Rattle.feature_lists.specs.Features.{initial_of}
use Rattle.feature_lists.specs.declared.features.Feature.TheVariants.{Ccid}
use Rattle.two_ends.specs.Controlled.{ControlledWorld, begins_with, congestion_of, controlled_after, controls, plays, said_by}
use Rattle.two_ends.specs.World.{WorldStep, happens}
use Rattle.world_events.specs.Actors.{actor}
use Rattle.world_events.specs.declared.event.Event.{Event}
use Rattle.world_events.specs.declared.event.Side.{Side}
use Rattle.world_events.specs.declared.event.Side.TheVariants.{Client, Server}
use Rattle.world_events.specs.declared.event.WorldFault.{WorldFault}
use Rattle.two_ends_progress.proofs.Leading.{next}

module _ {C : Type 0} (control : Control C) (keeps : KeepsWindow control) where
  -- the congestion control of each side lets one packet out at least
  abbrev pub AreWide : ControlledWorld C → Type 0
  AreWide w = (side : Side) → 1 ≤ control.window (congestion_of w side)

  wide-after : (w : ControlledWorld C) (acting : Side) (r : Result WorldStep WorldFault) → AreWide w → AreWide (controlled_after w (controls control w acting r))
  wide-after w acting (Err why) wide side = wide side
  wide-after w Client (Ok step) wide Client = open_run control keeps w.for_client (filter (is_made control) step.calls) (wide Client)
  wide-after w Client (Ok step) wide Server = wide Server
  wide-after w Server (Ok step) wide Client = wide Client
  wide-after w Server (Ok step) wide Server = open_run control keeps w.for_server (filter (is_made control) step.calls) (wide Server)

  pub wide-next : (w : ControlledWorld C) (e : Event) → AreWide w → AreWide (next control w e)
  wide-next w e = wide-after w (actor e) (happens w.world e (said_by control (congestion_of w (actor e))))

  pub wide-plays : (w : ControlledWorld C) (events : List Event) → AreWide w → AreWide (plays control w events)
  wide-plays w [] wide = wide
  wide-plays w (event ∷ events) wide = wide-plays (next control w event) events (wide-next w event wide)

  pub wide-begins : (client server : Config) (for_client for_server : C) → AreWide (begins_with control client server for_client for_server)
  wide-begins client server for_client for_server Client = keeps.start_opens for_client (initial_of Ccid)
  wide-begins client server for_client for_server Server = keeps.start_opens for_server (initial_of Ccid)
