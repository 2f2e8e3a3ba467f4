-- One more event leads from a world that a schedule reached to another.
use Rattle.std.proofs.Common.{◌≡◌, refl, ap, sym, ◌∙◌, subst, List, [], ◌∷◌, ◌++◌, Result, Ok, Err, IfOk, OnErr}
use Rattle.congestion_trait.specs.Control.{Control}
use Rattle.dccp_endpoint.specs.declared.config.Config.{Config}
use Rattle.dccp_states.specs.declared.phase.Role.TheVariants.{Client, Server}
use Rattle.world_events.specs.declared.event.Event.{Event}
use Rattle.dccp_states.specs.declared.seen.Seen.{Seen}
use Rattle.world_events.specs.declared.event.Side.{Side}
use Rattle.world_events.specs.declared.event.Side.TheVariants as side
use Rattle.world_events.specs.declared.event.WorldFault.{WorldFault}
use Rattle.dccp_endpoint.specs.Drafts.{Fits}
use Rattle.two_ends.specs.Controlled.{ControlledWorld, begins_with, congestion_of, controlled_after, controls, happens_to, plays, said_by}
use Rattle.two_ends.specs.World.{Occurrence, WorldStep, happens, world_after, world_after_all}
use Rattle.world_events.specs.Actors.{actor}
use Rattle.two_ends.specs.Reached.{ReachedByEvents}

module _ {C : Type 0} (control : Control C) where
  -- What a step makes of a world is what it makes of its two ends alone, with what the congestion control says.
  pub world-after : (w : ControlledWorld C) (acting : Side) (r : Result WorldStep WorldFault)
      → (controlled_after w (controls control w acting r)).world ≡ world_after w.world r
  world-after w side.Client (Ok step) = refl
  world-after w side.Server (Ok step) = refl
  world-after w acting (Err fault) = refl

  -- the events of a schedule with what the congestion controls say in it
  abbrev pub occurring : ControlledWorld C → List Event → List Occurrence
  occurring w [] = []
  occurring w (event ∷ events) =
      record { event = event; said = said_by control (congestion_of w (actor event)) }
      ∷ occurring (controlled_after w (happens_to control w event)) events

  pub plays-run : (w : ControlledWorld C) (events : List Event) → (plays control w events).world ≡ world_after_all w.world (occurring w events)
  plays-run w [] = refl
  plays-run w (event ∷ events) =
      let next : ControlledWorld C = controlled_after w (happens_to control w event) in
      plays-run next events
      ∙ ap (λ world. world_after_all world (occurring next events))
      (world-after w (actor event) (happens w.world event (said_by control (congestion_of w (actor event)))))

  plays-snoc : (w : ControlledWorld C) (events : List Event) (event : Event)
      → plays control w (events ++ event ∷ []) ≡ controlled_after (plays control w events) (happens_to control (plays control w events) event)
  plays-snoc w [] event = refl
  plays-snoc w (e ∷ events) event = plays-snoc (controlled_after w (happens_to control w e)) events event

  pub start-reached : (client server : Config) (for_client for_server : C) → client.role ≡ Client → server.role ≡ Server → Fits client → Fits server
      → (w : ControlledWorld C) → w ≡ begins_with control client server for_client for_server → ReachedByEvents control w
  start-reached client server for_client for_server is_client is_server client_fits server_fits w same =
      record {
        client = client;
        server = server;
        for_client = for_client;
        for_server = for_server;
        is_client = is_client;
        is_server = is_server;
        client_fits = client_fits;
        server_fits = server_fits;
        events = [];
        same = same;
      }

  -- what `step` answers, and the world that it leaves
  abbrev pub Leaves : ControlledWorld C → Event → ControlledWorld C → Result Seen WorldFault → Type 0
  Leaves old event new (Ok seen) = happens_to control old event ≡ Ok (record { after = new; seen = seen })
  Leaves old event new (Err fault) = new ≡ old

  pub leaves : (old : ControlledWorld C) (event : Event) (new : ControlledWorld C) (result : Result Seen WorldFault)
      → IfOk result (λ seen. happens_to control old event ≡ Ok (record { after = new; seen = seen })) → OnErr result (new ≡ old) → Leaves old event new result
  leaves old event new (Ok seen) took same = took
  leaves old event new (Err fault) took same = same

  pub step-reached : (old : ControlledWorld C) (event : Event) (new : ControlledWorld C) (result : Result Seen WorldFault) → Leaves old event new result
      → ReachedByEvents control old → ReachedByEvents control new
  step-reached old event new (Err fault) same r = subst (ReachedByEvents control) (sym same) r
  step-reached old event new (Ok seen) took r =
      record {
        client = r.client;
        server = r.server;
        for_client = r.for_client;
        for_server = r.for_server;
        is_client = r.is_client;
        is_server = r.is_server;
        client_fits = r.client_fits;
        server_fits = r.server_fits;
        events = r.events ++ event ∷ [];
        same =
            sym (ap (controlled_after old) took)
            ∙ ap (λ (w : ControlledWorld C). controlled_after w (happens_to control w event)) r.same
            ∙ sym (plays-snoc (begins_with control r.client r.server r.for_client r.for_server) r.events event);
      }
