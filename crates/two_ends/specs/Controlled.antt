-- Two ends with their congestion controls (own): each event asks the congestion control of the side that acts, and its step calls it.
use Rattle.std.specs.Prelude.{◌≢◌, ℕ, ◌^◌, ◌<◌, List, [], ◌∷◌, length, Option, Result, Ok, Err}
use Rattle.congestion_trait.specs.Control.{Control, may_send}
use Rattle.dccp_endpoint.specs.Controlled.{End, after_calls, begins, has_in_flight}
use Rattle.dccp_endpoint.specs.Inputs.{Input}
use Rattle.dccp_endpoint.specs.declared.config.Config.{Config}
use Rattle.two_ends.specs.World.{Half, WorldState, WorldStep, Said, at_start, half_at_start, half_of, half_steps, happens}
use Rattle.world_events.specs.Actors.{actor}
use Rattle.world_events.specs.declared.event.Event.{Event}
use Rattle.dccp_states.specs.declared.seen.Seen.{Seen}
use Rattle.world_events.specs.declared.event.Side.{Side}
use Rattle.world_events.specs.declared.event.Side.TheVariants.{Client, Server}
use Rattle.world_events.specs.declared.event.WorldFault.{WorldFault}
use Rattle.world_events.specs.declared.event.WorldFault.TheVariants as fault

-- the two ends with all that they sent and processed, and the congestion control of each
pub record ControlledWorld (C : Type 0) : Type 0 where
  pub world : WorldState
  pub for_client : C
  pub for_server : C

-- the world after an event that took place, and what was seen of the end's step
pub record ControlledStep (C : Type 0) : Type 0 where
  pub after : ControlledWorld C
  pub seen : Seen

-- one side of it
pub record ControlledHalf (C : Type 0) : Type 0 where
  pub half : Half
  pub congestion : C

-- a side after a step of its end, and what was seen of it
pub record ControlledHalfStep (C : Type 0) : Type 0 where
  pub after : ControlledHalf C
  pub seen : Seen

-- each side has its own congestion control
abbrev pub congestion_of : {C : Type 0} → ControlledWorld C → Side → C
congestion_of w Client = w.for_client
congestion_of w Server = w.for_server

-- the end of a side, with its congestion control
abbrev pub end_of_side : {C : Type 0} → ControlledWorld C → Side → End C
end_of_side w side = record { state = (half_of w.world side).end; congestion = congestion_of w side }

-- what a congestion control says when it is asked
abbrev pub said_by : {C : Type 0} → Control C → C → Said
said_by control congestion = record { may_send = may_send control congestion; in_flight = has_in_flight control congestion }

-- one step of a side's end, whose congestion control hears of it
abbrev pub controlled_half_steps : {C : Type 0} → Control C → ControlledHalf C → Option ℕ → Input → ControlledHalfStep C
controlled_half_steps control side arrived given =
    record {
      after =
          record {
            half = (half_steps side.half arrived given).half;
            congestion = after_calls control side.congestion (half_steps side.half arrived given).calls;
          };
      seen = (half_steps side.half arrived given).seen;
    }

-- the world after a step of a side, whose congestion control has heard of it
abbrev pub controlled : {C : Type 0} → Control C → ControlledWorld C → Side → WorldStep → ControlledWorld C
controlled control w Client step = record w { world = step.world; for_client = after_calls control w.for_client step.calls }
controlled control w Server step = record w { world = step.world; for_server = after_calls control w.for_server step.calls }

-- an event that cannot happen calls no congestion control
abbrev pub controls : {C : Type 0} → Control C → ControlledWorld C → Side → Result WorldStep WorldFault → Result (ControlledStep C) WorldFault
controls control w side (Ok step) = Ok (record { after = controlled control w side step; seen = step.seen })
controls control w side (Err fault) = Err fault

-- one event
abbrev pub happens_to : {C : Type 0} → Control C → ControlledWorld C → Event → Result (ControlledStep C) WorldFault
happens_to control w event = controls control w (actor event) (happens w.world event (said_by control (congestion_of w (actor event))))

-- the world after an event; one that cannot happen changes nothing
abbrev pub controlled_after : {C : Type 0} → ControlledWorld C → Result (ControlledStep C) WorldFault → ControlledWorld C
controlled_after w (Ok step) = step.after
controlled_after w (Err _) = w

-- the world after a whole schedule
abbrev pub plays : {C : Type 0} → Control C → ControlledWorld C → List Event → ControlledWorld C
plays control w [] = w
plays control w (event ∷ events) = plays control (controlled_after w (happens_to control w event)) events

-- a side that has sent and received nothing
abbrev pub half_begins : {C : Type 0} → Control C → Config → C → ControlledHalf C
half_begins control config congestion = record { half = half_at_start config; congestion = (begins control config congestion).congestion }

-- two ends that have sent and received nothing, each with its congestion control started
abbrev pub begins_with : {C : Type 0} → Control C → Config → Config → C → C → ControlledWorld C
begins_with control client server for_client for_server =
    record {
      world = at_start client server;
      for_client = (begins control client for_client).congestion;
      for_server = (begins control server for_server).congestion;
    }

-- The world after a whole schedule of two ends that had sent and received nothing.
abbrev pub plays_from_start : {C : Type 0} → Control C → Config → Config → C → C → List Event → ControlledWorld C
plays_from_start control client server for_client for_server events = plays control (begins_with control client server for_client for_server) events

-- If each side has sent fewer than 2^23 frames, the event is not refused for a frame that is far (own).
abbrev pub IsNeverFar : {C : Type 0} → Control C → ControlledWorld C → Event → Type 0
IsNeverFar control w event =
    length w.world.client.frames < 2 ^ 23 → length w.world.server.frames < 2 ^ 23 → happens_to control w event ≢ Err fault.FarShort
