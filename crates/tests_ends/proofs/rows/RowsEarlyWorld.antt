-- Worked data of a client that speaks first, between the two usual ends: its DataAck arrives before its Ack, opens the server, and is delivered.
use Rattle.std.proofs.Common.{◌≡◌, refl, true, false, List, [], ◌∷◌, Option, Some, None, Result, Ok, Err}
use Rattle.dccp_endpoint.specs.Calling.{opens}
use Rattle.dccp_endpoint.specs.Drafts.{framed}
use Rattle.dccp_endpoint.specs.Early.{sends_early}
use Rattle.dccp_endpoint.specs.Receiving.{receives}
use Rattle.dccp_endpoint.specs.Usual.{usual}
use Rattle.dccp_states.specs.declared.phase.Phase.{Phase}
use Rattle.dccp_states.specs.declared.phase.Phase.TheVariants as phase
use Rattle.dccp_states.specs.declared.phase.Role.TheVariants as role
use Rattle.dccp_states.specs.declared.outcome.Outcome.TheVariants.{Took}
use Rattle.world_events.specs.declared.event.Event.{Event}
use Rattle.world_events.specs.declared.event.Event.TheVariants as event
use Rattle.dccp_states.specs.declared.seen.Seen.{Seen}
use Rattle.dccp_states.specs.declared.seen.Seen.TheVariants as seen
use Rattle.world_events.specs.declared.event.Side.{Side}
use Rattle.world_events.specs.declared.event.Side.TheVariants.{Client, Server}
use Rattle.world_events.specs.declared.event.WorldFault.{WorldFault}
use Rattle.two_ends.specs.World.{Occurrence, Said, WorldState, WorldStep, at_start, half_of, happens, world_after_all}

-- the window has room, and no timer is asked for
abbrev said : Said
said = record { may_send = true; in_flight = false }

abbrev now : Event → Occurrence
now e = record { event = e; said = said }

abbrev after : List Occurrence → WorldState
after events = world_after_all (at_start (usual role.Client) (usual role.Server)) events

-- the Request and the Response arrive, and the client, in PARTOPEN, speaks
abbrev spoken : List Occurrence
spoken = now event.Open ∷ now (event.Deliver Client 0) ∷ now (event.Deliver Server 0) ∷ now (event.SendEarly Client (170 ∷ [])) ∷ []

abbrev seen_in : Result WorldStep WorldFault → Option Seen
seen_in (Ok step) = Some step.seen
seen_in (Err why) = None

abbrev phase_in : Side → Result WorldStep WorldFault → Option Phase
phase_in side (Ok step) = Some (half_of step.world side).end.phase
phase_in side (Err why) = None

early-data-between-ends :
    (seen_in (happens (after spoken) (event.Deliver Client 2) said) ≡ Some (seen.Received (Took (Some (28, 29)))))
    × (phase_in Server (happens (after spoken) (event.Deliver Client 2) said) ≡ Some phase.Open)
    × (phase_in Client (happens (after spoken) (event.Deliver Client 2) said) ≡ Some phase.PartOpen)
unfolding receives opens sends_early framed
early-data-between-ends = (refl, refl, refl)
