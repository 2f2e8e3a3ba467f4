-- Ways and their goals as README has them (own).
use Rattle.std.specs.Prelude.{◌≡◌, ◌⊎◌, ◌≤◌, ℕ, List, Some, length, slice_get}
use Rattle.dccp_states.specs.declared.calls.Timer.{Timer}
use Rattle.dccp_states.specs.declared.phase.Phase.TheVariants as phases
use Rattle.two_ends.specs.World.{WorldState, half_of}
use Rattle.world_events.specs.declared.event.Event.{Event}
use Rattle.world_events.specs.declared.event.Event.TheVariants as event
use Rattle.world_events.specs.declared.event.Side.{Side}

-- at most this many events, each of them a timer that fires or a frame that arrives
pub record IsPassiveWay (most : ℕ) (way : List Event) : Type 0 where
  pub few : length way ≤ most
  pub passive : (place : ℕ) (e : Event) → slice_get way place ≡ Some e
      → ((side : Side) × ((timer : Timer) × (e ≡ event.Timer side timer))) ⊎ ((from : Side) × ((index : ℕ) × (e ≡ event.Deliver from index)))

-- both ends are OPEN
abbrev pub AreBothOpen : WorldState → Type 0
AreBothOpen w = (w.client.end.phase ≡ phases.Open) × (w.server.end.phase ≡ phases.Open)

-- the end of a side is CLOSED or in TIMEWAIT
abbrev pub IsEndOver : WorldState → Side → Type 0
IsEndOver w side = ((half_of w side).end.phase ≡ phases.Closed) ⊎ ((half_of w side).end.phase ≡ phases.TimeWait)

-- the end of at least one side is CLOSED or in TIMEWAIT
abbrev pub IsAnEndOver : WorldState → Type 0
IsAnEndOver w = (side : Side) × IsEndOver w side
