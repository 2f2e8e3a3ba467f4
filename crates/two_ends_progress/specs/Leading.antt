-- Short ways on from a world: timers and deliveries that lead to a goal (own).
use Rattle.std.specs.Prelude.{◌≡◌, ◌⊎◌, ℕ, ◌+◌, ◌-◌, ◌^◌, ◌<◌, ◌≤◌, List, [], ◌∷◌, length}
use Rattle.congestion_trait.specs.Control.{Control}
use Rattle.dccp_states.specs.declared.phase.Phase.TheVariants as phases
use Rattle.two_ends.specs.Controlled.{ControlledWorld, plays}
use Rattle.two_ends.specs.World.{WorldState, half_of}
use Rattle.world_events.specs.declared.event.Event.{Event}
use Rattle.world_events.specs.declared.event.Event.TheVariants as event
use Rattle.world_events.specs.declared.event.Side.{Side}

-- The event is a timer or a delivery, and no call of an owner.
abbrev pub IsPassive : Event → Type 0
IsPassive event.Open = ⊥
IsPassive (event.Deliver from index) = Unit {0}
IsPassive (event.Send side payload) = ⊥
IsPassive (event.SendEarly side payload) = ⊥
IsPassive (event.Prefer side feature place values) = ⊥
IsPassive (event.Timer side timer) = Unit {0}
IsPassive (event.Close side) = ⊥
IsPassive (event.Abort side) = ⊥

-- all of these events are
abbrev pub ArePassive : List Event → Type 0
ArePassive [] = Unit {0}
ArePassive (now ∷ later) = IsPassive now × ArePassive later

-- Some list of at most this many timers and deliveries leads from the world to the goal.
pub record HasWay {C : Type 0} (control : Control C) (most : ℕ) (w : ControlledWorld C) (goal : ControlledWorld C → Type 0) : Type 0 where
  pub events : List Event
  pub are_passive : ArePassive events
  pub few : length events ≤ most
  pub leads : goal (plays control w events)

-- both ends are OPEN
abbrev pub AreOpen : WorldState → Type 0
AreOpen w = (side : Side) → (half_of w side).end.phase ≡ phases.Open

-- the end of a side is CLOSED, or waits in TIMEWAIT (RFC 4340, section 8.3)
abbrev pub IsOver : WorldState → Side → Type 0
IsOver w side = ((half_of w side).end.phase ≡ phases.Closed) ⊎ ((half_of w side).end.phase ≡ phases.TimeWait)

-- both are
abbrev pub AreOver : WorldState → Type 0
AreOver w = (side : Side) → IsOver w side

-- Each side may send this many more frames before it is full. A side that is full takes no event at all.
abbrev pub HaveRoomFor : ℕ → WorldState → Type 0
HaveRoomFor more w = (side : Side) → length (half_of w side).frames + more < 2 ^ 47 - 1
