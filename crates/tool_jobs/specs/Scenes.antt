-- What takes place in a schedule, event by event (own).
use Rattle.std.specs.Prelude.{◌≡◌, ℕ, ◌++◌, List, [], ◌∷◌, length, map, Ok}
use Rattle.ccid_two.specs.Kinds.{Both, kinds_control}
use Rattle.schedule_text.specs.Results.{seen_line}
use Rattle.tool_jobs.specs.WorldLines.{arrived, sent_line}
use Rattle.two_ends.specs.Controlled.{ControlledWorld, ControlledStep, happens_to}
use Rattle.two_ends.specs.World.{half_of}
use Rattle.world_events.specs.Actors.{actor}
use Rattle.world_events.specs.declared.event.Event.{Event}

-- An event that took place: the number of its line, the world in which it took place, and the step that it made.
pub record Scene : Type 0 where
  pub number : ℕ
  pub before : ControlledWorld Both
  pub event : Event
  pub step : ControlledStep Both

-- Its lines: the result of the event, and the frame that its actor sent, if it sent one.
abbrev pub scene_text : Scene → List ℕ
scene_text scene =
    seen_line scene.number scene.event scene.step.seen (arrived scene.step.after.world scene.event)
    ++ sent_line scene.step.after.world (actor scene.event) (length (half_of scene.before.world (actor scene.event)).frames)

-- the events that took place, in their order
abbrev pub scene_events : List Scene → List Event
scene_events scenes = map (λ scene. scene.event) scenes

-- Each event takes place in the world that the one before it left: the first in `first`, and `last` is what they leave.
abbrev pub IsRun : ControlledWorld Both → List Scene → ControlledWorld Both → Type 0
IsRun first [] last = last ≡ first
IsRun first (scene ∷ scenes) last = (scene.before ≡ first) × (happens_to kinds_control first scene.event ≡ Ok scene.step) × IsRun scene.step.after scenes last
