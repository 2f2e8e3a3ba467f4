-- Where the greatest number received of an end comes from (RFC 4340, section 8.5, steps 5 to 8).
use Rattle.std.specs.Prelude.{◌≡◌, ◌≢◌, ◌⊎◌, ℕ, true, List, ◌∷◌, ◌++◌, Some, Ok, Contains, slice_get}
use Rattle.congestion_trait.specs.Control.{Control}
use Rattle.dccp_endpoint.specs.End.{EndState}
use Rattle.dccp_endpoint.specs.Incoming.{Incoming}
use Rattle.dccp_endpoint.specs.Outcomes.{IsValidPacket}
use Rattle.dccp_endpoint.specs.Receiving.{is_unexpected}
use Rattle.dccp_states.specs.declared.outcome.Outcome.TheVariants as outcome
use Rattle.dccp_states.specs.declared.phase.Phase.TheVariants as phases
use Rattle.dccp_states.specs.declared.seen.Seen.TheVariants as seen
use Rattle.two_ends.specs.Controlled.{ControlledWorld, happens_to, plays}
use Rattle.two_ends.specs.Remembered.{HasHeardFirst}
use Rattle.two_ends.specs.World.{Half, half_of}
use Rattle.two_ends.specs.declared.frames.SentFrame.{SentFrame}
use Rattle.world_events.specs.Actors.{other}
use Rattle.world_events.specs.declared.event.Event.{Event}
use Rattle.world_events.specs.declared.event.Event.TheVariants as event
use Rattle.world_events.specs.declared.event.Side.{Side}

-- The bytes are a packet with this number that is valid, and whose type the phase does not expect: step 7 refuses it.
pub record IsOutOfPlace (e : EndState) (bytes : List ℕ) (number : ℕ) : Type 0 where
  pub packet : Incoming
  pub entered : EndState
  pub valid : IsValidPacket e bytes packet entered
  pub unexpected : is_unexpected entered packet ≡ true
  pub has_number : number ≡ packet.number

-- Among the events a frame of the other side with this number arrives, is out of place, and a Sync of the number answers it.
pub record WasRefused {C : Type 0} (control : Control C) (start : ControlledWorld C) (events : List Event) (side : Side) (number : ℕ) : Type 0 where
  pub early : List Event
  pub index : ℕ
  pub later : List Event
  pub is_among : events ≡ early ++ event.Deliver (other side) index ∷ later
  pub frame : SentFrame
  pub is_there : slice_get (half_of (plays control start early).world (other side)).frames index ≡ Some frame
  pub is_numbered : frame.number ≡ number
  pub out_of_place : IsOutOfPlace (half_of (plays control start early).world side).end frame.bytes number
  pub after : ControlledWorld C
  pub answered : happens_to control (plays control start early) (event.Deliver (other side) index)
      ≡ Ok (record { after = after; seen = seen.Received (outcome.Synced number) })

-- Once the side received a first number, and while its phase is not CLOSED, it processed GSR, or GSR was refused.
abbrev pub IsGreatestMet : Half → (ℕ → Type 0) → Type 0
IsGreatestMet half refused =
    half.end.phase ≢ phases.Closed → HasHeardFirst half → Contains half.processed half.end.marks.gsr ⊎ refused half.end.marks.gsr

-- The same for a side after the events.
abbrev pub GreatestIsMet : {C : Type 0} → Control C → ControlledWorld C → List Event → Side → Type 0
GreatestIsMet control start events side = IsGreatestMet (half_of (plays control start events).world side) (WasRefused control start events side)
