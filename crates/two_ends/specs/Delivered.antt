-- Data that the ends deliver, frame by frame (RFC 4340, section 8.5, step 16).
--
-- The outcome of a step says whether it delivers data: its place is one in the frame's bytes, and the frame's number is in the world's list. A
-- law over schedules names frames by sender and index, as events do.
use Rattle.std.specs.Prelude.{◌≡◌, ℕ, ◌≤◌, true, List, [], ◌∷◌, ◌++◌, length, drop, slice_get, Option, Some, None, Result, Ok, Err}
use Rattle.congestion_trait.specs.Control.{Control}
use Rattle.dccp_endpoint.specs.Reporting.{carries_data}
use Rattle.dccp_packets.specs.Grammar.{Parts, packet_type}
use Rattle.dccp_states.specs.declared.outcome.Outcome.TheVariants as outcome
use Rattle.world_events.specs.Actors.{other}
use Rattle.world_events.specs.declared.event.Event.{Event}
use Rattle.world_events.specs.declared.event.Event.TheVariants as event
use Rattle.dccp_states.specs.declared.seen.Seen.{Seen}
use Rattle.dccp_states.specs.declared.seen.Seen.TheVariants as seen
use Rattle.world_events.specs.declared.event.Side.{Side}
use Rattle.world_events.specs.declared.event.WorldFault.{WorldFault}
use Rattle.two_ends.specs.declared.frames.SentFrame.{SentFrame}
use Rattle.two_ends.specs.Controlled.{ControlledWorld, ControlledStep, controlled_after, happens_to}
use Rattle.two_ends.specs.Frames.{packet_of}
use Rattle.two_ends.specs.World.{WorldState, half_of}

-- the place, in the bytes that arrived, of the data that are delivered, if some are
abbrev pub place_delivered : Seen → Option (ℕ × ℕ)
place_delivered (seen.Received (outcome.Took delivered)) = delivered
place_delivered _ = None

-- The data at the place, from its first byte up to the frame's end, are those of the frame, a Data or a DataAck; and
-- the receiving side has processed its number by this.
pub record DeliversFrame (old new : WorldState) (from : Side) (index : ℕ) (place : ℕ × ℕ) : Type 0 where
  pub frame : SentFrame
  pub packet : Parts
  pub is_there : slice_get (half_of old from).frames index ≡ Some frame
  pub is_packet : packet_of frame.bytes ≡ Some packet
  pub has_data : carries_data (packet_type packet.header.kind) ≡ true
  pub begins : place.0 ≤ place.1
  pub ends : place.1 ≡ length frame.bytes
  pub are_its_data : drop place.0 frame.bytes ≡ packet.payload
  pub is_processed : (half_of new (other from)).processed ≡ (half_of old (other from)).processed ++ frame.number ∷ []

-- Data are delivered only by the arrival of their frame.
abbrev pub DeliversIn : WorldState → Event → WorldState → ℕ × ℕ → Type 0
DeliversIn old (event.Deliver from index) new place = DeliversFrame old new from index place
DeliversIn old event.Open new place = ⊥
DeliversIn old (event.Send side payload) new place = ⊥
DeliversIn old (event.SendEarly side payload) new place = ⊥
DeliversIn old (event.Prefer side feature located values) new place = ⊥
DeliversIn old (event.Timer side timer) new place = ⊥
DeliversIn old (event.Close side) new place = ⊥
DeliversIn old (event.Abort side) new place = ⊥

-- all that a step delivers
abbrev pub DeliversItsData : WorldState → Event → WorldState → Seen → Type 0
DeliversItsData old event new seen = (place : ℕ × ℕ) → place_delivered seen ≡ Some place → DeliversIn old event new place

-- a frame by its sender and its place among all that this side sent, if data were delivered
abbrev pub named_if : Side → ℕ → Option (ℕ × ℕ) → List (Side × ℕ)
named_if from index (Some place) = (from, index) ∷ []
named_if from index None = []

-- the frame whose data an event delivers, if it does
abbrev pub frame_delivered : Event → Seen → List (Side × ℕ)
frame_delivered (event.Deliver from index) seen = named_if from index (place_delivered seen)
frame_delivered event.Open seen = []
frame_delivered (event.Send side payload) seen = []
frame_delivered (event.SendEarly side payload) seen = []
frame_delivered (event.Prefer side feature located values) seen = []
frame_delivered (event.Timer side timer) seen = []
frame_delivered (event.Close side) seen = []
frame_delivered (event.Abort side) seen = []

-- an event that cannot happen delivers nothing
abbrev pub delivered_by : {C : Type 0} → Event → Result (ControlledStep C) WorldFault → List (Side × ℕ)
delivered_by event (Ok step) = frame_delivered event step.seen
delivered_by event (Err _) = []

-- the frames whose data a schedule delivers, one after another
abbrev pub frames_delivered : {C : Type 0} → Control C → ControlledWorld C → List Event → List (Side × ℕ)
frames_delivered control w [] = []
frames_delivered control w (event ∷ events) =
    delivered_by event (happens_to control w event) ++ frames_delivered control (controlled_after w (happens_to control w event)) events

-- No frame is twice among them.
abbrev pub IsDeliveredOnce : {C : Type 0} → Control C → ControlledWorld C → List Event → Type 0
IsDeliveredOnce control w events =
    (i j : ℕ) (frame : Side × ℕ) → slice_get (frames_delivered control w events) i ≡ Some frame
    → slice_get (frames_delivered control w events) j ≡ Some frame → i ≡ j
