-- Two ends, all frames that they ever sent, and what happens to them (own). The choice of deliveries covers frames that are lost, repeated or
-- reordered.
use Rattle.std.specs.Prelude.{◌≡◌, ℕ, ◌-◌, ◌^◌, ◌≤◌, ◌&&◌, ◌||◌, Bool, true, false, nat_le, nat_lt, if◌then◌else◌, List, [], ◌∷◌, ◌++◌, length, Option, Some, None, Result, Ok, Err, slice_get, ◌<◌, Vec, vec_len, vec_capacity}
use Rattle.dccp_endpoint.specs.End.{EndState, new_end, floor_of, marked_of}
use Rattle.dccp_endpoint.specs.Inputs.{Input, end_stepped}
use Rattle.dccp_endpoint.specs.Inputs as input
use Rattle.dccp_endpoint.specs.Receiving.{takes_short}
use Rattle.dccp_endpoint.specs.Steps.{Step}
use Rattle.dccp_endpoint.specs.UserCalls.{input_of, seen_of}
use Rattle.dccp_states.specs.declared.calls.UserCall.{UserCall}
use Rattle.congestion_trait.specs.Calls.{Call}
use Rattle.dccp_endpoint.specs.declared.config.Config.{Config}
use Rattle.world_events.specs.Actors.{actor, other}
use Rattle.seq_circle.specs.Circle.{is_ack_far, is_far}
use Rattle.dccp_packets.specs.Outgoing.{Outgoing}
use Rattle.two_ends.specs.Frames.{is_short_packet, packet_of}
use Rattle.two_ends.specs.declared.frames.SentFrame.{SentFrame}
use Rattle.world_events.specs.declared.event.Side.{Side}
use Rattle.world_events.specs.declared.event.Side.TheVariants.{Client, Server}
use Rattle.world_events.specs.declared.event.Event.{Event}
use Rattle.world_events.specs.declared.event.Event.TheVariants as event
use Rattle.dccp_states.specs.declared.seen.Seen.{Seen}
use Rattle.world_events.specs.declared.event.WorldFault.{WorldFault}
use Rattle.world_events.specs.declared.event.WorldFault.TheVariants as fault

-- one side: its end, the frames that it ever sent, oldest first, and the numbers that it processed, in order
pub record Half : Type 0 where
  pub end : EndState
  pub frames : List SentFrame
  pub processed : List ℕ

-- the two sides between which the frames go, with all that either has sent
pub record WorldState : Type 0 where
  pub client : Half
  pub server : Half

-- a side's next state, with what is due to its congestion control, in order, and what its step answered
pub record HalfStep : Type 0 where
  pub half : Half
  pub calls : List Call
  pub seen : Seen

-- the same for the world
pub record WorldStep : Type 0 where
  pub world : WorldState
  pub calls : List Call
  pub seen : Seen

-- A frame as it is kept: with the numbers that its sender gives it, how many numbers its sender had processed, that step's included, and its
-- floor.
abbrev pub as_sent : ℕ → ℕ → Option Outgoing → List SentFrame
as_sent processed floor None = []
as_sent processed floor (Some sent) =
    record { bytes = sent.bytes; number = sent.number; ack = sent.ack; processed = processed; floor = floor } ∷ []

-- A step processes the number of the frame that arrives, if one does, exactly if the end's count of numbers that were taken rises, since an end
-- hands out no list of them. A side is full long before that count could stop at 2^64 - 1.
abbrev pub number_if : Bool → Option ℕ → List ℕ
number_if true (Some number) = number ∷ []
number_if true None = []
number_if false number = []

-- the number that a step processed, if any
abbrev pub newly_processed : EndState → Option ℕ → EndState → List ℕ
newly_processed before arrived after = number_if (nat_lt (marked_of before) (marked_of after)) arrived

-- a side after a step of its end, with its frame at the list's end
abbrev pub half_with : List SentFrame → EndState → List ℕ → Option Outgoing → Half
half_with frames after processed frame =
    record { end = after; frames = frames ++ as_sent (length processed) (floor_of after) frame; processed = processed }

-- a side with what a step of its end has added: at most one frame, and at most one number processed
abbrev pub moved : {Answer : Type 0} → Half → Option ℕ → Step Answer → Half
moved half arrived step = half_with half.frames step.after (half.processed ++ newly_processed half.end arrived step.after) step.frame

-- one step of a side's end, with the number in full of the frame that arrives, if one does
abbrev pub half_steps : Half → Option ℕ → Input → HalfStep
half_steps half arrived given =
    record {
      half = moved half arrived (end_stepped half.end given);
      calls = (end_stepped half.end given).calls;
      seen = seen_of (end_stepped half.end given).answer;
    }

-- one side of the world
abbrev pub half_of : WorldState → Side → Half
half_of w Client = w.client
half_of w Server = w.server

-- the world with one side replaced, and the other as it was
abbrev pub with_half : WorldState → Side → Half → WorldState
with_half w Client half = record w { client = half }
with_half w Server half = record w { server = half }

-- a side has sent all the frames that the order of its numbers allows (RFC 4340, section 3.1)
abbrev pub is_full : Half → Bool
is_full half = nat_le (2 ^ 47 - 1) (length half.frames)

-- the world that a side's step leaves, if it takes one
abbrev pub in_world : WorldState → Side → Result HalfStep WorldFault → Result WorldStep WorldFault
in_world w side (Ok step) = Ok (record { world = with_half w side step.half; calls = step.calls; seen = step.seen })
in_world w side (Err why) = Err why

-- a side that is full takes no step at all
abbrev pub unless_full : WorldState → Side → Result HalfStep WorldFault → Result WorldStep WorldFault
unless_full w side step = if is_full (half_of w side) then Err fault.Full else in_world w side step

-- A frame with short numbers, at an end that takes these, is so far from what the end sent and received that its numbers are ambiguous: its
-- number is 2^23 or more from GSR, or the one that it acknowledges from GSS, up and down the circle (RFC 4340, section 7.6).
abbrev pub is_far_frame : EndState → SentFrame → Bool
is_far_frame e frame =
    takes_short e && (is_short_packet (packet_of frame.bytes) && (is_far frame.number e.marks.gsr || is_ack_far frame.ack e.marks.gss))

-- the world delivers no such frame (own)
abbrev pub unless_far : Half → SentFrame → Bool → Result HalfStep WorldFault
unless_far half frame true = Err fault.FarShort
unless_far half frame false = Ok (half_steps half (Some frame.number) (input.Arrives frame.bytes))

-- a frame arrives at a side, if its numbers are not ambiguous there
abbrev pub arrives_at : Half → SentFrame → Result HalfStep WorldFault
arrives_at half frame = unless_far half frame (is_far_frame half.end frame)

-- a frame of one side arrives at the other
abbrev pub delivers_frame : WorldState → Side → Option SentFrame → Result WorldStep WorldFault
delivers_frame w from None = Err fault.NoSuchFrame
delivers_frame w from (Some frame) = unless_full w (other from) (arrives_at (half_of w (other from)) frame)

-- What an event is: a call of a side, or the delivery of a frame of one side to the other.
pub data Happening : Type 0 where
  Calls : (side : Side) (given : Input) → Happening
  Delivers : (from : Side) (index : ℕ) → Happening

-- What a side's congestion control says when it is asked: whether a further data packet may be sent, and whether some
-- are in flight.
pub record Said : Type 0 where
  pub may_send : Bool
  pub in_flight : Bool

-- a user's call as the end takes it, with what its congestion control says
abbrev pub input_said : UserCall → Said → Input
input_said call said = input_of call said.may_send said.in_flight

-- an event of a schedule, with what the congestion control of the side that acts says to it
abbrev pub happening_of : Event → Said → Happening
happening_of event.Open said = Calls Client input.Opens
happening_of (event.Deliver from index) said = Delivers from index
happening_of (event.Send side payload) said = Calls side (input.Sends payload said.may_send)
happening_of (event.SendEarly side payload) said = Calls side (input.SendsEarly payload said.may_send)
happening_of (event.Prefer side feature place values) said = Calls side (input.Prefers (feature, place) values)
happening_of (event.Timer side timer) said = Calls side (input.Fires timer said.in_flight)
happening_of (event.Close side) said = Calls side input.Closes
happening_of (event.Abort side) said = Calls side input.Aborts

-- a call of an end, or a delivery, for which the frame must exist
abbrev pub takes_place : WorldState → Happening → Result WorldStep WorldFault
takes_place w (Calls side given) = unless_full w side (Ok (half_steps (half_of w side) None given))
takes_place w (Delivers from index) = delivers_frame w from (slice_get (half_of w from).frames index)

-- one event, with what the congestion control of the side that acts says
abbrev pub happens : WorldState → Event → Said → Result WorldStep WorldFault
happens w event said = takes_place w (happening_of event said)

-- the side that acts: the one that is called, or to which a frame is delivered
abbrev pub acting_side : Happening → Side
acting_side (Calls side given) = side
acting_side (Delivers from index) = other from

-- a delivery whose index is not below the number of frames of its sender
abbrev pub LacksFrame : WorldState → Event → Type 0
LacksFrame w event.Open = ⊥
LacksFrame w (event.Deliver from index) = length (half_of w from).frames ≤ index
LacksFrame w (event.Send side payload) = ⊥
LacksFrame w (event.SendEarly side payload) = ⊥
LacksFrame w (event.Prefer side feature place values) = ⊥
LacksFrame w (event.Timer side timer) = ⊥
LacksFrame w (event.Close side) = ⊥
LacksFrame w (event.Abort side) = ⊥

-- The side that would act has sent 2^47 - 1 frames.
abbrev pub ActorIsFull : WorldState → Event → Type 0
ActorIsFull w event = 2 ^ 47 - 1 ≤ length (half_of w (actor event)).frames

-- the frame, if there is one, has short numbers that the end that takes them could not read in full
abbrev pub is_far_at : EndState → Option SentFrame → Bool
is_far_at e None = false
is_far_at e (Some frame) = is_far_frame e frame

-- a delivery of such a frame
abbrev pub DeliversFar : WorldState → Event → Type 0
DeliversFar w event.Open = ⊥
DeliversFar w (event.Deliver from index) = is_far_at (half_of w (other from)).end (slice_get (half_of w from).frames index) ≡ true
DeliversFar w (event.Send side payload) = ⊥
DeliversFar w (event.SendEarly side payload) = ⊥
DeliversFar w (event.Prefer side feature place values) = ⊥
DeliversFar w (event.Timer side timer) = ⊥
DeliversFar w (event.Close side) = ⊥
DeliversFar w (event.Abort side) = ⊥

-- the world after an event; one that cannot happen changes nothing
abbrev pub world_after : WorldState → Result WorldStep WorldFault → WorldState
world_after w (Ok step) = step.world
world_after w (Err _) = w

-- an event with what the congestion control of the side that acts says
pub record Occurrence : Type 0 where
  pub event : Event
  pub said : Said

-- the world after a whole schedule, whatever the congestion controls say in it
abbrev pub world_after_all : WorldState → List Occurrence → WorldState
world_after_all w [] = w
world_after_all w (now ∷ later) = world_after_all (world_after w (happens w now.event now.said)) later

-- two ends that have sent and received nothing
abbrev pub half_at_start : Config → Half
half_at_start config = record { end = new_end config; frames = []; processed = [] }

-- two sides with their configurations, of which neither has sent a frame
abbrev pub at_start : Config → Config → WorldState
at_start client server = record { client = half_at_start client; server = half_at_start server }

-- a list has a place for one more
abbrev pub HasPlace : {X Z : Type 0} → Vec X Z → Type 0
HasPlace list = vec_len list < vec_capacity list

-- a block has room for the longest frame
abbrev pub HasRoomForFrame : {X Z : Type 0} → Vec X Z → Type 0
HasRoomForFrame block = 2044 ≤ vec_capacity block
