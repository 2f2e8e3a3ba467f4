-- Two ends with inboxes: their frames go out, and arrive, with what the inboxes have to say (own).
use Rattle.std.specs.Prelude.{◌≡◌, ℕ, List, [], ◌∷◌, ◌++◌, length, map, drop, slice_get, Option, Some, None, Result, Ok, Err}
use Rattle.congestion_trait.specs.Control.{Control}
use Rattle.data_dropped.specs.EndHistory.{calls_by}
use Rattle.data_dropped.specs.Frames.{buffered}
use Rattle.data_dropped.specs.History.{History, InboxCall, Takes, Stops, history_after, history_after_all, no_history}
use Rattle.data_dropped.specs.Inbox.{InboxState}
use Rattle.dccp_endpoint.specs.Drafts.{Fits}
use Rattle.dccp_endpoint.specs.End.{last_taken}
use Rattle.dccp_endpoint.specs.declared.config.Config.{Config}
use Rattle.dccp_states.specs.declared.seen.Seen.{Seen}
use Rattle.dccp_states.specs.declared.seen.Seen.TheVariants as seen
use Rattle.dccp_sum.specs.declared.pseudo_header.Pseudo.{Pseudo}
use Rattle.two_ends.specs.Controlled.{ControlledWorld, begins_with, congestion_of, controlled, plays, said_by}
use Rattle.two_ends.specs.World.{Half, Said, WorldStep, delivers_frame, half_of, happens}
use Rattle.two_ends.specs.declared.frames.SentFrame.{SentFrame}
use Rattle.world_events.specs.Actors.{actor}
use Rattle.world_events.specs.declared.event.Event.{Event}
use Rattle.world_events.specs.declared.event.Event.TheVariants as event
use Rattle.world_events.specs.declared.event.Side.{Side}
use Rattle.world_events.specs.declared.event.Side.TheVariants.{Client, Server}
use Rattle.world_events.specs.declared.event.WorldFault.{WorldFault}

-- the inbox of a side with its history, and the bytes of the side's frames as they went out, oldest first
pub record InboxSide : Type 0 where
  pub past : History
  pub said : List (List ℕ)

-- Two ends with all that they sent, as they made it, and the inbox of each.
pub record InboxPair (C : Type 0) : Type 0 where
  pub ends : ControlledWorld C
  pub client : InboxSide
  pub server : InboxSide

-- the inbox of a side
abbrev pub inbox_at : {C : Type 0} → InboxPair C → Side → InboxSide
inbox_at w Client = w.client
inbox_at w Server = w.server

-- the same with another inbox at a side
abbrev pub with_inbox_at : {C : Type 0} → InboxPair C → Side → InboxSide → InboxPair C
with_inbox_at w Client x = record w { client = x }
with_inbox_at w Server x = record w { server = x }

-- a frame with the bytes with which it went out
abbrev pub as_it_went : Option SentFrame → Option (List ℕ) → Option SentFrame
as_it_went None bytes = None
as_it_went (Some frame) None = None
as_it_went (Some frame) (Some bytes) = Some (record frame { bytes = bytes })

-- the frame at this place among all that a side sent
abbrev pub went_out_at : {C : Type 0} → InboxPair C → Side → ℕ → Option SentFrame
went_out_at w side index = as_it_went (slice_get (half_of w.ends.world side).frames index) (slice_get (inbox_at w side).said index)

-- An event of two ends, in which a frame arrives with the bytes with which it went out.
abbrev pub happens_with : {C : Type 0} → InboxPair C → Event → Said → Result WorldStep WorldFault
happens_with w (event.Deliver from index) said = delivers_frame w.ends.world from (went_out_at w from index)
happens_with w event.Open said = happens w.ends.world event.Open said
happens_with w (event.Send side payload) said = happens w.ends.world (event.Send side payload) said
happens_with w (event.SendEarly side payload) said = happens w.ends.world (event.SendEarly side payload) said
happens_with w (event.Prefer side feature place values) said = happens w.ends.world (event.Prefer side feature place values) said
happens_with w (event.Timer side timer) said = happens w.ends.world (event.Timer side timer) said
happens_with w (event.Close side) said = happens w.ends.world (event.Close side) said
happens_with w (event.Abort side) said = happens w.ends.world (event.Abort side) said

-- the bytes of a frame, if there is one
abbrev pub bytes_if : Option SentFrame → List ℕ
bytes_if None = []
bytes_if (Some frame) = frame.bytes

-- the bytes that arrive by an event
abbrev pub bytes_arriving : {C : Type 0} → InboxPair C → Event → List ℕ
bytes_arriving w (event.Deliver from index) = bytes_if (went_out_at w from index)
bytes_arriving w _ = []

-- the calls of an inbox that follow from a step of its end: data that were delivered from these bytes
abbrev pub inbox_calls : InboxState → ℕ → List ℕ → Seen → List InboxCall
inbox_calls held n bytes (seen.Received outcome) = calls_by held n bytes outcome
inbox_calls held n bytes (seen.Called result) = []
inbox_calls held n bytes (seen.Fired applies) = []

-- a frame as its side lets it go out
abbrev pub said_frame : Pseudo → InboxState → SentFrame → List ℕ
said_frame pseudo held frame = buffered pseudo frame.ack held frame.bytes

-- A side's inbox after these calls, if this many frames had been sent before: the new ones go out with what it then has to say.
abbrev pub inbox_after : InboxSide → List InboxCall → ℕ → Half → InboxSide
inbox_after x calls before half =
    record {
      past = history_after_all x.past calls;
      said = x.said ++ map (said_frame half.end.config.pseudo_out (history_after_all x.past calls).held) (drop before half.frames);
    }

-- what a step does to the inbox of the side that acts
abbrev pub inbox_stepped : {C : Type 0} → InboxPair C → Event → WorldStep → InboxSide
inbox_stepped w e step =
    inbox_after (inbox_at w (actor e))
    (inbox_calls (inbox_at w (actor e)).past.held (last_taken (half_of step.world (actor e)).end) (bytes_arriving w e) step.seen)
    (length (half_of w.ends.world (actor e)).frames) (half_of step.world (actor e))

-- the pair after an event that took place, and as it was after one that could not
abbrev pub inbox_goes_on : {C : Type 0} → Control C → InboxPair C → Event → Result WorldStep WorldFault → InboxPair C
inbox_goes_on control w e (Ok step) = with_inbox_at (record w { ends = controlled control w.ends (actor e) step }) (actor e) (inbox_stepped w e step)
inbox_goes_on control w e (Err why) = w

-- an event of the ends; or an application takes the first data that wait, or stops listening
pub data InboxEvent : Type 0 where
  Happens : (event : Event) → InboxEvent
  Reads Ends : (side : Side) → InboxEvent

-- the pair after one of them
abbrev pub inbox_steps : {C : Type 0} → Control C → InboxPair C → InboxEvent → InboxPair C
inbox_steps control w (Happens e) = inbox_goes_on control w e (happens_with w e (said_by control (congestion_of w.ends (actor e))))
inbox_steps control w (Reads side) = with_inbox_at w side (record (inbox_at w side) { past = history_after (inbox_at w side).past Takes })
inbox_steps control w (Ends side) = with_inbox_at w side (record (inbox_at w side) { past = history_after (inbox_at w side).past Stops })

-- the pair after a whole schedule
abbrev pub inbox_plays : {C : Type 0} → Control C → InboxPair C → List InboxEvent → InboxPair C
inbox_plays control w [] = w
inbox_plays control w (e ∷ events) = inbox_plays control (inbox_steps control w e) events

-- the events of the ends among them
abbrev pub of_ends : List InboxEvent → List Event
of_ends [] = []
of_ends (Happens e ∷ events) = e ∷ of_ends events
of_ends (Reads side ∷ events) = of_ends events
of_ends (Ends side ∷ events) = of_ends events

-- an inbox that holds nothing, of a side that has sent nothing
abbrev pub inbox_begins : ℕ → InboxSide
inbox_begins capacity = record { past = no_history capacity; said = [] }

-- Two ends that have sent and received nothing, with inboxes for this many packets.
abbrev pub begins_with_inboxes : {C : Type 0} → Control C → Config → Config → C → C → ℕ → ℕ → InboxPair C
begins_with_inboxes control client server for_client for_server client_most server_most =
    record {
      ends = begins_with control client server for_client for_server;
      client = inbox_begins client_most;
      server = inbox_begins server_most;
    }

-- The packets of each have the addresses that the other expects on its connection.
abbrev pub AreAddressed : Config → Config → Type 0
AreAddressed client server = (server.pseudo_in ≡ client.pseudo_out) × (client.pseudo_in ≡ server.pseudo_out)

-- Ends with inboxes do what ends without them do: whatever arrives, in any order, after each schedule they are as ends without inboxes are after
-- the same events. So each law on schedules of two ends holds of them.
abbrev pub RunAsAlone : {C : Type 0} → Control C → Type 0
RunAsAlone {C} control =
    (client server : Config) (for_client for_server : C) (client_most server_most : ℕ) (events : List InboxEvent)
    → Fits client → Fits server → AreAddressed client server
    → (inbox_plays control (begins_with_inboxes control client server for_client for_server client_most server_most) events).ends
    ≡ plays control (begins_with control client server for_client for_server) (of_ends events)
