-- What the frames of ends with inboxes say about the data that arrived (own; RFC 4340, sections 11.4 and 11.7).
use Rattle.std.specs.Prelude.{◌≡◌, ℕ, ◌^◌, ◌<◌, true, List, map, slice_get, Some, Ok}
use Rattle.std.specs.List.{Contains}
use Rattle.congestion_trait.specs.Control.{Control}
use Rattle.data_dropped.specs.Drops.{code_at}
use Rattle.data_dropped.specs.Inbox.{KeptData}
use Rattle.data_dropped.specs.Telling.{options_in_packet, report_in_packet}
use Rattle.data_dropped.specs.declared.drops.DropEntry.{DropEntry}
use Rattle.dccp_endpoint.specs.Drafts.{Fits}
use Rattle.dccp_endpoint.specs.declared.config.Config.{Config}
use Rattle.dccp_options.specs.Vectors.{VectorReport, is_received, report_of, state_at}
use Rattle.dccp_packets.specs.Grammar.{Parts, decoded}
use Rattle.dccp_states.specs.declared.phase.Role.TheVariants as role
use Rattle.two_ends.specs.Reported.{processed_by}
use Rattle.two_ends.specs.World.{half_of}
use Rattle.two_ends.specs.declared.frames.SentFrame.{SentFrame}
use Rattle.two_inboxes.specs.Inboxes.{AreAddressed, InboxEvent, InboxPair, begins_with_inboxes, inbox_at, inbox_plays}
use Rattle.world_events.specs.declared.event.Side.{Side}

-- the numbers of the packets whose data these are
abbrev pub data_numbers : List KeptData → List ℕ
data_numbers items = map (λ (item : KeptData). item.number) items

-- the numbers of those whose data were dropped
abbrev pub drop_numbers : List DropEntry → List ℕ
drop_numbers drops = map (λ (d : DropEntry). d.number) drops

-- A frame of a side, and the packet that went out for it, which acknowledges this number.
pub record WentOut {C : Type 0} (w : InboxPair C) (side : Side) (frame : SentFrame) (packet : Parts) (ack : ℕ) : Type 0 where
  pub index : ℕ
  pub bytes : List ℕ
  pub is_kept : slice_get (half_of w.ends.world side).frames index ≡ Some frame
  pub is_there : slice_get (inbox_at w side).said index ≡ Some bytes
  pub is_packet : decoded bytes ≡ Ok packet
  pub acknowledges : frame.ack ≡ Some ack
  pub ack_fits : ack < 2 ^ 48

-- The data that a side's application took are of packets that the side processed. No packet that a frame calls dropped
-- is among these, whenever the frame went out. And if such a packet was processed before a frame went out, no Ack
-- Vector of that frame says that it is missing.
pub record TellsOfItsData {C : Type 0} (w : InboxPair C) (side : Side) : Type 0 where
  pub taken_are_processed : (n : ℕ) → Contains (data_numbers (inbox_at w side).past.taken) n → Contains (half_of w.ends.world side).processed n
  pub dropped_are_not_taken : (n code ack : ℕ) (frame : SentFrame) (packet : Parts) (report : VectorReport) → WentOut w side frame packet ack
      → report_in_packet ack packet ≡ Some report → n < 2 ^ 48 → code_at report.ack report.bytes n ≡ Some code
      → Contains (data_numbers (inbox_at w side).past.taken) n → ⊥
  pub taken_are_received : (n state ack : ℕ) (frame : SentFrame) (packet : Parts) (report : VectorReport) → WentOut w side frame packet ack
      → report_of ack (options_in_packet packet) ≡ Some report → frame.floor < 2 ^ 48 → n < 2 ^ 48
      → Contains (data_numbers (inbox_at w side).past.taken) n → Contains (processed_by (half_of w.ends.world side) frame) n
      → state_at report.ack report.bytes n ≡ Some state → is_received (Some state) ≡ true

-- This holds at either side, after every list of events, of readings and of ends of reading.
abbrev pub TellOfTheirData : {C : Type 0} → Control C → Type 0
TellOfTheirData {C} control =
    (client server : Config) (for_client for_server : C) (client_most server_most : ℕ) (events : List InboxEvent)
    → client.role ≡ role.Client → server.role ≡ role.Server → Fits client → Fits server → AreAddressed client server → (side : Side)
    → TellsOfItsData (inbox_plays control (begins_with_inboxes control client server for_client for_server client_most server_most) events) side
