-- What an end has taken of its peer's packets, and what it remembers of its own Ack Vectors (RFC 4340, sections 7.1 and
-- 11.4).
use Rattle.std.specs.Prelude.{◌≡◌, ◌≢◌, ◌⊎◌, ◌↔◌, ℕ, ◌+◌, ◌^◌, ◌<◌, ◌≤◌, true, length, slice_get, Some, Contains}
use Rattle.ack_vectors.specs.Vector.{is_whole_under}
use Rattle.ack_vectors.specs.declared.received.VectorRecord.{VectorRecord}
use Rattle.dccp_endpoint.specs.End.{floor_of, is_live, marked_of}
use Rattle.dccp_endpoint.specs.Reporting.{is_acking}
use Rattle.dccp_packets.specs.Grammar.{Parts, packet_type}
use Rattle.dccp_states.specs.declared.phase.Phase.TheVariants as phases
use Rattle.run_list.specs.MarkedSet.{has}
use Rattle.seq_circle.specs.Circle.{IsBefore, IsFrom, IsWithin, residue}
use Rattle.world_events.specs.Actors.{other}
use Rattle.world_events.specs.declared.event.Side.{Side}
use Rattle.two_ends.specs.declared.frames.SentFrame.{SentFrame}
use Rattle.two_ends.specs.Frames.{packet_of}
use Rattle.two_ends.specs.Reported.{processed_by}
use Rattle.two_ends.specs.World.{Half, WorldState, half_of}

-- What a side has marked is what it processed.
pub record MarksWhatItProcessed (half : Half) : Type 0 where
  -- no number that it processed is after GSR
  pub none_after : (n : ℕ) → Contains half.processed n → IsBefore half.end.marks.gsr n → ⊥
  -- once it has processed one, its set has, from the floor up to GSR, just the numbers that it processed
  pub set : (n : ℕ) → 1 ≤ length half.processed → n < 2 ^ 48 → IsFrom (floor_of half.end) n → IsFrom n half.end.marks.gsr
      → (has half.end.received.set.numbers n ≡ true) ↔ Contains half.processed n
  -- the end counts them
  pub counted : marked_of half.end ≡ length half.processed
  -- the floor lies from ISR up to the number after GSR, also before a first number was heard, when the floor, ISR and GSR are 0
  pub floor : IsWithin (floor_of half.end) half.end.marks.isr (residue (half.end.marks.gsr + 1))

-- A side has received a first number: its phase says so, or it has processed a packet.
abbrev pub HasHeardFirst : Half → Type 0
HasHeardFirst half = (is_live half.end.phase ≡ true) ⊎ (1 ≤ length half.processed)

-- Once a first number was received, GSR is a number that the side processed, if its frame is an Ack or a DataAck. A packet of another type may
-- have raised it and be out of place in the phase, and then it is never processed; no list of such numbers is kept. This does not cover an end
-- that is CLOSED, since a Reset 5, 6 or 8 answers a packet that was not processed. It does cover one in TIMEWAIT.
abbrev pub NewestIsProcessed : WorldState → Side → Type 0
NewestIsProcessed w side = (index : ℕ) (frame : SentFrame) (packet : Parts) → (half_of w side).end.phase ≢ phases.Closed
    → HasHeardFirst (half_of w side) → slice_get (half_of w (other side)).frames index ≡ Some frame → packet_of frame.bytes ≡ Some packet
    → is_acking (packet_type packet.header.kind) ≡ true → frame.number ≡ (half_of w side).end.marks.gsr
    → Contains (half_of w side).processed (half_of w side).end.marks.gsr

-- A record is of an Ack or a DataAck of its end, with that frame's number and acknowledgement number, and whether its
-- vector was whole; and the end's floor is not before that frame's.
pub record IsRecordOf (w : WorldState) (side : Side) (r : VectorRecord) : Type 0 where
  pub index : ℕ
  pub frame : SentFrame
  pub packet : Parts
  pub is_there : slice_get (half_of w side).frames index ≡ Some frame
  pub is_packet : packet_of frame.bytes ≡ Some packet
  pub is_ack : is_acking (packet_type packet.header.kind) ≡ true
  pub is_numbered : frame.number ≡ r.number
  pub acknowledges : frame.ack ≡ Some r.ack
  pub tells_whole : r.whole ≡ is_whole_under (has (processed_by (half_of w side) frame)) frame.floor r.ack (half_of w side).end.config.vectors
  pub floor_rises : IsBefore (floor_of (half_of w side).end) frame.floor → ⊥

-- The records of an end agree with its frames.
abbrev pub AreRecordsHonest : WorldState → Side → Type 0
AreRecordsHonest w side = (r : VectorRecord) → Contains (half_of w side).end.received.records r → IsRecordOf w side r
