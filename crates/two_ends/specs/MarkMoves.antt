-- What one step of one side may do to its marks and its frames, and which pairs of sides such steps reach (own). The moves allow more than an
-- end does if that costs nothing: a side raises its floor, and hears a report, at any time.
--
-- While the phase is not CLOSED, the greatest frame taken is processed, or is no Ack and no DataAck. This is false while a packet is being
-- taken, so the greatest frame rises and is marked in one move. It is also false of an end that answered the greatest frame with a Reset, so the
-- fact has the phase as a condition.
use Rattle.std.specs.Prelude.{◌≡◌, ℕ, ◌+◌, ◌<◌, ◌≤◌, ◌==◌, ◌&&◌, ◌||◌, ◌⊎◌, max, nat_le, Bool, true, false, List, [], ◌∷◌, ◌++◌, length}
use Rattle.two_ends.specs.MarkView.{MarkFrame, MarkSide, frame_at, frames_with, floor_with, placed_with}

-- the first frame of the peer is taken: it is marked
abbrev pub with_first_frame : MarkSide → ℕ → MarkSide
with_first_frame side count =
    record side {
      first = count;
      greatest = count;
      floor = count;
      processed = side.processed ++ count ∷ [];
      place = placed_with side.place (length side.processed) count;
      marked = λ n. n == count;
    }

-- the first frame of the peer is answered with a Reset, and the phase is CLOSED: nothing is marked
abbrev pub begun_shut : MarkSide → ℕ → MarkSide
begun_shut side count =
    record side { first = count; greatest = count; floor = count; closed = true; marked = λ n. false }

-- a frame is taken and its mark is new
abbrev pub with_processed : MarkSide → ℕ → MarkSide
with_processed side count =
    record side {
      greatest = max side.greatest count;
      floor = floor_with side.floor count;
      processed = side.processed ++ count ∷ [];
      place = placed_with side.place (length side.processed) count;
      marked = λ n. nat_le (floor_with side.floor count) n && ((n == count) || side.marked n);
    }

-- a frame is valid, and is not marked, or its mark is not new
abbrev pub passed : MarkSide → ℕ → MarkSide
passed side count = record side { greatest = max side.greatest count }

-- a frame is valid, it is answered with a Reset, and the phase is CLOSED: it is not marked
abbrev pub shut : MarkSide → ℕ → MarkSide
shut side count = record side { greatest = max side.greatest count; closed = true }

-- the phase is CLOSED
abbrev pub closed_side : MarkSide → MarkSide
closed_side side = record side { closed = true }

-- the floor is raised, and what lies below it leaves the set
abbrev pub with_floor : MarkSide → ℕ → MarkSide
with_floor side to =
    record side { floor = max side.floor to; marked = λ n. nat_le (max side.floor to) n && side.marked n }

-- what the side believes received has changed
abbrev pub told : MarkSide → (ℕ → Bool) → MarkSide
told side reported = record side { reported = reported }

-- an Ack or a DataAck, with or without a vector: it acknowledges the greatest frame taken, and a vector says what is marked
abbrev pub ack_frame : MarkSide → Bool → Bool → MarkFrame
ack_frame side has_vector is_whole =
    record {
      is_ack = true;
      acknowledged = side.greatest;
      has_vector = has_vector;
      is_whole = is_whole;
      floor = side.floor;
      processed = length side.processed;
      says = side.marked;
    }

-- a frame of any other type
abbrev pub other_frame : MarkSide → ℕ → MarkFrame
other_frame side acknowledged =
    record {
      is_ack = false;
      acknowledged = acknowledged;
      has_vector = false;
      is_whole = false;
      floor = side.floor;
      processed = length side.processed;
      says = λ n. false;
    }

-- a frame is sent
abbrev pub with_sent_frame : MarkSide → MarkFrame → MarkSide
with_sent_frame side frame = record side { frames = frames_with side.frames frame }

-- the frame's vector says of this count that it was received
pub record IsReportedBy (frame : MarkFrame) (count : ℕ) : Type 0 where
  pub carries : frame.has_vector ≡ true
  pub from_floor : frame.floor ≤ count
  pub up_to : count ≤ frame.acknowledged
  pub received : frame.says count ≡ true

-- What a step does to a side. Of its peer the side sees only the frames.
pub data MarkMove (there : List MarkFrame) (side : MarkSide) : MarkSide → Type 0 where
  -- the first frame, in LISTEN or REQUEST
  Begins : (count : ℕ) → side.first ≡ 0 → side.closed ≡ false → 1 ≤ count → count ≤ length there → MarkMove there side (with_first_frame side count)
  Begins_shut : (count : ℕ) → side.first ≡ 0 → 1 ≤ count → count ≤ length there → MarkMove there side (begun_shut side count)
  -- a later frame whose mark is New; whose mark is Again or BelowFloor; that is out of place in the phase, as no Ack and no
  -- DataAck ever is; and that a Reset answers
  Joins : (count : ℕ) → 0 < side.first → side.closed ≡ false → count ≤ length there → side.floor ≤ count
      → side.marked count ≡ false → MarkMove there side (with_processed side count)
  Repeats : (count : ℕ) → 0 < side.first → side.closed ≡ false → count ≤ length there
      → (count < side.floor) ⊎ (side.marked count ≡ true) → MarkMove there side (passed side count)
  Refuses : (count : ℕ) → 0 < side.first → side.closed ≡ false → count ≤ length there
      → (frame_at there count).is_ack ≡ false → MarkMove there side (passed side count)
  Shuts : (count : ℕ) → 0 < side.first → count ≤ length there → MarkMove there side (shut side count)
  Ends : MarkMove there side (closed_side side)
  -- An Ack or DataAck of the peer acknowledges a frame of this side whose vector is whole: the floor rises above what that frame
  -- acknowledged.
  Raises : (count own : ℕ) → 0 < side.first → (frame_at there count).is_ack ≡ true → (frame_at there count).acknowledged ≡ own
      → (frame_at side.frames own).has_vector ≡ true → (frame_at side.frames own).is_whole ≡ true
      → MarkMove there side (with_floor side ((frame_at side.frames own).acknowledged + 1))
  -- what the side believes received was so before, or a vector of the peer reports it
  Hears : (count : ℕ) (reported : ℕ → Bool)
      → ((n : ℕ) → reported n ≡ true → (side.reported n ≡ true) ⊎ IsReportedBy (frame_at there count) n) → MarkMove there side (told side reported)
  Acks : (has_vector is_whole : Bool) → 0 < side.first → side.closed ≡ false
      → MarkMove there side (with_sent_frame side (ack_frame side has_vector is_whole))
  Sends : (acknowledged : ℕ) → MarkMove there side (with_sent_frame side (other_frame side acknowledged))

-- what one step of one side does: some moves one after another
pub data MarkMoves (there : List MarkFrame) : MarkSide → MarkSide → Type 0 where
  Done : (side : MarkSide) → MarkMoves there side side
  Next : (before middle after : MarkSide) → MarkMove there before middle → MarkMoves there middle after → MarkMoves there before after

-- a side before its first step
abbrev pub unmoved_side : MarkSide
unmoved_side =
    record {
      frames = [];
      first = 0;
      greatest = 0;
      floor = 0;
      closed = false;
      processed = [];
      place = λ n. 0;
      marked = λ n. false;
      reported = λ n. false;
    }

-- the server's side and the client's, by moves of either in any order
pub data ReachedByMarks : MarkSide → MarkSide → Type 0 where
  Starts : ReachedByMarks unmoved_side unmoved_side
  Server_moves : (server client after : MarkSide) → ReachedByMarks server client → MarkMove client.frames server after → ReachedByMarks after client
  Client_moves : (server client after : MarkSide) → ReachedByMarks server client → MarkMove server.frames client after → ReachedByMarks server after

-- some moves lead there
abbrev pub AreReachable : MarkSide → MarkSide → Type 0
AreReachable server client = ∥ ReachedByMarks server client ∥₁
