-- The two ends of a connection as a pair of sides, by what they mark, acknowledge and report (own; Ack Vectors are RFC 4340's, section 11.4). A
-- frame goes by its count: a side's first numbered frame has count 1, and 0 is none.
--
-- The records of vectors sent are left out: a side may raise its floor for any whole vector among its frames that the peer acknowledged, and the
-- ring of records only forgets some. The number of bytes of a vector and its runs are left out, too: a vector says something about each count
-- from the acknowledged one to the floor, and a side may believe any part of it. Besides the list of what was processed there is the place of
-- each frame in it, so that no fact has to say that something exists; `each_frame_is_processed_once` says that the two agree.
use Rattle.std.specs.Prelude.{ℕ, ◌+◌, ◌-◌, ◌==◌, max, Bool, false, List, [], ◌∷◌, ◌++◌, slice_index_or, if◌then◌else◌}

-- one numbered frame
pub record MarkFrame : Type 0 where
  -- it is an Ack or a DataAck
  pub is_ack : Bool
  -- the count of the peer's frame that it acknowledges, or 0
  pub acknowledged : ℕ
  -- it carries an Ack Vector
  pub has_vector : Bool
  -- and the vector reaches down to the floor
  pub is_whole : Bool
  -- its sender's floor, and how many frames its sender had processed, both once it was sent
  pub floor : ℕ
  pub processed : ℕ
  -- what the vector says of a count, from the acknowledged one down: that the frame was received
  pub says : ℕ → Bool

-- one side of the pair: what it sent, and what it took of its peer's frames, by their counts
pub record MarkSide : Type 0 where
  -- its numbered frames, oldest first
  pub frames : List MarkFrame
  -- the first frame that it took (ISR), and the greatest (GSR); 0 before that
  pub first : ℕ
  pub greatest : ℕ
  -- it no longer reports any count below its floor
  pub floor : ℕ
  -- its phase is CLOSED, after it had another
  pub closed : Bool
  -- the frames that it processed, in order
  pub processed : List ℕ
  -- the place of a frame among them, from 1; 0 if it was not processed
  pub place : ℕ → ℕ
  -- the set of marks, from the floor up
  pub marked : ℕ → Bool
  -- which of its frames it believes received
  pub reported : ℕ → Bool

-- what is read at a count that no frame has
abbrev pub no_frame : MarkFrame
no_frame =
    record { is_ack = false; acknowledged = 0; has_vector = false; is_whole = false; floor = 0; processed = 0; says = λ n. false }

-- the frame with this count
abbrev pub frame_at : List MarkFrame → ℕ → MarkFrame
frame_at frames count = slice_index_or (no_frame ∷ frames) count no_frame

-- one frame more
abbrev pub frames_with : List MarkFrame → MarkFrame → List MarkFrame
frames_with frames frame = frames ++ frame ∷ []

-- the frame that was processed at this place, from 1 on
abbrev pub processed_at : List ℕ → ℕ → ℕ
processed_at processed place = slice_index_or (0 ∷ processed) place 0

-- A mark reaches 2,047 below its count: the floor that it leads to, if that is not higher already (own).
abbrev pub floor_with : ℕ → ℕ → ℕ
floor_with floor count = max floor (count - 2047)

-- the places with one more frame processed
abbrev pub placed_with : (ℕ → ℕ) → ℕ → ℕ → ℕ → ℕ
placed_with place processed count n = if n == count then processed + 1 else place n
