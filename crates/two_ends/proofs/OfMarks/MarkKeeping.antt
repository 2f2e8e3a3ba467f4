-- Each move of a side keeps the facts on its numbers, marks and acknowledgements, and one frame more keeps those of its peer.
use Rattle.std.proofs.Common.{◌≡◌, ℕ, ◌+◌, ◌<◌, ◌≤◌, ◌⊎◌, Bool, true, false, List, [], length, arith, length-append}
use Rattle.two_ends.specs.MarkView.{MarkFrame, MarkSide, frame_at, frames_with}
use Rattle.two_ends.specs.MarkMoves.{with_first_frame, begun_shut, with_processed, passed, shut, closed_side, with_floor, told, ack_frame, other_frame, with_sent_frame, unmoved_side}
use Rattle.two_ends.specs.MarkFacts.{AreSoundNumbers, IsHeeded}
use Rattle.two_ends.proofs.OfMarks.MarkFrames.{frame_in, frame_cases}

module _ (side : MarkSide) (there : List MarkFrame) (sound : AreSoundNumbers side there) (heeded : IsHeeded side there) where
  -- the first frame
  module _ (count : ℕ) (unheard : side.first ≡ 0) (some : 1 ≤ count) (there_is : count ≤ length there) where
    pub begin_sound : AreSoundNumbers (with_first_frame side count) there
    begin_sound = grind (arith, length-append)

    pub begin_heeded : IsHeeded (with_first_frame side count) there
    begin_heeded = grind arith

    pub begin_shut_sound : AreSoundNumbers (begun_shut side count) there
    begin_shut_sound = grind arith

    pub begin_shut_heeded : IsHeeded (begun_shut side count) there
    begin_shut_heeded = grind arith

  -- what is not marked, from the floor up, was not processed
  pub unplaced_begin : (count : ℕ) → side.first ≡ 0 → side.place count ≡ 0
  unplaced_begin count unheard = grind arith

  pub unplaced_join : (count : ℕ) → side.floor ≤ count → side.marked count ≡ false → side.place count ≡ 0
  unplaced_join count above new = grind arith

  -- a later one
  module _ (count : ℕ) (heard : 0 < side.first) (there_is : count ≤ length there) where
    pub join_sound : side.floor ≤ count → side.marked count ≡ false → AreSoundNumbers (with_processed side count) there
    join_sound above new = grind (arith, length-append)

    pub join_heeded : side.closed ≡ false → side.floor ≤ count → side.marked count ≡ false → IsHeeded (with_processed side count) there
    join_heeded live above new = grind arith

    pub pass_sound : AreSoundNumbers (passed side count) there
    pass_sound = grind arith

    pub repeat_heeded : side.closed ≡ false → (count < side.floor) ⊎ (side.marked count ≡ true) → IsHeeded (passed side count) there
    repeat_heeded live known = grind arith

    pub refuse_heeded : side.closed ≡ false → (frame_at there count).is_ack ≡ false → IsHeeded (passed side count) there
    refuse_heeded live other = grind arith

    pub shut_sound : AreSoundNumbers (shut side count) there
    shut_sound = grind arith

    pub shut_heeded : IsHeeded (shut side count) there
    shut_heeded = grind arith

  pub end_sound : AreSoundNumbers (closed_side side) there
  end_sound = grind arith

  pub end_heeded : IsHeeded (closed_side side) there
  end_heeded = grind arith

  -- the floor rises above what one of its Acks acknowledged
  module _ (own : ℕ) (heard : 0 < side.first) (is_ack : (frame_at side.frames own).is_ack ≡ true) where
    pub raise_sound : AreSoundNumbers (with_floor side ((frame_at side.frames own).acknowledged + 1)) there
    raise_sound = grind arith

    pub raise_heeded : IsHeeded (with_floor side ((frame_at side.frames own).acknowledged + 1)) there
    raise_heeded = grind arith

  -- what it believes received has changed
  pub told_sound : (reported : ℕ → Bool) → AreSoundNumbers (told side reported) there
  told_sound reported = grind arith

  pub told_heeded : (reported : ℕ → Bool) → IsHeeded (told side reported) there
  told_heeded reported = grind arith

  -- a frame is sent
  module _ (has_vector is_whole : Bool) (heard : 0 < side.first) (live : side.closed ≡ false) where
    pub ack_sound : AreSoundNumbers (with_sent_frame side (ack_frame side has_vector is_whole)) there
    ack_sound = grind (arith, frame_cases)

    pub ack_heeded : IsHeeded (with_sent_frame side (ack_frame side has_vector is_whole)) there
    ack_heeded = grind (arith, frame_cases)

  pub send_sound : (acknowledged : ℕ) → AreSoundNumbers (with_sent_frame side (other_frame side acknowledged)) there
  send_sound acknowledged = grind (arith, frame_cases)

  pub send_heeded : (acknowledged : ℕ) → IsHeeded (with_sent_frame side (other_frame side acknowledged)) there
  send_heeded acknowledged = grind (arith, frame_cases)

  -- the peer has sent one more
  pub grown_sound : (frame : MarkFrame) → AreSoundNumbers side (frames_with there frame)
  grown_sound frame = grind (arith, length-append)

  pub grown_heeded : (frame : MarkFrame) → IsHeeded side (frames_with there frame)
  grown_heeded frame = grind (arith, frame_cases)

pub fresh_sound : AreSoundNumbers unmoved_side []
fresh_sound = grind (arith, frame_in)

pub fresh_heeded : IsHeeded unmoved_side []
fresh_heeded = grind (arith, frame_in)
