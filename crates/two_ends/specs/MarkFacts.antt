-- Why the laws hold: what each side knows of its peer's frames, after every move (own). Of the peer it needs only the frames.
--
-- After every step each frame was processed once, vectors are true, what is below floors was reported, and reports were heard. But this alone is
-- not kept by a step. Four more facts are needed. The marks are just the processed frames from the floor up; otherwise a frame that comes again
-- could be new. An Ack or DataAck acknowledges a frame that its sender took; otherwise a record could raise the floor above what comes next.
-- Such a frame was processed if it is an Ack or DataAck itself; otherwise a vector that nobody read would count. No frame's count of processed
-- ones is above its sender's; otherwise a later one would come under a vector already sent.
use Rattle.std.specs.Prelude.{◌≡◌, ℕ, ◌+◌, ◌<◌, ◌≤◌, true, false, List, length}
use Rattle.two_ends.specs.MarkView.{MarkFrame, MarkSide, frame_at}

-- the numbers and the marks of a side
pub record AreSoundNumbers (side : MarkSide) (there : List MarkFrame) : Type 0 where
  pub first_taken : side.first ≤ side.greatest
  pub greatest_sent : side.greatest ≤ length there
  -- before the first frame was taken, nothing was processed, and no Ack went out
  pub unheard_greatest : side.first ≡ 0 → side.greatest ≡ 0
  pub unheard_floor : side.first ≡ 0 → side.floor ≡ 0
  pub unheard_processed : side.first ≡ 0 → length side.processed ≡ 0
  pub unheard_silent : (k : ℕ) → side.first ≡ 0 → (frame_at side.frames k).is_ack ≡ false
  -- what was processed was sent, and no frame above the greatest was processed
  pub places_few : (n : ℕ) → side.place n ≤ length side.processed
  pub processed_some : (n : ℕ) → 0 < side.place n → 0 < n
  pub processed_taken : (n : ℕ) → 0 < side.place n → n ≤ side.greatest
  -- the marks are what was processed, from the floor up
  pub marks_above : (n : ℕ) → side.marked n ≡ true → side.floor ≤ n
  pub marks_processed : (n : ℕ) → side.marked n ≡ true → 0 < side.place n
  pub processed_marked : (n : ℕ) → side.floor ≤ n → 0 < side.place n → side.marked n ≡ true
  pub floor_above : side.first ≤ side.floor
  pub floor_below : side.floor ≤ side.greatest + 1

-- the acknowledgements of a side
pub record IsHeeded (side : MarkSide) (there : List MarkFrame) : Type 0 where
  -- what an Ack or DataAck acknowledges was taken
  pub acknowledged_first : (k : ℕ) → (frame_at side.frames k).is_ack ≡ true → side.first ≤ (frame_at side.frames k).acknowledged
  pub acknowledged_taken : (k : ℕ) → (frame_at side.frames k).is_ack ≡ true
      → (frame_at side.frames k).acknowledged ≤ side.greatest
  -- and it was processed, if it is an Ack or DataAck itself
  pub acknowledged_processed : (k : ℕ) → (frame_at side.frames k).is_ack ≡ true
      → (frame_at there (frame_at side.frames k).acknowledged).is_ack ≡ true
      → 0 < side.place (frame_at side.frames k).acknowledged
  -- so was the greatest, while the phase is not CLOSED
  pub newest_processed : 0 < side.first → side.closed ≡ false → (frame_at there side.greatest).is_ack ≡ true
      → 0 < side.place side.greatest
