-- What holds of a side towards its peer, whatever moves both made (own; the words are those of RFC 4340, section 11.4).
use Rattle.std.specs.Prelude.{◌≡◌, ℕ, ◌+◌, ◌<◌, ◌≤◌, ◌↔◌, true, false, List, length, slice_index}
use Rattle.two_ends.specs.MarkView.{MarkFrame, MarkSide, frame_at, processed_at}

-- among the first frames that a side processed, this many of them, is the one with this count
abbrev pub IsAmong : (ℕ → ℕ) → ℕ → ℕ → Type 0
IsAmong place many count = (0 < place count) × (place count ≤ many)

-- The places are those of the list: the frame at each is the one that was processed there, and each that was processed
-- has one.
pub record ArePlaces (side : MarkSide) : Type 0 where
  pub places : (count : ℕ) → 0 < side.place count
      → (side.place count ≤ length side.processed) × (processed_at side.processed (side.place count) ≡ count)
  pub processed : (place : ℕ) → 0 < place → place ≤ length side.processed → side.place (processed_at side.processed place) ≡ place

-- Each frame is processed once, and only if the peer sent it.
pub record ProcessesOnce (side : MarkSide) (there : List MarkFrame) : Type 0 where
  pub distinct : (i j : ℕ) → i < length side.processed → j < length side.processed
      → slice_index side.processed i ≡ slice_index side.processed j → i ≡ j
  pub sent : (i : ℕ) → i < length side.processed
      → (0 < slice_index side.processed i) × (slice_index side.processed i ≤ length there)

-- Each vector of a side says, from the count that its frame acknowledges down to its floor, just what the side had
-- processed when it sent it, and the side had processed nothing after that count.
pub record IsTruthful (side : MarkSide) : Type 0 where
  pub says : (k n : ℕ) → (frame_at side.frames k).has_vector ≡ true → (frame_at side.frames k).floor ≤ n
      → n ≤ (frame_at side.frames k).acknowledged
      → ((frame_at side.frames k).says n ≡ true) ↔ IsAmong side.place (frame_at side.frames k).processed n
  pub none_after : (k n : ℕ) → (frame_at side.frames k).has_vector ≡ true
      → IsAmong side.place (frame_at side.frames k).processed n → n ≤ (frame_at side.frames k).acknowledged

-- the count lies more than 2,047 below one that the side processed
pub record IsFarBelow (place : ℕ → ℕ) (n : ℕ) : Type 0 where
  pub processed : ℕ
  pub is_processed : 0 < place processed
  pub far : n + 2047 < processed

-- Why a side need not report a count any more: it lies far below one that the side processed, or a whole vector of the side reported it and the
-- peer processed its frame.
pub data IsAccountedFor (frames : List MarkFrame) (place heard : ℕ → ℕ) (n : ℕ) : Type 0 where
  Far : IsFarBelow place n → IsAccountedFor frames place heard n
  WasTold : (k : ℕ) → (frame_at frames k).has_vector ≡ true → (frame_at frames k).is_whole ≡ true
      → (frame_at frames k).floor ≤ n → n ≤ (frame_at frames k).acknowledged → 0 < heard k → IsAccountedFor frames place heard n

-- the same for a count of this side towards this peer
abbrev pub IsSettledFor : MarkSide → MarkSide → ℕ → Type 0
IsSettledFor side peer n = IsAccountedFor side.frames side.place peer.place n

-- every count from the first up to the floor is settled
abbrev pub IsTold : MarkSide → MarkSide → Type 0
IsTold side peer = (n : ℕ) → 0 < side.first → side.first ≤ n → n < side.floor → ∥ IsSettledFor side peer n ∥₁

-- the same of a side that sent no vector
abbrev pub IsToldAlone : MarkSide → Type 0
IsToldAlone side = ((k : ℕ) → (frame_at side.frames k).has_vector ≡ false) → (n : ℕ) → 0 < side.first → side.first ≤ n → n < side.floor
    → ∥ IsFarBelow side.place n ∥₁

-- what a side believes received, its peer processed
abbrev pub IsHeard : MarkSide → MarkSide → Type 0
IsHeard side peer = (n : ℕ) → side.reported n ≡ true → 0 < peer.place n
