-- What holds of two sides after every move, beside the facts that are laws. No fact says that something exists, and of the peer each
-- sees no more than it needs, so that search alone proves most steps.
use Rattle.std.proofs.Common.{◌≡◌, ℕ, ◌<◌, ◌≤◌, true, List, length}
use Rattle.two_ends.specs.MarkView.{MarkSide, frame_at, processed_at}

-- the vectors of a side
pub record IsTelling (side : MarkSide) : Type 0 where
  -- a side's floor never falls, and what it processed grows
  pub floors_low : (k : ℕ) → (frame_at side.frames k).floor ≤ side.floor
  pub processed_few : (k : ℕ) → (frame_at side.frames k).processed ≤ length side.processed
  pub vectors_acks : (k : ℕ) → (frame_at side.frames k).has_vector ≡ true → (frame_at side.frames k).is_ack ≡ true
  -- what a vector says was processed, and early enough; and what was is said
  pub says_processed : (k n : ℕ) → (frame_at side.frames k).has_vector ≡ true → (frame_at side.frames k).floor ≤ n
      → n ≤ (frame_at side.frames k).acknowledged → (frame_at side.frames k).says n ≡ true → 0 < side.place n
  pub says_early : (k n : ℕ) → (frame_at side.frames k).has_vector ≡ true → (frame_at side.frames k).floor ≤ n
      → n ≤ (frame_at side.frames k).acknowledged → (frame_at side.frames k).says n ≡ true
      → side.place n ≤ (frame_at side.frames k).processed
  pub processed_said : (k n : ℕ) → (frame_at side.frames k).has_vector ≡ true → (frame_at side.frames k).floor ≤ n
      → n ≤ (frame_at side.frames k).acknowledged → 0 < side.place n → side.place n ≤ (frame_at side.frames k).processed
      → (frame_at side.frames k).says n ≡ true
  pub none_after : (k n : ℕ) → (frame_at side.frames k).has_vector ≡ true → 0 < side.place n
      → side.place n ≤ (frame_at side.frames k).processed → n ≤ (frame_at side.frames k).acknowledged

-- the list of what was processed, and its places
pub record IsListed (processed : List ℕ) (place : ℕ → ℕ) : Type 0 where
  pub place_found : (n : ℕ) → 0 < place n → place n ≤ length processed
  pub at_place : (n : ℕ) → 0 < place n → processed_at processed (place n) ≡ n
  pub place_of : (i : ℕ) → 0 < i → i ≤ length processed → place (processed_at processed i) ≡ i
