-- What one frame more changes of a side's frames, and of those that it processed. The only place that looks into `frame_at` and
-- `processed_at`.
use Rattle.std.proofs.Common.{◌≡◌, ℕ, suc, ◌<◌, ◌≤◌, ◌⊎◌, List, [], ◌∷◌, ◌++◌, length, arith}
use Rattle.std.proofs.lemmas.Grind.{common_steps}
use Rattle.two_ends.specs.MarkView.{MarkFrame, no_frame, frame_at, frames_with, processed_at}

pub apart : (a b : ℕ) → (a < b) ⊎ (b ≤ a)
apart a b = grind arith

-- a count that names no frame is that of none
pub frame_in : (frames : List MarkFrame) (count : ℕ) → (frame_at frames count ≡ no_frame) ⊎ ((1 ≤ count) × (count ≤ length frames))
frame_in frames count = grind (arith, common_steps, apart)

-- the frames before, the new one, and none
pub frame_cases : (frames : List MarkFrame) (frame : MarkFrame) (count : ℕ)
    → ((frame_at (frames_with frames frame) count ≡ frame_at frames count) × (count ≤ length frames))
    ⊎ (((frame_at (frames_with frames frame) count ≡ frame) × (count ≡ suc (length frames)))
    ⊎ ((frame_at (frames_with frames frame) count ≡ no_frame) × (length frames < count)))
frame_cases frames frame count = grind (arith, common_steps, apart)

-- what was processed before, and the new one
pub processed_before : (processed : List ℕ) (count place : ℕ) → place ≤ length processed
    → processed_at (processed ++ count ∷ []) place ≡ processed_at processed place
processed_before processed count place early = grind (arith, common_steps)

pub processed_last : (processed : List ℕ) (count place : ℕ) → place ≡ suc (length processed)
    → processed_at (processed ++ count ∷ []) place ≡ count
processed_last processed count place is = grind (arith, common_steps)
