-- What is below a side's floor is settled, and stays so.
use Rattle.std.proofs.Common.{◌≡◌, ℕ, ◌+◌, ◌<◌, ◌≤◌, ◌⊎◌, inl, inr, true, false, List, ap, sym, ◌∙◌, subst, max, arith}
use Rattle.two_ends.specs.MarkView.{MarkFrame, MarkSide, frame_at, frames_with, floor_with, placed_with}
use Rattle.two_ends.specs.MarkLaws.{IsAccountedFor, IsFarBelow}
use Rattle.two_ends.specs.MarkLaws.IsAccountedFor.{Far, WasTold}
use Rattle.two_ends.proofs.OfMarks.MarkFrames.{apart, frame_cases, frame_in}

-- every count from the first up to the floor is settled, with the reason
abbrev pub AreSettled : ℕ → ℕ → List MarkFrame → (ℕ → ℕ) → (ℕ → ℕ) → Type 0
AreSettled first floor frames place heard = (n : ℕ) → 0 < first → first ≤ n → n < floor → IsAccountedFor frames place heard n

-- a reason outlives more frames, more that the side processed, and more that the peer did
pub more_placed : (frames : List MarkFrame) (place heard later : ℕ → ℕ) (n : ℕ) → ((m : ℕ) → 0 < place m → 0 < later m)
    → IsAccountedFor frames place heard n → IsAccountedFor frames later heard n
more_placed frames place heard later n grows (Far far) =
    Far (record { processed = far.processed; is_processed = grows far.processed far.is_processed; far = far.far })
more_placed frames place heard later n grows (WasTold k vector whole low high done) = WasTold k vector whole low high done

pub more_heard : (frames : List MarkFrame) (place heard later : ℕ → ℕ) (n : ℕ) → ((m : ℕ) → 0 < heard m → 0 < later m)
    → IsAccountedFor frames place heard n → IsAccountedFor frames place later n
more_heard frames place heard later n grows (Far far) = Far far
more_heard frames place heard later n grows (WasTold k vector whole low high done) = WasTold k vector whole low high (grows k done)

-- a frame with a vector stays where it is
stays : (frames : List MarkFrame) (frame : MarkFrame) (k : ℕ) → (frame_at frames k).has_vector ≡ true
    → frame_at (frames_with frames frame) k ≡ frame_at frames k
stays frames frame k vector = grind (arith, frame_cases, frame_in)

pub more_sent : (frames : List MarkFrame) (frame : MarkFrame) (place heard : ℕ → ℕ) (n : ℕ) → IsAccountedFor frames place heard n
    → IsAccountedFor (frames_with frames frame) place heard n
more_sent frames frame place heard n (Far far) = Far far
more_sent frames frame place heard n (WasTold k vector whole low high done) =
    let same = stays frames frame k vector in
    WasTold k (ap (λ f. f.has_vector) same ∙ vector) (ap (λ f. f.is_whole) same ∙ whole) (subst (λ f. f.floor ≤ n) (sym same) low)
    (subst (λ f. n ≤ f.acknowledged) (sym same) high) done

-- a frame that joins has a place, and the others keep theirs
pub placed_here : (place : ℕ → ℕ) (many count : ℕ) → 0 < placed_with place many count count
placed_here place many count = grind arith

pub placed_still : (place : ℕ → ℕ) (many count m : ℕ) → 0 < place m → 0 < placed_with place many count m
placed_still place many count m done = grind arith

below_old_or_far : (floor count n : ℕ) → n < floor_with floor count → (n < floor) ⊎ (n + 2047 < count)
below_old_or_far floor count n below = grind arith

below_old_or_new : (floor to n : ℕ) → n < max floor to → (n < floor) ⊎ ((floor ≤ n) × (n < to))
below_old_or_new floor to n below = grind (arith, apart)

-- the floor rises by the 2,047
pub join_settled : (side : MarkSide) (count : ℕ) (heard : ℕ → ℕ) (many : ℕ) → AreSettled side.first side.floor side.frames side.place heard
    → AreSettled side.first (floor_with side.floor count) side.frames (placed_with side.place many count) heard
join_settled side count heard many settled n some from below = either (below_old_or_far side.floor count n below)
  where
    either : (n < side.floor) ⊎ (n + 2047 < count) → IsAccountedFor side.frames (placed_with side.place many count) heard n
    either (inl old) =
        more_placed side.frames side.place heard (placed_with side.place many count) n (placed_still side.place many count) (settled n some from old)
    either (inr far) = Far (record { processed = count; is_processed = placed_here side.place many count; far = far })

-- the floor rises above what a whole vector told of, whose frame the peer processed
pub raise_settled : (side : MarkSide) (heard : ℕ → ℕ) (own : ℕ) → (frame_at side.frames own).has_vector ≡ true
    → (frame_at side.frames own).is_whole ≡ true → (frame_at side.frames own).floor ≤ side.floor → 0 < heard own
    → AreSettled side.first side.floor side.frames side.place heard
    → AreSettled side.first (max side.floor ((frame_at side.frames own).acknowledged + 1)) side.frames side.place heard
raise_settled side heard own vector whole low done settled n some from below =
    either (below_old_or_new side.floor ((frame_at side.frames own).acknowledged + 1) n below)
  where
    either : (n < side.floor) ⊎ ((side.floor ≤ n) × (n < (frame_at side.frames own).acknowledged + 1))
        → IsAccountedFor side.frames side.place heard n
    either (inl old) = settled n some from old
    either (inr new) = WasTold own vector whole (omega arith) (omega arith) done

-- of a side that sent no vector, by the 2,047 alone
pub far_alone : (frames : List MarkFrame) (place heard : ℕ → ℕ) (n : ℕ) → ((k : ℕ) → (frame_at frames k).has_vector ≡ false)
    → IsAccountedFor frames place heard n → IsFarBelow place n
far_alone frames place heard n silent (Far far) = far
far_alone frames place heard n silent (WasTold k vector whole low high done) = absurd (both (sym vector ∙ silent k))
  where
    both : true ≡ false → ⊥
    both is = cc
