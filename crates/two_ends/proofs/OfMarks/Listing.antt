-- The places are those of the list of what was processed, and a further frame joins at its end.
use Rattle.std.proofs.Common.{◌≡◌, ℕ, List, [], ◌∷◌, ◌++◌, length, arith, length-append}
use Rattle.two_ends.specs.MarkView.{placed_with}
use Rattle.two_ends.specs.MarkMoves.{unmoved_side}
use Rattle.two_ends.proofs.OfMarks.MarkFacts.{IsListed}
use Rattle.two_ends.proofs.OfMarks.MarkFrames.{processed_before, processed_last}

module _ (processed : List ℕ) (place : ℕ → ℕ) (count : ℕ) (listed : IsListed processed place) (new : place count ≡ 0) where
  pub joined_listed : IsListed (processed ++ count ∷ []) (placed_with place (length processed) count)
  joined_listed = grind (arith, length-append, processed_before, processed_last)

pub fresh_listed : IsListed unmoved_side.processed unmoved_side.place
fresh_listed = grind arith
