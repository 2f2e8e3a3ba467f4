-- Bytes gathered in the block until there are enough of them (own).
use Rattle.std.specs.Prelude.{◌≡◌, ℕ, ◌≤◌, ◌⊎◌, List, [], length, Option, IfSome}
use Rattle.dccp_io.specs.Ahead.{BytesAhead, ahead_of}

-- this many bytes are pending, or all that is left
abbrev pub IsGathered : ℕ → BytesAhead → Option (List ℕ) → Type 0
IsGathered asked ahead left = (asked ≤ length ahead.pending) ⊎ IfSome left (λ more. more ≡ [])

-- Bytes are gathered: the bytes that are pending or left are the same, the block has the same size, and the source is the same.
pub record Gathers {S : Type 0} (left : S → Option (List ℕ)) (faults lender : S → ℕ) (asked : ℕ) (old new : BytesAhead) (before after : S) : Type 0 where
  pub same_ahead : ahead_of new (left after) ≡ ahead_of old (left before)
  pub same_size : new.size ≡ old.size
  pub fits : length new.pending ≤ new.size
  pub never_falls : faults before ≤ faults after
  pub same_lender : lender after ≡ lender before
