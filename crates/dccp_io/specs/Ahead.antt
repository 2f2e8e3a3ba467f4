-- Bytes that were read ahead of their use (own).
use Rattle.std.specs.Prelude.{◌≡◌, ℕ, ◌≤◌, ◌↔◌, List, [], ◌++◌, length, Option, IfSome, Result, MatchResult}
use Rattle.std.specs.Io.KnownBytes.{prepend_known}
use Rattle.dccp_io.specs.Counts.{Rose}
use Rattle.dccp_io.specs.declared.streams.Failed.{Failed}

-- the bytes that are pending, and how many fit
pub record BytesAhead : Type 0 where
  pub pending : List ℕ
  pub size : ℕ

-- all that is still to come: what is pending, and then what the source has left, if that is known
abbrev pub ahead_of : BytesAhead → Option (List ℕ) → Option (List ℕ)
ahead_of ahead left = prepend_known ahead.pending left

-- the bytes that came follow those that were pending; none came only at the source's end
pub record IsAppended (old new : BytesAhead) (before : Option (List ℕ)) (count : ℕ) (got : List ℕ) : Type 0 where
  pub came : length got ≡ count
  pub following : new ≡ record { pending = old.pending ++ got; size = old.size }
  pub fits : length new.pending ≤ new.size
  pub end : IfSome before (λ bytes. (count ≡ 0) ↔ (bytes ≡ []))

-- One read: what is still to come stays the same, the faults never fall, and a failure has its cause there.
pub record Refills {S : Type 0} (left : S → Option (List ℕ)) (faults lender : S → ℕ) (old new : BytesAhead) (before after : S)
    (result : Result ℕ Failed) : Type 0 where
  pub same_ahead : ahead_of new (left after) ≡ ahead_of old (left before)
  pub same_size : new.size ≡ old.size
  pub never_falls : faults before ≤ faults after
  pub same_lender : lender after ≡ lender before
  pub read : MatchResult result
      (λ count. (got : List ℕ) × (left before ≡ prepend_known got (left after)) × IsAppended old new (left before) count got)
      (λ _. (new ≡ old) × Rose (faults before) (faults after))
