-- Bytes that are known, given or taken in pieces.
use Rattle.std.proofs.Common.{◌≡◌, ℕ, ◌+◌, ◌-◌, List, ◌++◌, length, take, drop, refl, sym, ap, None, Some}
use Rattle.std.proofs.lemmas.List.{append_assoc, take_rest}
use Rattle.std.proofs.Math.Seq.{take-add}
use Rattle.std.specs.Io.KnownBytes.{prepend_known, append_known}
use Rattle.std.specs.Prelude.{Option}

-- two pieces one after the other
pub append_known-append : (known : Option (List ℕ)) (first second : List ℕ)
    → append_known (append_known known first) second ≡ append_known known (first ++ second)
append_known-append None first second = refl
append_known-append (Some bytes) first second = ap (λ (xs : List ℕ). Some xs) (append_assoc bytes first second)

pub prepend_known-append : (known : Option (List ℕ)) (first second : List ℕ)
    → prepend_known first (prepend_known second known) ≡ prepend_known (first ++ second) known
prepend_known-append None first second = refl
prepend_known-append (Some bytes) first second = ap (λ (xs : List ℕ). Some xs) (sym (append_assoc first second bytes))

-- more of a piece, from where it was left
pub append_known-more : (start now next : Option (List ℕ)) (piece : List ℕ) (done count : ℕ) → now ≡ append_known start (take done piece)
    → next ≡ append_known now (take count (take (length piece - done) (drop done piece)))
    → next ≡ append_known start (take (done + count) piece)
append_known-more start now next piece done count before after =
    rw (after, before, take_rest piece done, append_known-append start (take done piece) (take count (drop done piece)), take-add done count piece) refl

-- more of what a source had left
pub prepend_known-more : (start now next : Option (List ℕ)) (first second : List ℕ) → start ≡ prepend_known first now
    → now ≡ prepend_known second next → start ≡ prepend_known (first ++ second) next
prepend_known-more start now next first second before after = rw (before, after) (prepend_known-append next first second)
