-- Bytes that are lent whole and written over.
use Rattle.std.proofs.Common.{arith, ◌≡◌, ap, ◌∙◌, ℕ, List, ◌++◌, length, take}
use Rattle.std.proofs.lemmas.List.{append-nil, drop_all, take_all}
use Rattle.std.specs.List.{refill}

-- as many bytes as there were take the place of all
pub refill-same : (old new : List ℕ) → length new ≡ length old → refill (length old) old new ≡ new
refill-same old new same =
    ap (λ (rest : List ℕ). take (length old) (new ++ rest)) (drop_all (length new) old (omega arith))
    ∙ ap (λ (all : List ℕ). take (length old) all) (append-nil new)
    ∙ take_all (length old) new (omega arith)
