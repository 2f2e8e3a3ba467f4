-- What is sealed is accepted.
use Rattle.std.proofs.Common.{◌≡◌, ℕ, ◌<◌, ◌≤◌, List, ◌∷◌, length, Some, Ok, true, refl, arith, ◌∙◌, rules}
use Rattle.dccp_sum.specs.Coverage.{covered}
use Rattle.dccp_sum.specs.Checksum.{with_checksum, checksum, checked, same_checksum, stated}
use Rattle.dccp_sum.specs.declared.pseudo_header.Pseudo.{Pseudo}

-- a checksum is its own spelling
same_checksum-same : (a b : ℕ) → a ≡ b → same_checksum a b ≡ true
same_checksum-same a b e = search rules

pub checked-sealed : (pseudo : Pseudo) (bytes : List ℕ) (count sum : ℕ) → 8 ≤ length bytes → covered bytes ≡ Some count
    → sum ≡ checksum pseudo bytes count → sum < 65536 → checked pseudo (with_checksum sum bytes) ≡ Ok tt
checked-sealed pseudo (b0 ∷ b1 ∷ b2 ∷ b3 ∷ b4 ∷ b5 ∷ b6 ∷ b7 ∷ rest) count sum long e is small =
    let bytes : List ℕ = b0 ∷ b1 ∷ b2 ∷ b3 ∷ b4 ∷ b5 ∷ b6 ∷ b7 ∷ rest in
    let states : stated (with_checksum sum bytes) ≡ checksum pseudo (with_checksum sum bytes) count = omega arith ∙ is in
    rw (e, same_checksum-same (stated (with_checksum sum bytes)) (checksum pseudo (with_checksum sum bytes) count) states) refl
checked-sealed pseudo bytes count sum long e is small = absurd (omega arith)

-- a checksum in place of another
pub written-over : (bytes : List ℕ) (one other : ℕ) → 8 ≤ length bytes → with_checksum other (with_checksum one bytes) ≡ with_checksum other bytes
written-over (b0 ∷ b1 ∷ b2 ∷ b3 ∷ b4 ∷ b5 ∷ b6 ∷ b7 ∷ rest) one other long = refl
written-over bytes one other long = absurd (omega arith)

-- the checksum that a packet has does not count
pub checksum-zeroed : (pseudo : Pseudo) (bytes : List ℕ) (count : ℕ) → 8 ≤ length bytes
    → checksum pseudo (with_checksum 0 bytes) count ≡ checksum pseudo bytes count
checksum-zeroed pseudo (b0 ∷ b1 ∷ b2 ∷ b3 ∷ b4 ∷ b5 ∷ b6 ∷ b7 ∷ rest) count long = refl
checksum-zeroed pseudo bytes count long = absurd (omega arith)
