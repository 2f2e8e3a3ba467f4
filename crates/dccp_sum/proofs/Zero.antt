-- Words that add up to zero in ones' complement state their checksum.
use Rattle.std.proofs.Common.{◌≡◌, ℕ, ◌+◌, ◌-◌, ◌/◌, ◌%◌, ◌<◌, ◌≤◌, ◌==◌, List, ◌∷◌, ◌++◌, length, take, slice_index_or, Fits, w8, arith, rules}
use Rattle.dccp_sum.specs.Words.{word_sum, ones_complement, IsSameSum}
use Rattle.dccp_sum.specs.Checksum.{checksum, pseudo_header, same_checksum, stated, with_checksum}
use Rattle.dccp_sum.specs.declared.pseudo_header.Pseudo.{Pseudo}
use Rattle.dccp_sum.proofs.Sums.{word_sum-append, word_sum-stated}

zero-if-same : (total sum stated : ℕ) → stated < 65536 → total % 65535 ≡ (sum + stated) % 65535
    → (total % 65535 == 0) ≡ same_checksum stated (65535 - ones_complement sum)
zero-if-same total sum stated small same = search rules

-- a checksum has two bytes
stated-fits : (bytes : List ℕ) → 8 ≤ length bytes → ((i : ℕ) → Fits w8 (slice_index_or bytes i 0)) → stated bytes < 65536
stated-fits (b0 ∷ b1 ∷ b2 ∷ b3 ∷ b4 ∷ b5 ∷ b6 ∷ b7 ∷ rest) long fit = let high = fit 6 in let low = fit 7 in omega (arith, high, low)
stated-fits bytes long fit = absurd (omega arith)

pub adds-to-zero : (pseudo : Pseudo) (bytes : List ℕ) (count header total : ℕ) → 8 ≤ length bytes → 8 ≤ count
    → ((i : ℕ) → Fits w8 (slice_index_or bytes i 0))
    → length (pseudo_header pseudo (length bytes)) % 2 ≡ 0
    → IsSameSum header (word_sum (pseudo_header pseudo (length bytes)))
    → IsSameSum total (header + word_sum (take count bytes))
    → (total % 65535 == 0) ≡ same_checksum (stated bytes) (checksum pseudo bytes count)
adds-to-zero pseudo bytes count header total long past bytes_fit even first second =
    let front : List ℕ = pseudo_header pseudo (length bytes) in
    let rest : List ℕ = take count (with_checksum 0 bytes) in
    let joined = word_sum-append (length front / 2) front rest (omega arith) in
    let parts = word_sum-stated bytes count long past in
    zero-if-same total (word_sum (front ++ rest)) (stated bytes) (stated-fits bytes long bytes_fit) (omega (arith, first.residue, second.residue, joined, parts))
