-- Packets between addresses of the same sum read alike, and a stand-in has the sum of its peer's path.
use Rattle.std.proofs.Common.{◌≡◌, refl, sym, ap, ◌∙◌, ℕ, ◌+◌, ◌-◌, ◌/◌, ◌%◌, ◌<◌, ◌^◌, List, ◌++◌, length, take, Option, Some, None, arith, rules}
use Rattle.byteorder.specs.Endian.{big_bytes}
use Rattle.dccp_sum.specs.Checksum.{checked_over, checksum, pseudo_header, sealed_over, summed, with_checksum}
use Rattle.dccp_sum.specs.Coverage.{covered}
use Rattle.dccp_sum.specs.Words.{IsSameSum, ones_complement, word_sum}
use Rattle.dccp_sum.specs.declared.pseudo_header.Pseudo.{Pseudo}
use Rattle.dccp_sum.specs.declared.pseudo_header.Pseudo.TheVariants.{V4, V6}
use Rattle.dccp_sum.proofs.Sums.{length-pseudo_header_v4, length-pseudo_header_v6, ones_complement-same, word_sum-append, word_sum-v4, word_sum-v6}
use Rattle.server_peers.specs.Naming.{EqualSumsReadAlike, IsSized, StandInsCountAlike, address_words, missing_word}

-- the words of a pseudo-header
header-words : (pseudo : Pseudo) (size : ℕ) → IsSized pseudo → size < 2 ^ 16
    → word_sum (pseudo_header pseudo size) ≡ address_words pseudo + 33 + size
header-words (V4 from to) size is small = word_sum-v4 from to size is.0 is.1 small
header-words (V6 from to) size is small = word_sum-v6 from to size is.0 is.1 small

-- it has whole words
header-even : (pseudo : Pseudo) (size : ℕ) → IsSized pseudo → length (pseudo_header pseudo size) % 2 ≡ 0
header-even (V4 from to) size is = length-pseudo_header_v4 (V4 from to) from to size refl is.0 is.1
header-even (V6 from to) size is = length-pseudo_header_v6 (V6 from to) from to size refl is.0 is.1

-- all words under a checksum
summed-words : (pseudo : Pseudo) (bytes : List ℕ) (count : ℕ) → IsSized pseudo → length bytes < 2 ^ 16
    → word_sum (summed pseudo bytes count) ≡ address_words pseudo + 33 + length bytes + word_sum (take count (with_checksum 0 bytes))
summed-words pseudo bytes count is small =
    let front : List ℕ = pseudo_header pseudo (length bytes) in
    let even = header-even pseudo (length bytes) is in
    let joined = word_sum-append (length front / 2) front (take count (with_checksum 0 bytes)) (omega (arith, even)) in
    joined ∙ ap (λ (n : ℕ). n + word_sum (take count (with_checksum 0 bytes))) (header-words pseudo (length bytes) is small)

same-sum : (a b rest : ℕ) → a % 65535 ≡ b % 65535 → IsSameSum (a + 33 + rest) (b + 33 + rest)
same-sum a b rest same = record { residue = omega (arith, same); zero = search rules }

same-checksum : (one other : Pseudo) (bytes : List ℕ) (count : ℕ) → IsSized one → IsSized other → length bytes < 2 ^ 16
    → address_words one % 65535 ≡ address_words other % 65535 → checksum one bytes count ≡ checksum other bytes count
same-checksum one other bytes count is is' small same =
    let tail : ℕ = length bytes + word_sum (take count (with_checksum 0 bytes)) in
    let a = summed-words one bytes count is small in
    let b = summed-words other bytes count is' small in
    let a' : word_sum (summed one bytes count) ≡ address_words one + 33 + tail = omega (arith, a) in
    let b' : word_sum (summed other bytes count) ≡ address_words other + 33 + tail = omega (arith, b) in
    ap (λ (s : ℕ). 65535 - ones_complement s) a'
    ∙ ap (λ (s : ℕ). 65535 - s)
    (ones_complement-same (address_words one + 33 + tail) (address_words other + 33 + tail) (same-sum (address_words one) (address_words other) tail same))
    ∙ sym (ap (λ (s : ℕ). 65535 - ones_complement s) b')

same-verdict : (one other : Pseudo) (bytes : List ℕ) (found : Option ℕ) → ((count : ℕ) → checksum one bytes count ≡ checksum other bytes count)
    → checked_over one bytes found ≡ checked_over other bytes found
same-verdict one other bytes None same = refl
same-verdict one other bytes (Some count) same = rw (same count) refl

same-seal : (one other : Pseudo) (bytes : List ℕ) (found : Option ℕ) → ((count : ℕ) → checksum one bytes count ≡ checksum other bytes count)
    → sealed_over one bytes found ≡ sealed_over other bytes found
same-seal one other bytes None same = refl
same-seal one other bytes (Some count) same = ap (λ (sum : ℕ). with_checksum sum bytes) (same count)

pub equal_sums : EqualSumsReadAlike
equal_sums one other bytes is is' small same = (
  same-verdict one other bytes (covered bytes) (λ (count : ℕ). same-checksum one other bytes count is is' small same),
  same-seal one other bytes (covered bytes) (λ (count : ℕ). same-checksum one other bytes count is is' small same),
)

-- the words of a stand-in
stand-in-words : (turn missing : ℕ) → turn < 2 ^ 16 → missing < 2 ^ 16 → word_sum (big_bytes 2 turn ++ big_bytes 2 missing) ≡ turn + missing
stand-in-words turn missing small small' = omega arith

pub counts_alike : StandInsCountAlike
counts_alike own path port turn four small =
    let missing : ℕ = missing_word (address_words path) (word_sum own + turn) in
    let words = stand-in-words turn missing small (omega arith) in
    omega (arith, words)
