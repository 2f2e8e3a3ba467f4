-- The sum of words in parts, and the sum over what a checksum covers.
use Rattle.std.proofs.Common.{◌≡◌, ℕ, zero, suc, ◌+◌, ◌-◌, ◌*◌, ◌<◌, ◌≤◌, List, [], ◌∷◌, ◌++◌, length, take, drop, min, arith, ap, ◌∙◌}
use Rattle.std.proofs.Common.{inl, inr, ◌^◌}
use Rattle.std.proofs.lemmas.Bool.{cases_lt}
use Rattle.std.proofs.lemmas.List.{length-take-le, take-take, take-append-le, length-append}
use Rattle.std.proofs.Math.Seq.{take-append-add}
use Rattle.std.proofs.Common.{◌%◌, ◌/◌, rules}
use Rattle.dccp_sum.specs.Words.{word_sum, ones_complement, IsSameSum}
use Rattle.byteorder.specs.Endian.{big_bytes}
use Rattle.dccp_sum.specs.Checksum.{with_checksum, pseudo_header, stated, summed}
use Rattle.dccp_sum.specs.declared.pseudo_header.Pseudo.{Pseudo}
use Rattle.dccp_sum.specs.declared.pseudo_header.Pseudo.TheVariants.{V4, V6}

-- the words of two lists, where the first has whole words
pub word_sum-append : (k : ℕ) (xs ys : List ℕ) → length xs ≡ 2 * k → word_sum (xs ++ ys) ≡ word_sum xs + word_sum ys
word_sum-append k [] ys even = omega arith
word_sum-append k (x ∷ []) ys even = absurd (omega arith)
word_sum-append zero (x ∷ y ∷ xs) ys even = absurd (omega arith)
word_sum-append (suc k) (x ∷ y ∷ xs) ys even =
    let rest = word_sum-append k xs ys (omega arith) in omega (arith, rest)

-- a coverage that ends before the checksum's last byte: its own bytes add nothing
pub word_sum-short : (bytes : List ℕ) (count : ℕ) → 8 ≤ length bytes → count < 8
    → word_sum (take count (with_checksum 0 bytes)) ≡ word_sum (take (min count 6) bytes)
word_sum-short bytes count long short =
    let six : length (take 6 bytes) ≡ 6 = length-take-le 6 bytes (omega arith) in
    let front : take count (with_checksum 0 bytes) ≡ take count (take 6 bytes ++ 0 ∷ 0 ∷ []) =
    take-append-le count (take 6 bytes ++ 0 ∷ 0 ∷ []) (drop 8 bytes) (omega (arith, length-append (take 6 bytes) (0 ∷ 0 ∷ []))) in
    elim (cases_lt count 7) [
      | inl below ↦
          let e : min count 6 ≡ count = omega arith in
          rw e (ap word_sum (front ∙ take-append-le count (take 6 bytes) (0 ∷ 0 ∷ []) (omega arith) ∙ take-take count 6 bytes (omega arith)))
      | inr above ↦
          let e : min count 6 ≡ 6 = omega arith in
          let n : count ≡ length (take 6 bytes) + 1 = omega arith in
          let seven : take count (take 6 bytes ++ 0 ∷ 0 ∷ []) ≡ take 6 bytes ++ 0 ∷ [] =
          ap (λ (m : ℕ). take m (take 6 bytes ++ 0 ∷ 0 ∷ [])) n ∙ take-append-add (take 6 bytes) (0 ∷ 0 ∷ []) 1 in
          let added = word_sum-append 3 (take 6 bytes) (0 ∷ []) (omega arith) in
          let whole : word_sum (take count (with_checksum 0 bytes)) ≡ word_sum (take 6 bytes ++ 0 ∷ []) = ap word_sum (front ∙ seven) in
          rw e (omega (arith, whole, added))
    ]

-- a longer coverage: what comes before the checksum and what follows it
pub word_sum-long : (bytes : List ℕ) (count : ℕ) → 8 ≤ length bytes → 8 ≤ count
    → word_sum (take count (with_checksum 0 bytes)) ≡ word_sum (take 6 bytes) + word_sum (take (count - 8) (drop 8 bytes))
word_sum-long bytes count long past =
    let six : length (take 6 bytes) ≡ 6 = length-take-le 6 bytes (omega arith) in
    let eight : length (take 6 bytes ++ 0 ∷ 0 ∷ []) ≡ 8 = omega (arith, length-append (take 6 bytes) (0 ∷ 0 ∷ [])) in
    let n : count ≡ length (take 6 bytes ++ 0 ∷ 0 ∷ []) + (count - 8) = omega arith in
    let split : take count (with_checksum 0 bytes) ≡ (take 6 bytes ++ 0 ∷ 0 ∷ []) ++ take (count - 8) (drop 8 bytes) =
    ap (λ (m : ℕ). take m (with_checksum 0 bytes)) n ∙ take-append-add (take 6 bytes ++ 0 ∷ 0 ∷ []) (drop 8 bytes) (count - 8) in
    let whole = ap word_sum split in
    let outer = word_sum-append 4 (take 6 bytes ++ 0 ∷ 0 ∷ []) (take (count - 8) (drop 8 bytes)) (omega arith) in
    let inner = word_sum-append 3 (take 6 bytes) (0 ∷ 0 ∷ []) (omega arith) in
    omega (arith, whole, outer, inner)

-- the words of the pseudo-headers: the addresses, the protocol and the length
pub word_sum-v4 : (from to : List ℕ) (size : ℕ) → length from ≡ 4 → length to ≡ 4 → size < 2 ^ 16
    → word_sum (pseudo_header (V4 from to) size) ≡ word_sum from + word_sum to + 33 + size
word_sum-v4 from to size four four' small =
    let eight : length (from ++ to) ≡ 8 = omega (arith, length-append from to) in
    let ten : length (from ++ to ++ 0 ∷ 33 ∷ []) ≡ 10 = omega (arith, length-append (from ++ to) (0 ∷ 33 ∷ [])) in
    let a = word_sum-append 2 from to (omega arith) in
    let b = word_sum-append 4 (from ++ to) (0 ∷ 33 ∷ []) (omega arith) in
    let c = word_sum-append 5 (from ++ to ++ 0 ∷ 33 ∷ []) (big_bytes 2 size) (omega arith) in
    let d : word_sum (big_bytes 2 size) ≡ size = omega arith in
    omega (arith, a, b, c, d)

pub word_sum-v6 : (from to : List ℕ) (size : ℕ) → length from ≡ 16 → length to ≡ 16 → size < 2 ^ 16
    → word_sum (pseudo_header (V6 from to) size) ≡ word_sum from + word_sum to + 33 + size
word_sum-v6 from to size four four' small =
    let both : length (from ++ to) ≡ 32 = omega (arith, length-append from to) in
    let most : length (from ++ to ++ big_bytes 4 size) ≡ 36 = omega (arith, length-append (from ++ to) (big_bytes 4 size)) in
    let a = word_sum-append 8 from to (omega arith) in
    let b = word_sum-append 16 (from ++ to) (big_bytes 4 size) (omega arith) in
    let c = word_sum-append 18 (from ++ to ++ big_bytes 4 size) (0 ∷ 0 ∷ 0 ∷ 33 ∷ []) (omega arith) in
    let d : word_sum (big_bytes 4 size) ≡ size = omega arith in
    omega (arith, a, b, c, d)

-- a number with the sum of the addresses has the pseudo-header's, once the other words are added
pub same-v4 : (pseudo : Pseudo) (from to : List ℕ) (size x y : ℕ) → pseudo ≡ V4 from to → length from ≡ 4 → length to ≡ 4
    → size < 2 ^ 16 → x ≡ y → IsSameSum y (word_sum from + word_sum to) → IsSameSum (x + 33 + size) (word_sum (pseudo_header pseudo size))
same-v4 pseudo from to size x y is four four' small e same =
    rw (is, word_sum-v4 from to size four four' small, e) (record { residue = omega arith; zero = search rules })

pub same-v6 : (pseudo : Pseudo) (from to : List ℕ) (size x y : ℕ) → pseudo ≡ V6 from to → length from ≡ 16 → length to ≡ 16
    → size < 2 ^ 16 → x ≡ y → IsSameSum y (word_sum from + word_sum to) → IsSameSum (x + 33 + size) (word_sum (pseudo_header pseudo size))
same-v6 pseudo from to size x y is four four' small e same =
    rw (is, word_sum-v6 from to size four four' small, e) (record { residue = omega arith; zero = search rules })

-- the pseudo-header has whole words
pub length-pseudo_header_v4 : (pseudo : Pseudo) (from to : List ℕ) (size : ℕ) → pseudo ≡ V4 from to → length from ≡ 4 → length to ≡ 4
    → length (pseudo_header pseudo size) % 2 ≡ 0
length-pseudo_header_v4 pseudo from to size is four four' =
    rw is (simp (length-append) (omega arith))

pub length-pseudo_header_v6 : (pseudo : Pseudo) (from to : List ℕ) (size : ℕ) → pseudo ≡ V6 from to → length from ≡ 16 → length to ≡ 16
    → length (pseudo_header pseudo size) % 2 ≡ 0
length-pseudo_header_v6 pseudo from to size is four four' =
    rw is (simp (length-append) (omega arith))

-- sums that are the same have one ones' complement sum
pub ones_complement-same : (a b : ℕ) → IsSameSum a b → ones_complement a ≡ ones_complement b
ones_complement-same a b same = search rules

-- the sum over the pseudo-header and the covered bytes, in its two parts
pub ones_complement-summed : (pseudo : Pseudo) (bytes : List ℕ) (count header sum : ℕ)
    → length (pseudo_header pseudo (length bytes)) % 2 ≡ 0
    → IsSameSum header (word_sum (pseudo_header pseudo (length bytes)))
    → IsSameSum sum (header + word_sum (take count (with_checksum 0 bytes)))
    → ones_complement sum ≡ ones_complement (word_sum (summed pseudo bytes count))
ones_complement-summed pseudo bytes count header sum even first second =
    let front : List ℕ = pseudo_header pseudo (length bytes) in
    let rest : List ℕ = take count (with_checksum 0 bytes) in
    let joined = word_sum-append (length front / 2) front rest (omega arith) in
    rw joined (ones_complement-same sum (word_sum front + word_sum rest) (record { residue = omega arith; zero = search rules }))

-- what the code adds for a coverage is the sum over the covered bytes
pub same-short : (bytes : List ℕ) (count least start sum : ℕ) → 8 ≤ length bytes → count < 8 → least ≡ min count 6
    → IsSameSum sum (start + word_sum (take least bytes)) → IsSameSum sum (start + word_sum (take count (with_checksum 0 bytes)))
same-short bytes count least start sum long short is same =
    rw (word_sum-short bytes count long short, ← is) same

pub same-long : (bytes : List ℕ) (count start before sum : ℕ) → 8 ≤ length bytes → 8 ≤ count
    → IsSameSum before (start + word_sum (take 6 bytes)) → IsSameSum sum (before + word_sum (take (count - 8) (drop 8 bytes)))
    → IsSameSum sum (start + word_sum (take count (with_checksum 0 bytes)))
same-long bytes count start before sum long past first second =
    rw (word_sum-long bytes count long past) (record { residue = omega arith; zero = search rules })

-- the words that a longer coverage has, the checksum among them
pub word_sum-stated : (bytes : List ℕ) (count : ℕ) → 8 ≤ length bytes → 8 ≤ count
    → word_sum (take count bytes) ≡ word_sum (take count (with_checksum 0 bytes)) + stated bytes
word_sum-stated (b0 ∷ b1 ∷ b2 ∷ b3 ∷ b4 ∷ b5 ∷ b6 ∷ b7 ∷ rest) count long past =
    let front : List ℕ = b0 ∷ b1 ∷ b2 ∷ b3 ∷ b4 ∷ b5 ∷ b6 ∷ b7 ∷ [] in
    let n : count ≡ length front + (count - 8) = omega arith in
    let split : take count (front ++ rest) ≡ front ++ take (count - 8) rest =
    ap (λ (m : ℕ). take m (front ++ rest)) n ∙ take-append-add front rest (count - 8) in
    let whole = ap word_sum split in
    let outer = word_sum-append 4 front (take (count - 8) rest) (omega arith) in
    let without = word_sum-long (front ++ rest) count long past in
    omega (arith, whole, outer, without)
word_sum-stated bytes count long past = absurd (omega arith)
