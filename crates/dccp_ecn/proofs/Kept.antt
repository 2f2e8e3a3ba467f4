-- The nonces that a ledger keeps, each at the place of its number's remainder by 4,096.
use Rattle.std.proofs.Common.{◌≡◌, ℕ, ◌+◌, ◌%◌, ◌^◌, ◌<◌, ◌≤◌, nat_lt, Bool, false, List, ◌∷◌, zero, suc, min, length, take, refl, ap, sym, ◌∙◌, arith, slice_get}
use Rattle.std.specs.Prelude.{Some, None, slice_index_or, slice_set, if◌then◌else◌}
use Prim.Native.Nat.compare
use Rattle.std.proofs.lemmas.Bool.{le-ltb, lt-ltb}
use Rattle.std.proofs.lemmas.List.{get_or-set_other}
use Rattle.std.proofs.lemmas.Grind.{get_or-set_at}
use Rattle.seq_circle.specs.Circle.{distance, down, residue}
use Rattle.dccp_ecn.specs.Ledger.{kept_down, ledger, nonce_kept, with_nonce_sent}

-- so many of the newest
take-kept : (ring : List Bool) (j k n : ℕ) → take j (kept_down ring n k) ≡ kept_down ring n (min j k)
take-kept ring zero k n = let none : min 0 k ≡ 0 = omega arith in rw none refl
take-kept ring (suc j) zero n = let none : min (suc j) 0 ≡ 0 = omega arith in rw none refl
take-kept ring (suc j) (suc k) n =
    let both : min (suc j) (suc k) ≡ suc (min j k) = omega arith in
    rw both (ap (λ nonces. slice_index_or ring (n % 4096) false ∷ nonces) (take-kept ring j k (down n 1)))

-- the others' places are not those of the next number
kept-others : (ring : List Bool) (next place : ℕ) (nonce : Bool) (j k n : ℕ) → next < 2 ^ 48 → n < 2 ^ 48 → place ≡ next % 4096
    → residue (n + suc j) ≡ next → j + k ≤ 4095 → kept_down (slice_set ring place nonce) n k ≡ kept_down ring n k
kept-others ring next place nonce j zero n p q placed e few = refl
kept-others ring next place nonce j (suc k) n p q placed e few =
    let apart : (n % 4096 ≡ place) → ⊥ = λ same. absurd (omega arith) in
    let here : slice_index_or (slice_set ring place nonce) (n % 4096) false ≡ slice_index_or ring (n % 4096) false =
    get_or-set_other ring place (n % 4096) nonce false apart in
    let rest : kept_down (slice_set ring place nonce) (down n 1) k ≡ kept_down ring (down n 1) k =
    kept-others ring next place nonce (suc j) k (down n 1) p (omega arith) placed (omega arith) (omega arith) in
    ap (λ b. b ∷ kept_down (slice_set ring place nonce) (down n 1) k) here ∙ ap (λ nonces. slice_index_or ring (n % 4096) false ∷ nonces) rest

-- one more nonce
pub ledger-sent : (ring : List Bool) (next place kept more : ℕ) (nonce : Bool) → next < 2 ^ 48 → length ring ≡ 4096 → place ≡ next % 4096
    → more ≡ min (kept + 1) 4096
    → ledger (residue (next + 1)) (kept_down (slice_set ring place nonce) (down (residue (next + 1)) 1) more)
    ≡ with_nonce_sent (ledger next (kept_down ring (down next 1) kept)) nonce
ledger-sent ring next place kept more nonce p size placed is =
    let back : down (residue (next + 1)) 1 ≡ next = omega arith in
    let count : more ≡ suc (min 4095 kept) = omega arith in
    let written : List Bool = slice_set ring place nonce in
    let here : slice_index_or written (next % 4096) false ≡ nonce = get_or-set_at ring place (next % 4096) nonce false (omega arith) (omega arith) in
    let others : kept_down written (down next 1) (min 4095 kept) ≡ kept_down ring (down next 1) (min 4095 kept) =
    kept-others ring next place nonce 0 (min 4095 kept) (down next 1) p (omega arith) placed (omega arith) (omega arith) in
    ap (λ nonces. ledger (residue (next + 1)) nonces)
    (ap (λ n. kept_down written n more) back ∙ ap (λ k. kept_down written next k) count
    ∙ ap (λ b. b ∷ kept_down written (down next 1) (min 4095 kept)) here
    ∙ ap (λ nonces. nonce ∷ nonces) (others ∙ sym (take-kept ring 4095 kept (down next 1))))

-- the nonce of a number, counted from the newest down
pub kept-at : (ring : List Bool) (count n top i : ℕ) → n < 2 ^ 48 → top < 2 ^ 48 → distance n top ≡ i
    → slice_get (kept_down ring top count) i ≡ (if nat_lt i count then Some (slice_index_or ring (n % 4096) false) else None)
kept-at ring zero n top i p q e = rw (le-ltb i 0 (omega arith)) refl
kept-at ring (suc count) n top zero p q e =
    let same : top ≡ n = omega arith in
    rw (lt-ltb 0 (suc count) (omega arith)) (ap (λ m. Some (slice_index_or ring (m % 4096) false)) same)
kept-at ring (suc count) n top (suc i) p q e =
    let less : nat_lt (suc i) (suc count) ≡ nat_lt i count = rw compare.suc-suc refl in
    rw less (kept-at ring count n (down top 1) i p (omega arith) (omega arith))

pub kept-near : (ring : List Bool) (next kept n below : ℕ) → n < 2 ^ 48 → below ≡ distance n (down next 1) → below < kept
    → nonce_kept (ledger next (kept_down ring (down next 1) kept)) n ≡ Some (slice_index_or ring (n % 4096) false)
kept-near ring next kept n below p is near =
    kept-at ring kept n (down next 1) (distance n (down next 1)) p (omega arith) refl
    ∙ rw (lt-ltb (distance n (down next 1)) kept (omega arith)) refl

pub kept-far : (ring : List Bool) (next kept n below : ℕ) → n < 2 ^ 48 → below ≡ distance n (down next 1) → kept ≤ below
    → nonce_kept (ledger next (kept_down ring (down next 1) kept)) n ≡ None
kept-far ring next kept n below p is far =
    kept-at ring kept n (down next 1) (distance n (down next 1)) p (omega arith) refl
    ∙ rw (le-ltb (distance n (down next 1)) kept (omega arith)) refl
