-- The bytes of a run, one after the other, and those that a vector keeps.
use Rattle.std.proofs.Common.{◌≡◌, ℕ, ◌+◌, ◌-◌, ◌*◌, ◌/◌, ◌%◌, ◌<◌, ◌≤◌, List, [], ◌∷◌, ◌++◌, zero, suc, refl, arith, ◌∙◌, length, take, min, inl, inr}
use Rattle.std.proofs.lemmas.Bool.{cases_lt}
use Rattle.std.proofs.lemmas.List.{take-append-le, take_all}
use Rattle.ack_vectors.specs.Vector.{piece, last_piece, pieces}

-- the first byte of a run covers 64 numbers, or all
pub pieces-step : (s c : ℕ) → 0 < c → pieces s c ≡ piece s (min c 64) ∷ pieces s (c - min c 64)
pieces-step s c h =
    elim (cases_lt c 64) [
      | inl short ↦
          let full : c / 64 ≡ 0 = omega arith in
          let rest : c % 64 ≡ c = omega arith in
          let none : c - c ≡ 0 = omega arith in
          let all : min c 64 ≡ c = omega arith in
          rw (full, rest, all, none) (short_piece c h)
      | inr long ↦
          let full : c / 64 ≡ suc ((c - 64) / 64) = omega arith in
          let rest : c % 64 ≡ (c - 64) % 64 = omega arith in
          let all : min c 64 ≡ 64 = omega arith in
          rw (full, rest, all) refl
    ]
  where
    short_piece : (c : ℕ) → 0 < c → last_piece s c ≡ piece s c ∷ []
    short_piece zero h = absurd (omega arith)
    short_piece (suc c) h = grind arith

-- a run of no more than 64 numbers is one byte
pub one_piece : (s c : ℕ) → 0 < c → c ≤ 64 → pieces s c ≡ (s * 64 + (c - 1)) ∷ []
one_piece s c some few =
    let same : min c 64 ≡ c = omega arith in
    let none : c - c ≡ 0 = omega arith in
    let step = pieces-step s c some in
    step ∙ rw (same, none) refl

-- a run of one number or more has a byte
pub pieces-some : (s c : ℕ) → 0 < c → 1 ≤ length (pieces s c)
pieces-some s c h = let step = pieces-step s c h in rw step (omega arith)

-- a vector that is full, with more to come
pub take_full : (room : ℕ) (front following : List ℕ) → length front ≡ room → take room (front ++ following) ≡ front
take_full room front following h =
    let same : take room (front ++ following) ≡ take room front = take-append-le room front following (omega arith) in
    same ∙ take_all room front (omega arith)

-- what was cut stays cut
pub take_cut : (room : ℕ) (front following : List ℕ) → room < length front → take room (front ++ following) ≡ take room front
take_cut room front following h = take-append-le room front following (omega arith)

pub take_fits : (room : ℕ) (xs : List ℕ) → length xs ≤ room → take room xs ≡ xs
take_fits room xs h = take_all room xs h
