-- An option of type 38 that is appended to bytes: its length is written once its data are there.
use Rattle.std.proofs.Common.{◌≡◌, ◌∙◌, ℕ, ◌+◌, ◌-◌, List, [], ◌∷◌, ◌++◌, length, length-append, take, append-nil, append_assoc, ap, arith, refl}
use Rattle.std.specs.Prelude.{slice_set}
use Rattle.std.specs.List.{refill}
use Rattle.std.proofs.Math.Seq.{take-append-add}
use Rattle.std.proofs.lemmas.List.{drop_all, set-append_right, take_all}

-- as many bytes as there were take the place of all
refill-same : (old new : List ℕ) → length new ≡ length old → refill (length old) old new ≡ new
refill-same old new same =
    ap (λ (rest : List ℕ). take (length old) (new ++ rest)) (drop_all (length new) old (omega arith))
    ∙ ap (λ (all : List ℕ). take (length old) all) (append-nil new)
    ∙ take_all (length old) new (omega arith)

-- the bytes of the option whose length is still zero
pub cut-option : (old all : List ℕ) → take (length old + 255) (old ++ 38 ∷ [] ++ 0 ∷ [] ++ all) ≡ old ++ 38 ∷ 0 ∷ take 253 all
cut-option old all =
    ap (λ (front : List ℕ). take (length old + 255) (front ++ all)) (append_assoc old (38 ∷ []) (0 ∷ []))
    ∙ ap (λ (bytes : List ℕ). take (length old + 255) bytes) (append_assoc old (38 ∷ 0 ∷ []) all)
    ∙ take-append-add old (38 ∷ 0 ∷ all) 255

-- the option with its length
pub with-length : (old body bytes now : List ℕ) (begin end : ℕ) → bytes ≡ old ++ 38 ∷ 0 ∷ body → now ≡ bytes → begin ≡ length old → end ≡ length bytes
    → refill (length bytes) bytes (slice_set now (begin + 1) (end - begin)) ≡ old ++ 38 ∷ (length body + 2) ∷ body
with-length old body bytes now begin end is same first last =
    let long : length bytes ≡ length old + length (38 ∷ 0 ∷ body) = ap length is ∙ length-append old (38 ∷ 0 ∷ body) in
    let value : end - begin ≡ length body + 2 = omega (arith, first, last, long) in
    let place : begin + 1 - length old ≡ 1 = omega (arith, first) in
    let option : List ℕ = 38 ∷ (length body + 2) ∷ body in
    let all = length-append old option in
    let written : slice_set now (begin + 1) (end - begin) ≡ old ++ option =
    ap (λ (xs : List ℕ). slice_set xs (begin + 1) (end - begin)) (same ∙ is)
    ∙ ap (λ (n : ℕ). slice_set (old ++ 38 ∷ 0 ∷ body) (begin + 1) n) value
    ∙ set-append_right old (38 ∷ 0 ∷ body) (length old) (begin + 1) (length body + 2) refl (omega (arith, first))
    ∙ ap (λ (n : ℕ). old ++ slice_set (38 ∷ 0 ∷ body) n (length body + 2)) place in
    ap (λ (xs : List ℕ). refill (length bytes) bytes xs) written ∙ refill-same bytes (old ++ option) (omega (arith, long, all))
