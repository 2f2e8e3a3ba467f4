-- The exclusive or of nonces, number by number and byte by byte.
use Rattle.std.proofs.Common.{◌≡◌, ℕ, ◌-◌, ◌<◌, ◌==◌, ◌||◌, ◌↔◌, Bool, true, false, not, List, [], ◌∷◌, ◌++◌, suc, refl, ap, sym, ◌∙◌, arith, inl, inr}
use Rattle.std.specs.Prelude.{Option, Some, None, is_some, IsTrue}
use Rattle.std.specs.List.{list_any}
use Rattle.std.proofs.lemmas.Bool.{both_ways, cases_Bool}
use Rattle.seq_circle.specs.Circle.{down}
use Rattle.run_list.specs.Runs.{downwards}
use Rattle.dccp_options.specs.Vectors.{run_length, state_of}
use Rattle.dccp_options.specs.declared.report.Run.{Run}
use Rattle.dccp_ecn.specs.declared.ledger.Check.TheVariants.{Fits, Unfit, Unknown}
use Rattle.dccp_ecn.specs.Ledger.{check_verdict}
use Rattle.dccp_ecn.specs.Nonces.{kind_of_sum, nonce_xor, sum_of, xor_if_known, zeros_in, zeros_of_run}

nonce-assoc : (a b c : Bool) → nonce_xor (nonce_xor a b) c ≡ nonce_xor a (nonce_xor b c)
nonce-assoc true true true = refl
nonce-assoc true true false = refl
nonce-assoc true false true = refl
nonce-assoc true false false = refl
nonce-assoc false true c = refl
nonce-assoc false false c = refl

xor-assoc : (a b c : Option Bool) → xor_if_known (xor_if_known a b) c ≡ xor_if_known a (xor_if_known b c)
xor-assoc None b c = refl
xor-assoc (Some a) None c = refl
xor-assoc (Some a) (Some b) None = refl
xor-assoc (Some a) (Some b) (Some c) = ap Some (nonce-assoc a b c)

xor-nothing : (a : Option Bool) → xor_if_known (Some false) a ≡ a
xor-nothing None = refl
xor-nothing (Some a) = refl

pub sum-append : (f : ℕ → Option Bool) (xs ys : List ℕ) → sum_of f (xs ++ ys) ≡ xor_if_known (sum_of f xs) (sum_of f ys)
sum-append f [] ys = sym (xor-nothing (sum_of f ys))
sum-append f (x ∷ xs) ys = ap (λ s. xor_if_known (f x) s) (sum-append f xs ys) ∙ sym (xor-assoc (f x) (sum_of f xs) (sum_of f ys))

-- one part more of a sum, known or not
sum-more : (sum nonce : Bool) (rest goal : Option Bool) → xor_if_known (Some sum) (xor_if_known (Some nonce) rest) ≡ goal
    → xor_if_known (Some (nonce_xor sum nonce)) rest ≡ goal
sum-more sum nonce rest goal e = xor-assoc (Some sum) (Some nonce) rest ∙ e

-- the numbers from one down: the first one, and the others
downwards-first : (left n : ℕ) → 0 < left → downwards left n ≡ n ∷ downwards (left - 1) (down n 1)
downwards-first left n h = let is : left ≡ suc (left - 1) = omega arith in ap (λ k. downwards k n) is

pub down-more : (f : ℕ → Option Bool) (sum nonce : Bool) (left n : ℕ) (goal : Option Bool) → 0 < left → Some nonce ≡ f n
    → xor_if_known (Some sum) (sum_of f (downwards left n)) ≡ goal
    → xor_if_known (Some (nonce_xor sum nonce)) (sum_of f (downwards (left - 1) (down n 1))) ≡ goal
down-more f sum nonce left n goal h is e =
    let rest : Option Bool = sum_of f (downwards (left - 1) (down n 1)) in
    sum-more sum nonce rest goal
    (ap (λ a. xor_if_known (Some sum) (xor_if_known a rest)) is
    ∙ ap (λ ns. xor_if_known (Some sum) (sum_of f ns)) (sym (downwards-first left n h)) ∙ e)

-- the run that a byte is, from its highest number down
abbrev pub byte_run : ℕ → ℕ → Run
byte_run hi byte = record { hi = hi; count = run_length byte; state = state_of byte }

-- the numbers of a byte, and those of the bytes after it
zeros-first : (f : ℕ → Option Bool) (sum : Bool) (hi byte : ℕ) (rest : List ℕ)
    → xor_if_known (Some sum) (sum_of f (zeros_in hi (byte ∷ rest)))
    ≡ xor_if_known (Some sum) (xor_if_known (sum_of f (zeros_of_run (byte_run hi byte))) (sum_of f (zeros_in (down hi (run_length byte)) rest)))
zeros-first f sum hi byte rest =
    ap (λ s. xor_if_known (Some sum) s) (sum-append f (zeros_of_run (byte_run hi byte)) (zeros_in (down hi (run_length byte)) rest))

pub byte-more : (f : ℕ → Option Bool) (sum nonces : Bool) (hi byte : ℕ) (rest : List ℕ) (goal : Option Bool)
    → Some nonces ≡ sum_of f (zeros_of_run (byte_run hi byte)) → xor_if_known (Some sum) (sum_of f (zeros_in hi (byte ∷ rest))) ≡ goal
    → xor_if_known (Some (nonce_xor sum nonces)) (sum_of f (zeros_in (down hi (run_length byte)) rest)) ≡ goal
byte-more f sum nonces hi byte rest goal is e =
    let others : Option Bool = sum_of f (zeros_in (down hi (run_length byte)) rest) in
    sum-more sum nonces others goal (ap (λ a. xor_if_known (Some sum) (xor_if_known a others)) is ∙ sym (zeros-first f sum hi byte rest) ∙ e)

pub byte-lost : (f : ℕ → Option Bool) (sum : Bool) (hi byte : ℕ) (rest : List ℕ) (goal : Option Bool)
    → None ≡ sum_of f (zeros_of_run (byte_run hi byte)) → xor_if_known (Some sum) (sum_of f (zeros_in hi (byte ∷ rest))) ≡ goal → None ≡ goal
byte-lost f sum hi byte rest goal is e =
    let others : Option Bool = sum_of f (zeros_in (down hi (run_length byte)) rest) in
    ap (λ a. xor_if_known (Some sum) (xor_if_known a others)) is ∙ sym (zeros-first f sum hi byte rest) ∙ e

-- a sum is not known exactly if one of the nonces is not
xor-known : (a b : Option Bool) → not (is_some (xor_if_known a b)) ≡ (not (is_some a) || not (is_some b))
xor-known None b = refl
xor-known (Some a) None = refl
xor-known (Some a) (Some b) = refl

pub sum-unknown : (f : ℕ → Option Bool) (ns : List ℕ) → not (is_some (sum_of f ns)) ≡ list_any (λ n. not (is_some (f n))) ns
sum-unknown f [] = refl
sum-unknown f (n ∷ ns) = xor-known (f n) (sum_of f ns) ∙ ap (λ b. not (is_some (f n)) || b) (sum-unknown f ns)

verdict-unknown : (kind : ℕ) (sum : Option Bool) → (check_verdict kind sum ≡ Unknown) ↔ IsTrue (not (is_some sum))
verdict-unknown kind None = (λ _. refl, λ _. refl)
verdict-unknown kind (Some sum) = (λ e. absurd (known e), λ e. absurd (both_ways false refl e))
  where
    known : (check_verdict kind (Some sum) ≡ Unknown) → ⊥
    known e = elim (cases_Bool (kind_of_sum (Some sum) == kind)) [
      | inl same ↦ let bad : Fits ≡ Unknown = rw same at e in cc
      | inr other ↦ let bad : Unfit ≡ Unknown = rw other at e in cc
    ]

pub check-unknown : (f : ℕ → Option Bool) (kind : ℕ) (ns : List ℕ)
    → (check_verdict kind (sum_of f ns) ≡ Unknown) ↔ IsTrue (list_any (λ n. not (is_some (f n))) ns)
check-unknown f kind ns =
    let both = verdict-unknown kind (sum_of f ns) in (
      λ e. sym (sum-unknown f ns) ∙ both.0 e,
      λ e. both.1 (sum-unknown f ns ∙ e),
    )
