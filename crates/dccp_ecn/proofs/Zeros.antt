-- What a vector's bytes report as received unmarked has state 0 (RFC 4340, section 11.4).
use Rattle.std.proofs.Common.{◌≡◌, ℕ, ◌+◌, ◌^◌, ◌<◌, ◌≤◌, ◌==◌, nat_lt, Bool, true, false, List, [], ◌∷◌, ◌++◌, zero, suc, length, refl, sym, ◌∙◌, arith, inl, inr}
use Rattle.std.specs.Prelude.{Option, Some, None, slice_index_or, if◌then◌else◌}
use Rattle.std.specs.List.{Contains}
use Rattle.std.proofs.lemmas.Bool.{cases_Bool, eqb-true, lt-ltb}
use Rattle.std.proofs.lemmas.Option.{none-some, same_Some}
use Rattle.seq_circle.specs.Circle.{distance, down}
use Rattle.run_list.specs.Runs.{downwards}
use Rattle.dccp_options.specs.Vectors.{is_in_run, run_length, runs_of, state_at, state_of}
use Rattle.dccp_options.specs.declared.report.Run.{Run}
use Rattle.dccp_options.proofs.States.{each_run-gives}
use Rattle.ack_vectors.specs.Vector.{numbers_told_within, option_room}
use Rattle.ack_vectors.proofs.ReadBack.{AllPlain, read_back}
use Rattle.ack_vectors.proofs.Telling.{room-vector}
use Rattle.dccp_ecn.specs.declared.arrived.Arrived.{Arrived}
use Rattle.dccp_ecn.specs.declared.arrived.Arrived.TheVariants as came
use Rattle.dccp_ecn.specs.Arrivals.{Arrivals, how_in}
use Rattle.dccp_ecn.specs.EcnVector.{ecn_bytes, ecn_states, state_told_of}
use Rattle.dccp_ecn.specs.Nonces.{zeros_in, zeros_of_run}
use Rattle.dccp_ecn.proofs.Sums.{byte_run}

-- a fact of each number of a list
abbrev pub Each : (ℕ → Type 0) → List ℕ → Type 0
Each P [] = Unit {0}
Each P (n ∷ ns) = P n × Each P ns

pub each-append : (P : ℕ → Type 0) (xs ys : List ℕ) → Each P xs → Each P ys → Each P (xs ++ ys)
each-append P [] ys a b = b
each-append P (x ∷ xs) ys a b = (a.0, each-append P xs ys a.1 b)

pub each-weaker : (P Q : ℕ → Type 0) (xs : List ℕ) → ((n : ℕ) → P n → Q n) → Each P xs → Each Q xs
each-weaker P Q [] h a = tt
each-weaker P Q (x ∷ xs) h a = (h x a.0, each-weaker P Q xs h a.1)

each-downwards : (P : ℕ → Type 0) (count hi : ℕ) → hi < 2 ^ 48 → count ≤ 64 → ((n : ℕ) → n < 2 ^ 48 → distance n hi < count → P n) → Each P (downwards count hi)
each-downwards P zero hi fits few h = tt
each-downwards P (suc count) hi fits few h =
    (h hi fits (omega arith), each-downwards P count (down hi 1) (omega arith) (omega arith) (λ n n_fits near. h n n_fits (omega arith)))

zeros-each : (P : ℕ → Type 0) (hi : ℕ) (bytes : List ℕ) → hi < 2 ^ 48
    → ((run : Run) (n : ℕ) → Contains (runs_of hi bytes) run → run.state ≡ 0 → n < 2 ^ 48 → is_in_run run n ≡ true → P n) → Each P (zeros_in hi bytes)
zeros-each P hi [] fits h = tt
zeros-each P hi (byte ∷ rest) fits h =
    each-append P (zeros_of_run (byte_run hi byte)) (zeros_in (down hi (run_length byte)) rest) first
    (zeros-each P (down hi (run_length byte)) rest (omega arith) (λ run n there. h run n (there.0 + 1, omega (arith, there.1), later run there)))
  where
    first : Each P (zeros_of_run (byte_run hi byte))
    first = elim (cases_Bool (state_of byte == 0)) [
      | inl zeros ↦
          rw zeros (each-downwards P (run_length byte) hi fits (omega arith)
          (λ n n_fits near. h (byte_run hi byte) n (0, omega arith, refl) (eqb-true (state_of byte) 0 zeros) n_fits
          (lt-ltb (distance n hi) (run_length byte) near)))
      | inr other ↦ rw other tt
    ]

    later : (run : Run) → (there : Contains (runs_of (down hi (run_length byte)) rest) run)
        → slice_index_or (runs_of hi (byte ∷ rest)) (there.0 + 1) run ≡ run
    later run there = let next : there.0 + 1 ≡ suc there.0 = omega arith in rw next there.2

-- no state that is written is the reserved one
pub plain-ecn : (e : Arrivals) → AllPlain (ecn_states e)
plain-ecn e n = by (how_in e.first n)
  where
    by : (how : Option Arrived) → (state_told_of how == 2) ≡ false
    by None = refl
    by (Some (came.Nonce nonce)) = refl
    by (Some came.Marked) = refl

told-state : (b : Bool) (one other : ℕ) → (if b then Some one else None) ≡ Some other → one ≡ other
told-state true one other e = same_Some one other e
told-state false one other e = absurd (none-some other e)

-- a number that an own vector reports as received unmarked
pub zeros-told : (e : Arrivals) (ack : ℕ) → ack < 2 ^ 48 → Each (λ n. (n < 2 ^ 48) × (ecn_states e n ≡ 0)) (zeros_in ack (ecn_bytes e ack))
zeros-told e ack fits =
    zeros-each (λ n. (n < 2 ^ 48) × (ecn_states e n ≡ 0)) ack (ecn_bytes e ack) fits
    (λ run n there is_zero n_fits inside.
    let few : length (ecn_bytes e ack) ≤ 253 = room-vector option_room (ecn_states e) e.set.floor ack in
    let given : state_at ack (ecn_bytes e ack) n ≡ Some run.state = each_run-gives ack n (ecn_bytes e ack) run fits n_fits (omega arith) there inside in
    let read = read_back option_room (ecn_states e) e.set.floor ack n (plain-ecn e) fits n_fits in (
      n_fits,
      told-state (nat_lt (distance n ack) (numbers_told_within option_room (ecn_states e) e.set.floor ack)) (ecn_states e n) run.state (sym read ∙ given)
          ∙ is_zero,
    ))
