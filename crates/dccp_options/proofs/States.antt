-- The states that the bytes of Ack Vectors give.
use Rattle.std.proofs.Common.{◌≡◌, ℕ, zero, suc, ◌+◌, ◌-◌, ◌*◌, ◌^◌, ◌≤◌, ◌<◌, Bool, true, false, nat_lt, List, [], ◌∷◌, ◌++◌, length, replicate, slice_get, Some, if◌then◌else◌, refl, ap, sym, ◌∙◌, arith, append_assoc, length-append, slice_index_or}
use Rattle.std.specs.List.{Contains}
use Prim.Native.Nat.compare
use Rattle.std.proofs.lemmas.List.{length-replicate}
use Rattle.std.proofs.lemmas.Grind.{common_steps}
use Rattle.seq_circle.specs.Circle.{distance, down}
use Rattle.dccp_options.specs.declared.report.Run.{Run}
use Rattle.dccp_options.specs.Vectors.{state_of, run_length, states, state_at, runs_of, numbers_covered, HavePassed, is_in_run, state_in}

-- vectors that continue each other give their states one after the other
pub states-append : (front following : List ℕ) → states (front ++ following) ≡ states front ++ states following
states-append [] following = refl
states-append (byte ∷ rest) following =
    ap (λ xs. replicate (run_length byte) (state_of byte) ++ xs) (states-append rest following)
    ∙ sym (append_assoc (replicate (run_length byte) (state_of byte)) (states rest) (states following))

-- in a run of one state, and past it
pub slice_get-run : (count state i : ℕ) (rest : List ℕ)
    → slice_get (replicate count state ++ rest) i ≡ (if nat_lt i count then Some state else slice_get rest (i - count))
slice_get-run zero state i rest =
    let past : nat_lt i 0 ≡ false = grind (arith, common_steps) in
    let same : i - 0 ≡ i = omega arith in
    rw (past, same) refl
slice_get-run (suc count) state zero rest =
    let first : nat_lt 0 (suc count) ≡ true = grind (arith, common_steps) in
    rw first refl
slice_get-run (suc count) state (suc i) rest =
    let less : nat_lt (suc i) (suc count) ≡ nat_lt i count = rw compare.suc-suc refl in
    let same : suc i - suc count ≡ i - count = omega arith in
    rw (less, same) (slice_get-run count state i rest)

-- how far a number lies below the next run
pub distance-below : (n hi count : ℕ) → n < 2 ^ 48 → hi < 2 ^ 48 → count ≤ 64 → count ≤ distance n hi
    → distance n (down hi count) ≡ distance n hi - count
distance-below n hi count fits_n fits_hi small far = omega arith

-- two choices are one where they are so past the test
pub if_same : {A : Type 0} (b : Bool) (x y z : A) → (b ≡ false → y ≡ z) → (if b then x else y) ≡ (if b then x else z)
if_same true x y z h = refl
if_same false x y z h = h refl

-- the runs give each number the state that the bytes give it
pub state_at-runs : (ack : ℕ) (bytes : List ℕ) (n : ℕ) → ack < 2 ^ 48 → n < 2 ^ 48
    → state_at ack bytes n ≡ state_in (runs_of ack bytes) n
state_at-runs ack [] n fits_ack fits_n = refl
state_at-runs ack (byte ∷ rest) n fits_ack fits_n =
    let count = run_length byte in
    let below = down ack count in
    slice_get-run count (state_of byte) (distance n ack) (states rest)
    ∙ if_same (nat_lt (distance n ack) count) (Some (state_of byte)) (slice_get (states rest) (distance n ack - count))
    (state_in (runs_of below rest) n)
    (λ past.
    let far : count ≤ distance n ack = grind (arith, common_steps, past) in
    let step = distance-below n ack count fits_n fits_ack (omega arith) far in
    ap (slice_get (states rest)) (sym step) ∙ state_at-runs below rest n (omega arith) fits_n)

pub length-states : (byte : ℕ) (rest : List ℕ) → length (states (byte ∷ rest)) ≡ run_length byte + length (states rest)
length-states byte rest =
    length-append (replicate (run_length byte) (state_of byte)) (states rest)
    ∙ ap (λ k. k + length (states rest)) (length-replicate (run_length byte) (state_of byte))

-- a byte covers at most 64 numbers
pub length-states-le : (bytes : List ℕ) → length (states bytes) ≤ 64 * length bytes
length-states-le [] = omega arith
length-states-le (byte ∷ rest) = omega (arith, length-states byte rest, length-states-le rest)

-- how far a number lies below a run, where the runs after it do not go round the circle
pub distance-above : (n hi count : ℕ) → n < 2 ^ 48 → hi < 2 ^ 48 → count ≤ 64
    → distance n (down hi count) + count < 2 ^ 48
    → distance n hi ≡ distance n (down hi count) + count
distance-above n hi count fits_n fits_hi small near = omega arith

-- a number of a run, whichever it is, lies within the bytes, which give it the run's state
pub run-gives : (k ack n : ℕ) (bytes : List ℕ) (other : Run) → ack < 2 ^ 48 → n < 2 ^ 48
    → length (states bytes) ≤ 2 ^ 48 → k < length (runs_of ack bytes)
    → is_in_run (slice_index_or (runs_of ack bytes) k other) n ≡ true
    → (state_at ack bytes n ≡ Some (slice_index_or (runs_of ack bytes) k other).state)
    × (distance n ack < length (states bytes))
run-gives k ack n [] other _ _ _ inside _ = absurd (omega arith)
run-gives zero ack n (byte ∷ rest) other fits_ack fits_n few inside here =
    let count = run_length byte in
    let at = slice_get-run count (state_of byte) (distance n ack) (states rest) in
    let near : distance n ack < count = grind (arith, common_steps, here) in
    (rw here at at, omega (arith, length-states byte rest))
run-gives (suc k) ack n (byte ∷ rest) other fits_ack fits_n few inside here =
    let count = run_length byte in
    let below = down ack count in
    let whole = length-states byte rest in
    let later = run-gives k below n rest other (omega arith) fits_n (omega arith) (omega arith) here in
    let up : distance n ack ≡ distance n below + count =
    distance-above n ack count fits_n fits_ack (omega arith) (omega (arith, later.1)) in
    let past : nat_lt (distance n ack) count ≡ false = grind (arith, common_steps, up) in
    let same : distance n ack - count ≡ distance n below = omega arith in
    let at = slice_get-run count (state_of byte) (distance n ack) (states rest) in
    (rw (past, same) at at ∙ later.0, omega (arith, later.1))

-- the same of any run among those of at most 1,008 bytes
pub each_run-gives : (ack n : ℕ) (bytes : List ℕ) (run : Run) → ack < 2 ^ 48 → n < 2 ^ 48 → length bytes ≤ 1008
    → Contains (runs_of ack bytes) run → is_in_run run n ≡ true → state_at ack bytes n ≡ Some run.state
each_run-gives ack n bytes run fits_ack fits_n few (k, inside, is_run) here =
    let at = run-gives k ack n bytes run fits_ack fits_n (omega (arith, length-states-le bytes)) inside
    (ap (λ r. is_in_run r n) is_run ∙ here) in
    at.0 ∙ ap (λ r. Some r.state) is_run

-- one byte more gives as many states more as it covers numbers
pub length-states-more : (passed : List ℕ) (byte : ℕ) → length (states (passed ++ byte ∷ [])) ≡ length (states passed) + run_length byte
length-states-more passed byte =
    ap length (states-append passed (byte ∷ []))
    ∙ length-append (states passed) (states (byte ∷ []))
    ∙ ap (λ k. length (states passed) + k) (length-states byte [] ∙ omega arith)

-- one step down after another
down-down : (n one other : ℕ) → down (down n one) other ≡ down n (one + other)
down-down n one other = omega arith

-- the runs of bytes after others go on below these
pub runs_of-append : (hi : ℕ) (front rest : List ℕ) → hi < 2 ^ 48
    → runs_of hi (front ++ rest) ≡ runs_of hi front ++ runs_of (down hi (length (states front))) rest
runs_of-append hi [] rest fits = let same : hi ≡ down hi 0 = omega arith in ap (λ top. runs_of top rest) same
runs_of-append hi (byte ∷ front) rest fits =
    let below = down hi (run_length byte) in
    ap (λ runs. record { hi = hi; count = run_length byte; state = state_of byte } ∷ runs)
    (runs_of-append below front rest (omega arith)
    ∙ ap (λ top. runs_of below front ++ runs_of top rest)
    (down-down hi (run_length byte) (length (states front)) ∙ ap (λ k. down hi k) (sym (length-states byte front))))

-- runs cover as many numbers as their bytes give states
pub numbers_covered-runs_of : (hi : ℕ) (bytes : List ℕ) → length (states bytes) ≡ numbers_covered (runs_of hi bytes)
numbers_covered-runs_of hi [] = refl
numbers_covered-runs_of hi (byte ∷ rest) =
    length-states byte rest ∙ ap (λ k. run_length byte + k) (numbers_covered-runs_of (down hi (run_length byte)) rest)

-- one byte more is passed
pub passed_more : (vector left rest : List ℕ) (byte numbers count : ℕ) → left ≡ byte ∷ rest → count ≡ run_length byte
    → (passed : List ℕ) × (vector ≡ passed ++ left) × (numbers ≡ length (states passed))
    → (passed : List ℕ) × (vector ≡ passed ++ rest) × (numbers + count ≡ length (states passed))
passed_more vector left rest byte numbers count first covers (passed, is, counts) = (
  passed ++ byte ∷ [],
  is ∙ ap (λ bytes. passed ++ bytes) first ∙ sym (append_assoc passed (byte ∷ []) rest),
  omega (arith, covers, counts, length-states-more passed byte),
)

-- bytes that are passed are runs that are passed
pub passed_runs : (hi numbers : ℕ) (vector left others : List ℕ) (runs : List Run) → hi < 2 ^ 48 → runs_of hi (vector ++ others) ≡ runs
    → (passed : List ℕ) × (vector ≡ passed ++ left) × (numbers ≡ length (states passed))
    → HavePassed runs numbers (runs_of (down hi numbers) (left ++ others))
passed_runs hi numbers vector left others runs fits all (passed, is, counts) = (
  runs_of hi passed,
  sym all
      ∙ ap (λ bytes. runs_of hi (bytes ++ others)) is
      ∙ ap (runs_of hi) (append_assoc passed left others)
      ∙ runs_of-append hi passed (left ++ others) fits
      ∙ ap (λ k. runs_of hi passed ++ runs_of (down hi k) (left ++ others)) (sym counts),
  counts ∙ numbers_covered-runs_of hi passed,
)
