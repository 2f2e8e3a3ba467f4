-- The bytes of a vector, run by run of the set.
use Rattle.std.proofs.Common.{◌≡◌, ℕ, ◌+◌, ◌-◌, ◌^◌, ◌<◌, ◌≤◌, Bool, true, false, List, [], ◌∷◌, ◌++◌, zero, suc, refl, ap, arith, sym, ◌∙◌, length, length-append, take, min, append_assoc, append-nil, inl, inr, nat_lt, ◌⊎◌}
use Rattle.std.specs.Prelude.{replicate}
use Rattle.std.proofs.Math.Nat.{suc-add}
use Rattle.std.proofs.lemmas.Bool.{cases_lt, cases_eq, lt-ltb, le-ltb, eq-eqb, ne_eqb}
use Rattle.seq_circle.specs.Circle.{residue, distance}
use Rattle.run_list.specs.declared.walking.Stretch.{Stretch}
use Rattle.run_list.specs.MarkedSet.{MarkedSet, IsSound, has, is_from}
use Rattle.run_list.specs.Stretches.{stretches}
use Rattle.ack_vectors.proofs.Pieces.{take_cut}
use Rattle.run_list.specs.Runs.{downwards, numbers_of, bound_below, AreLaid}
use Rattle.run_list.proofs.StretchFacts.{down, down_fits, distance-down, below-absent, above-absent, inside-present, falling_numbers, laid_below, laid-stretches}
use Rattle.ack_vectors.specs.Vector.{state_told, set_states, states_down, Group, group, grouped_with, groups, pieces, bytes_of_groups, all_bytes}
use Rattle.ack_vectors.specs.ByRuns.{bytes_by_runs}

-- two sets with the same numbers between have the same states
pub states_down-same : (p q : ℕ → ℕ) (f count n : ℕ) → f < 2 ^ 48 → n < 2 ^ 48 → count ≤ distance f n + 1
    → ((m : ℕ) → m < 2 ^ 48 → distance f m ≤ distance f n → distance f n < distance f m + count → p m ≡ q m) → states_down p count n ≡ states_down q count n
states_down-same p q f zero n a b h k = refl
states_down-same p q f (suc zero) n a b h k = ap (λ s. s ∷ []) (k n b (omega arith) (omega arith))
states_down-same p q f (suc (suc count)) n a b h k =
    let d : distance f (down n) + 1 ≡ distance f n = distance-down f n a b (omega arith) in
    let here : p n ≡ q n = k n b (omega arith) (omega arith) in
    let rest : states_down p (suc count) (down n) ≡ states_down q (suc count) (down n) =
    states_down-same p q f (suc count) (down n) a (down_fits n) (omega arith) (λ m fits u v. k m fits (omega arith) (omega arith)) in
    ap (λ s. s ∷ states_down p (suc count) (down n)) here ∙ ap (λ ss. q n ∷ ss) rest

pub states_down-add : (state : ℕ → ℕ) (a b n m : ℕ) → n < 2 ^ 48 → m < 2 ^ 48 → residue (m + a) ≡ n
    → states_down state (a + b) n ≡ states_down state a n ++ states_down state b m
states_down-add state zero b n m p q e =
    let none : 0 + b ≡ b = omega arith in
    let same : m ≡ n = omega arith in
    rw (none, same) refl
states_down-add state (suc a) b n m p q e =
    rw (suc-add a b) (ap (λ ss. state n ∷ ss) (states_down-add state a b (down n) m (down_fits n) q (omega arith)))

pub constant-states : {S : Type 0} (state : S) (count n : ℕ) → states_down (λ _. state) count n ≡ replicate count state
constant-states state zero n = refl
constant-states state (suc count) n = ap (λ ss. state ∷ ss) (constant-states state count (down n))

-- a list that begins with another state, or has none
abbrev pub BeginsWithout : ℕ → List ℕ → Type 0
BeginsWithout s [] = Unit {0}
BeginsWithout s (t ∷ ts) = (t ≡ s) → ⊥

-- one more of the first run's state
pub grouped_with-same : (s count : ℕ) (gs : List (Group ℕ)) → grouped_with s (group s count ∷ gs) ≡ group s (count + 1) ∷ gs
grouped_with-same s count gs = rw (eq-eqb s s refl) refl

-- another state begins a run
pub grouped_with-other : (s t : ℕ) (gs : List (Group ℕ)) → ((t ≡ s) → ⊥) → grouped_with s (grouped_with t gs) ≡ group s 1 ∷ grouped_with t gs
grouped_with-other s t [] h = rw (ne_eqb t s h) refl
grouped_with-other s t (g ∷ gs) h =
    elim (cases_eq g.state t) [
      | inl same ↦ rw (eq-eqb g.state t same, ne_eqb t s h) refl
      | inr other ↦ rw (ne_eqb g.state t other, ne_eqb t s h) refl
    ]

pub groups-begins : (s : ℕ) (rest : List ℕ) → BeginsWithout s rest → groups (s ∷ rest) ≡ group s 1 ∷ groups rest
groups-begins s [] h = refl
groups-begins s (t ∷ ts) h = grouped_with-other s t (groups ts) h

pub groups-replicate : (s count : ℕ) (rest : List ℕ) → BeginsWithout s rest → groups (replicate (suc count) s ++ rest) ≡ group s (suc count) ∷ groups rest
groups-replicate s zero rest h = groups-begins s rest h
groups-replicate s (suc count) rest h =
    let one : suc count + 1 ≡ suc (suc count) = omega arith in
    ap (λ gs. grouped_with s gs) (groups-replicate s count rest h) ∙ grouped_with-same s (suc count) (groups rest) ∙ ap (λ c. group s c ∷ groups rest) one

-- the bytes of a run, and of what follows it
pub spelled-replicate : (s count : ℕ) (rest : List ℕ) → BeginsWithout s rest
    → bytes_of_groups (groups (replicate count s ++ rest)) ≡ pieces s count ++ bytes_of_groups (groups rest)
spelled-replicate s zero rest h = refl
spelled-replicate s (suc count) rest h = ap bytes_of_groups (groups-replicate s count rest h)

-- steps down, whatever the floor
pub wrap_back : (n a : ℕ) → n < 2 ^ 48 → a ≤ 2 ^ 48 → residue (residue (n + (2 ^ 48 - a)) + a) ≡ n
wrap_back n a p h = omega arith

pub distance-back : (f n a : ℕ) → f < 2 ^ 48 → n < 2 ^ 48 → a ≤ distance f n → distance f (residue (n + (2 ^ 48 - a))) + a ≡ distance f n
distance-back f n a p q h = omega arith

-- a vector's states from a number that is missing, or from one that was received
pub begins-missing : (p : ℕ → Bool) (count n : ℕ) → (0 < count → p n ≡ false) → BeginsWithout 0 (states_down (set_states p) count n)
begins-missing p zero n h = tt
begins-missing p (suc count) n h =
    let absent : p n ≡ false = h (omega arith) in
    rw absent (λ e. absurd (omega arith))

pub begins-received : (count : ℕ) (rest : List ℕ) → 0 < count → BeginsWithout 3 (replicate count 0 ++ rest)
begins-received zero rest h = absurd (omega arith)
begins-received (suc count) rest h = λ e. absurd (omega arith)

-- the number that is the first of this many down to the floor
abbrev pub IsTop : ℕ → ℕ → ℕ → Type 0
IsTop f left n = (left ≡ distance f n + 1) ⊎ (left ≡ 0)

pub at_most : (f left n : ℕ) → IsTop f left n → left ≤ distance f n + 1
at_most f left n (inl e) = omega arith
at_most f left n (inr e) = omega arith

pub at_top : (f left n : ℕ) → IsTop f left n → 0 < left → left ≡ distance f n + 1
at_top f left n (inl e) h = e
at_top f left n (inr e) h = absurd (omega arith)

-- the runs of the set spell what its states spell
pub runs-nothing : (left n : ℕ) → pieces 3 left ≡ bytes_of_groups (groups (states_down (λ _. 3) left n))
runs-nothing left n =
    sym (append-nil (pieces 3 left)) ∙ sym (spelled-replicate 3 left [] tt)
    ∙ ap (λ ss. bytes_of_groups (groups ss)) (append-nil (replicate left 3) ∙ sym (constant-states 3 left n))

-- a run above all that is left is passed
pub runs-passed : (f left n : ℕ) (s : Stretch) (rest : List ℕ) → f < 2 ^ 48 → n < 2 ^ 48 → s.hi < 2 ^ 48 → s.count ≤ distance f s.hi + 1 → IsTop f left n
    → left ≤ distance f s.hi + 1 - s.count
    → states_down (set_states (has (downwards s.count s.hi ++ rest))) left n ≡ states_down (set_states (has rest)) left n
runs-passed f left n s rest p q r above top ge =
    states_down-same (set_states (has (downwards s.count s.hi ++ rest))) (set_states (has rest)) f left n p q (at_most f left n top)
    (λ m fits u v. let all : left ≡ distance f n + 1 = at_top f left n top (omega arith) in
    ap state_told (above-absent f m s.count s.hi rest p r (omega arith)))

-- the numbers above a run are missing, those in it are there
pub runs-missing : (f a n : ℕ) (s : Stretch) (ss : List Stretch) → f < 2 ^ 48 → n < 2 ^ 48 → AreLaid f (distance f s.hi + 1) (s ∷ ss)
    → (0 < a → a + distance f s.hi ≤ distance f n) → a ≤ distance f n + 1
    → states_down (set_states (has (numbers_of (s ∷ ss)))) a n ≡ replicate a 3
runs-missing f zero n s ss p q h over most = refl
runs-missing f (suc a) n s ss p q h over most =
    let far : suc a + distance f s.hi ≤ distance f n = over (omega arith) in
    states_down-same (set_states (has (numbers_of (s ∷ ss)))) (λ _. 3) f (suc a) n p q most
    (λ m fits u v. ap state_told
    (below-absent f (distance f s.hi + 1) m (numbers_of (s ∷ ss)) (omega arith) (falling_numbers f (distance f s.hi + 1) (s ∷ ss) p h)))
    ∙ constant-states 3 (suc a) n

pub runs-received : (f k n : ℕ) (s : Stretch) (rest : List ℕ) → f < 2 ^ 48 → n < 2 ^ 48 → s.hi < 2 ^ 48 → distance f n ≤ distance f s.hi
    → distance f s.hi + k ≤ distance f n + s.count → k ≤ distance f n + 1
    → states_down (set_states (has (downwards s.count s.hi ++ rest))) k n ≡ replicate k 0
runs-received f k n s rest p q r under over most =
    states_down-same (set_states (has (downwards s.count s.hi ++ rest))) (λ _. 0) f k n p q most
    (λ m fits u v. ap state_told (inside-present f m s.count s.hi rest p r fits (omega arith) (omega arith)))
    ∙ constant-states 0 k n

-- the run that comes first, and what is left below it
pub runs-first : (f left n : ℕ) (s : Stretch) (ss : List Stretch) → f < 2 ^ 48 → n < 2 ^ 48 → AreLaid f (distance f s.hi + 1) (s ∷ ss) → left ≡ distance f n + 1
    → distance f s.hi + 1 - s.count < left
    → (m : ℕ) × (m < 2 ^ 48) × IsTop f (distance f s.hi + 1 - s.count) m
    × (states_down (set_states (has (numbers_of (s ∷ ss)))) left n
    ≡ replicate (left - min (distance f s.hi + 1) left) 3 ++ (replicate (min (distance f s.hi + 1) left - (distance f s.hi + 1 - s.count)) 0
    ++ states_down (set_states (has (numbers_of ss))) (distance f s.hi + 1 - s.count) m))
runs-first f left n s ss p q h e lt =
    let some : 1 ≤ s.count = h.0.some in
    let above : s.count ≤ distance f s.hi + 1 = h.0.above in
    let fits : s.hi < 2 ^ 48 = h.0.fits in
    let numbers : ℕ → ℕ = set_states (has (numbers_of (s ∷ ss))) in
    let bottom : ℕ = distance f s.hi + 1 - s.count in
    let top : ℕ = min (distance f s.hi + 1) left in
    let a : ℕ = left - top in
    let k : ℕ = top - bottom in
    let m1 : ℕ = residue (n + (2 ^ 48 - a)) in
    let m2 : ℕ = residue (m1 + (2 ^ 48 - k)) in
    let d1 : distance f m1 + a ≡ distance f n = distance-back f n a p q (omega arith) in
    let one : states_down numbers (a + (k + bottom)) n ≡ states_down numbers a n ++ states_down numbers (k + bottom) m1 =
    states_down-add numbers a (k + bottom) n m1 q (omega arith) (wrap_back n a q (omega arith)) in
    let two : states_down numbers (k + bottom) m1 ≡ states_down numbers k m1 ++ states_down numbers bottom m2 =
    states_down-add numbers k bottom m1 m2 (omega arith) (omega arith) (wrap_back m1 k (omega arith) (omega arith)) in
    let m1_fits : m1 < 2 ^ 48 = omega arith in
    let m2_fits : m2 < 2 ^ 48 = omega arith in
    let at1 : distance f m1 + 1 ≡ top = omega arith in
    let is_top : IsTop f bottom m2 = elim (cases_lt 0 bottom) [
      | inl pos ↦ let d2 : distance f m2 + k ≡ distance f m1 = distance-back f m1 k p m1_fits (omega arith) in inl (omega arith)
      | inr none ↦ inr (omega arith)
    ] in
    let missing : states_down numbers a n ≡ replicate a 3 = runs-missing f a n s ss p q h (λ pos. omega arith) (omega arith) in
    let received : states_down numbers k m1 ≡ replicate k 0 =
    runs-received f k m1 s (numbers_of ss) p m1_fits fits (omega arith) (omega arith) (omega arith) in
    let third : states_down numbers bottom m2 ≡ states_down (set_states (has (numbers_of ss))) bottom m2 =
    runs-passed f bottom m2 s (numbers_of ss) p m2_fits fits above is_top (omega arith) in
    let all : left ≡ a + (k + bottom) = omega arith in (
      m2,
      m2_fits,
      is_top,
      ap (λ c. states_down numbers c n) all ∙ one
          ∙ ap (λ xs. xs ++ states_down numbers (k + bottom) m1) missing
          ∙ ap (λ ys. replicate a 3 ++ ys) (two ∙ ap (λ xs. xs ++ states_down numbers bottom m2) received ∙ ap (λ ys. replicate k 0 ++ ys) third),
    )

pub runs-is : (f b left n : ℕ) (ss : List Stretch) → f < 2 ^ 48 → n < 2 ^ 48 → AreLaid f b ss → IsTop f left n
    → bytes_by_runs f left ss ≡ bytes_of_groups (groups (states_down (set_states (has (numbers_of ss))) left n))
runs-is f b left n [] p q h top = runs-nothing left n
runs-is f b left n (s ∷ ss) p q h top =
    elim (cases_lt (distance f s.hi + 1 - s.count) left) [
      | inl lt ↦
          let test : nat_lt (distance f s.hi + 1 - s.count) left ≡ true = lt-ltb (distance f s.hi + 1 - s.count) left lt in
          let first = runs-first f left n s ss p q (laid_below f b (distance f s.hi + 1) s ss (omega arith) h) (at_top f left n top (omega arith)) lt in
          let bottom : ℕ = distance f s.hi + 1 - s.count in
          let some : 1 ≤ s.count = h.0.some in
          let above : s.count ≤ distance f s.hi + 1 = h.0.above in
          let m : ℕ = first.0 in
          let ih : bytes_by_runs f bottom ss ≡ bytes_of_groups (groups (states_down (set_states (has (numbers_of ss))) bottom m)) =
          runs-is f (bound_below f s) bottom m ss p first.1 h.1 first.2 in
          let rest : List ℕ = states_down (set_states (has (numbers_of ss))) bottom m in
          let begins : BeginsWithout 0 rest = begins-missing (has (numbers_of ss)) bottom m
          (λ pos. let here : bottom ≡ distance f m + 1 = at_top f bottom m first.2 pos in
          below-absent f (bound_below f s) m (numbers_of ss) (omega arith) (falling_numbers f (bound_below f s) ss p h.1)) in
          let k : ℕ = min (distance f s.hi + 1) left - bottom in
          let a : ℕ = left - min (distance f s.hi + 1) left in
          rw test (sym (ap (λ xs. bytes_of_groups (groups xs)) first.3
          ∙ spelled-replicate 3 a (replicate k 0 ++ rest) (begins-received k rest (omega arith))
          ∙ ap (λ ys. pieces 3 a ++ ys) (spelled-replicate 0 k rest begins ∙ ap (λ ys. pieces 0 k ++ ys) (sym ih))))
      | inr ge ↦
          let test : nat_lt (distance f s.hi + 1 - s.count) left ≡ false = le-ltb (distance f s.hi + 1 - s.count) left ge in
          let ih : bytes_by_runs f left ss ≡ bytes_of_groups (groups (states_down (set_states (has (numbers_of ss))) left n)) =
          runs-is f (bound_below f s) left n ss p q h.1 top in
          let same = runs-passed f left n s (numbers_of ss) p q h.0.fits h.0.above top ge in
          rw test (ih ∙ ap (λ xs. bytes_of_groups (groups xs)) (sym same))
    ]

-- one run more, by what is written for it
pub runs-cons : (f left : ℕ) (s : Stretch) (ss : List Stretch) → distance f s.hi + 1 - s.count < left
    → bytes_by_runs f left (s ∷ ss) ≡ pieces 3 (left - min (distance f s.hi + 1) left)
    ++ (pieces 0 (min (distance f s.hi + 1) left - (distance f s.hi + 1 - s.count)) ++ bytes_by_runs f (distance f s.hi + 1 - s.count) ss)
runs-cons f left s ss lt =
    let test : nat_lt (distance f s.hi + 1 - s.count) left ≡ true = lt-ltb (distance f s.hi + 1 - s.count) left lt in
    rw test refl

pub step_joins : (f left top bottom cut : ℕ) (out new goal : List ℕ) (s : Stretch) (ss : List Stretch) → top ≡ distance f s.hi + 1 → bottom ≡ top - s.count
    → bottom < left → cut ≡ min top left
    → new ≡ out ++ (pieces 3 (left - cut) ++ pieces 0 (cut - bottom)) → out ++ bytes_by_runs f left (s ∷ ss) ≡ goal → new ++ bytes_by_runs f bottom ss ≡ goal
step_joins f left top bottom cut out new goal s ss t b lt c n j =
    let bottom_is : bottom ≡ distance f s.hi + 1 - s.count = omega arith in
    let cut_is : cut ≡ min (distance f s.hi + 1) left = omega arith in
    let parts = runs-cons f left s ss (omega arith) in
    rw (n, cut_is, bottom_is)
    (append_assoc out _ _ ∙ ap (λ xs. out ++ xs) (append_assoc (pieces 3 (left - min (distance f s.hi + 1) left)) _ _ ∙ sym parts) ∙ j)

pub step_cut : (room f left top bottom cut : ℕ) (out new goal : List ℕ) (s : Stretch) (ss : List Stretch) → top ≡ distance f s.hi + 1 → bottom ≡ top - s.count
    → bottom < left → cut ≡ min top left
    → new ≡ take room (out ++ (pieces 3 (left - cut) ++ pieces 0 (cut - bottom))) → room < length (out ++ (pieces 3 (left - cut) ++ pieces 0 (cut - bottom)))
    → out ++ bytes_by_runs f left (s ∷ ss) ≡ goal → (new ≡ take room goal) × (room < length goal)
step_cut room f left top bottom cut out new goal s ss t b lt c n long j =
    let front : List ℕ = out ++ (pieces 3 (left - cut) ++ pieces 0 (cut - bottom)) in
    let all : front ++ bytes_by_runs f bottom ss ≡ goal = step_joins f left top bottom cut out front goal s ss t b lt c refl j in
    let size : length (front ++ bytes_by_runs f bottom ss) ≡ length front + length (bytes_by_runs f bottom ss) =
    length-append front (bytes_by_runs f bottom ss) in
    let same : length (front ++ bytes_by_runs f bottom ss) ≡ length goal = ap length all in
    (n ∙ sym (take_cut room front (bytes_by_runs f bottom ss) long) ∙ ap (λ xs. take room xs) all, omega arith)

pub step_passed : (f left top bottom : ℕ) (out goal : List ℕ) (s : Stretch) (ss : List Stretch) → top ≡ distance f s.hi + 1 → bottom ≡ top - s.count
    → left ≤ bottom
    → out ++ bytes_by_runs f left (s ∷ ss) ≡ goal → out ++ bytes_by_runs f left ss ≡ goal
step_passed f left top bottom out goal s ss t b ge j =
    let test : nat_lt (distance f s.hi + 1 - s.count) left ≡ false = le-ltb (distance f s.hi + 1 - s.count) left (omega arith) in
    let same : bytes_by_runs f left (s ∷ ss) ≡ bytes_by_runs f left ss = rw test refl in
    ap (λ xs. out ++ xs) (sym same) ∙ j

-- the bytes of a vector by the maximal runs of its set
pub bytes_by_runs-all : (set : MarkedSet) (ack : ℕ) → IsSound set → ack < 2 ^ 48 → distance set.floor ack < 2 ^ 47
    → bytes_by_runs set.floor (distance set.floor ack + 1) (stretches set.numbers) ≡ all_bytes (set_states (has set.numbers)) set.floor ack
bytes_by_runs-all set ack s q h =
    let both = laid-stretches set.floor 2048 set.numbers s.floor_fits (omega arith) s.falling in
    let near : is_from set.floor ack ≡ true = lt-ltb (distance set.floor ack) (2 ^ 47) h in
    rw near
    (runs-is set.floor 2048 (distance set.floor ack + 1) ack (stretches set.numbers) s.floor_fits q both.0 (inl refl)
    ∙ ap (λ ns. bytes_of_groups (groups (states_down (set_states (has ns)) (distance set.floor ack + 1) ack))) both.1)
