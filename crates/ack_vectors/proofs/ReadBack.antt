-- What is written is read.
use Rattle.std.proofs.Common.{◌≡◌, ℕ, ◌+◌, ◌-◌, ◌/◌, ◌%◌, ◌^◌, ◌<◌, ◌≤◌, ◌==◌, Bool, true, false, List, [], ◌∷◌, ◌++◌, zero, suc, refl, ap, arith, sym, ◌∙◌, length, take, drop, min, nat_le, append_assoc, length-append, length-drop, add-one, inl, inr, if◌then◌else◌, nat_lt, Some, None}
use Rattle.std.specs.Prelude.{replicate, slice_get, IsTrue, ◌↔◌}
use Rattle.std.proofs.lemmas.Bool.{cases_lt, cases_eq, cases_Bool, lt-ltb, le-ltb, eq-eqb, ne_eqb, le-leb, leb-true, ltb-true}
use Rattle.std.proofs.lemmas.List.{take-append-drop, take_all, length-replicate, replicate-append-replicate}
use Rattle.std.proofs.lemmas.Option.{slice_get_past}
use Rattle.seq_circle.specs.Circle.{residue, distance}
use Rattle.run_list.specs.MarkedSet.{is_from, IsFrom}
use Rattle.run_list.proofs.StretchFacts.{down, down_fits}
use Rattle.dccp_options.specs.Vectors.{states, state_at, state_of, run_length}
use Rattle.dccp_options.proofs.States.{states-append}
use Rattle.ack_vectors.specs.Vector.{state_told, set_states, states_down, states_between, numbers_between, Group, grouped_with, groups, piece, pieces, bytes_of_groups, all_bytes, vector_within, is_whole_within, numbers_told_within}
use Rattle.ack_vectors.proofs.Pieces.{pieces-step}
use Rattle.ack_vectors.proofs.ByRuns.{states_down-same}

-- one piece
pub state_of-piece : (s c : ℕ) → (s == 2) ≡ false → 1 ≤ c → c ≤ 64 → state_of (piece s c) ≡ s
state_of-piece s c two h k =
    let q : piece s c / 64 ≡ s = omega arith in
    ap (λ (x : ℕ). if x == 2 then 3 else x) q ∙ rw two refl

pub run_length-piece : (s c : ℕ) → 1 ≤ c → c ≤ 64 → run_length (piece s c) ≡ c
run_length-piece s c h k = omega arith

pub states-piece : (s c : ℕ) (rest : List ℕ) → (s == 2) ≡ false → 1 ≤ c → c ≤ 64 → states (piece s c ∷ rest) ≡ replicate c s ++ states rest
states-piece s c rest two h k =
    ap (λ (x : ℕ). replicate x (state_of (piece s c)) ++ states rest) (run_length-piece s c h k)
    ∙ ap (λ (x : ℕ). replicate c x ++ states rest) (state_of-piece s c two h k)

-- the pieces of a run
pub states-pieces : (fuel s c : ℕ) (rest : List ℕ) → c ≤ fuel → (s == 2) ≡ false → states (pieces s c ++ rest) ≡ replicate c s ++ states rest
states-pieces zero s c rest h two = let none : c ≡ 0 = omega arith in rw none refl
states-pieces (suc fuel) s c rest h two =
    elim (cases_lt 0 c) [
      | inl pos ↦
          let m : ℕ = min c 64 in
          let step : pieces s c ≡ piece s m ∷ pieces s (c - m) = pieces-step s c pos in
          let ih = states-pieces fuel s (c - m) rest (omega arith) two in
          let all : m + (c - m) ≡ c = omega arith in
          ap (λ xs. states (xs ++ rest)) step
          ∙ states-piece s m (pieces s (c - m) ++ rest) two (omega arith) (omega arith)
          ∙ ap (λ ys. replicate m s ++ ys) ih
          ∙ sym (append_assoc (replicate m s) (replicate (c - m) s) (states rest))
          ∙ ap (λ xs. xs ++ states rest) (replicate-append-replicate m (c - m) s)
          ∙ ap (λ k. replicate k s ++ states rest) all
      | inr none ↦ let zero_is : c ≡ 0 = omega arith in rw zero_is refl
    ]

-- states that are not the reserved one
abbrev pub ArePlain : List ℕ → Type 0
ArePlain [] = Unit {0}
ArePlain (s ∷ ss) = ((s == 2) ≡ false) × ArePlain ss

pub states-grouped_with : (s : ℕ) (gs : List (Group ℕ)) → (s == 2) ≡ false → states (bytes_of_groups (grouped_with s gs)) ≡ s ∷ states (bytes_of_groups gs)
states-grouped_with s [] two = states-pieces 1 s 1 [] (omega arith) two
states-grouped_with s (g ∷ gs) two =
    elim (cases_eq g.state s) [
      | inl same ↦
          let head : states (pieces s (g.count + 1) ++ bytes_of_groups gs) ≡ replicate (g.count + 1) s ++ states (bytes_of_groups gs) =
          states-pieces (g.count + 1) s (g.count + 1) (bytes_of_groups gs) (omega arith) two in
          let tail : states (pieces s g.count ++ bytes_of_groups gs) ≡ replicate g.count s ++ states (bytes_of_groups gs) =
          states-pieces g.count s g.count (bytes_of_groups gs) (omega arith) two in
          rw (eq-eqb g.state s same) (head ∙ ap (λ k. replicate k s ++ states (bytes_of_groups gs)) (add-one g.count)
          ∙ ap (λ ys. s ∷ ys) (sym tail ∙ ap (λ t. states (pieces t g.count ++ bytes_of_groups gs)) (sym same)))
      | inr other ↦ rw (ne_eqb g.state s other) (states-pieces 1 s 1 (bytes_of_groups (g ∷ gs)) (omega arith) two)
    ]

pub states-spelled : (ss : List ℕ) → ArePlain ss → states (bytes_of_groups (groups ss)) ≡ ss
states-spelled [] h = refl
states-spelled (s ∷ ss) h = states-grouped_with s (groups ss) h.0 ∙ ap (λ ts. s ∷ ts) (states-spelled ss h.1)

pub plain-told : (b : Bool) → (state_told b == 2) ≡ false
plain-told true = refl
plain-told false = refl

-- no state is the reserved one
abbrev pub AllPlain : (ℕ → ℕ) → Type 0
AllPlain state = (n : ℕ) → (state n == 2) ≡ false

pub plain-set : (has : ℕ → Bool) → AllPlain (set_states has)
plain-set has n = plain-told (has n)

pub plain-states_down : (p : ℕ → ℕ) (count n : ℕ) → AllPlain p → ArePlain (states_down p count n)
plain-states_down p zero n h = tt
plain-states_down p (suc count) n h = (h n, plain-states_down p count (down n) h)

pub states-all_bytes : (p : ℕ → ℕ) (floor ack : ℕ) → AllPlain p → states (all_bytes p floor ack) ≡ states_between p floor ack
states-all_bytes p floor ack h = states-spelled (states_between p floor ack) (plain-states_down p (numbers_between floor ack) ack h)

pub length-states_down : {S : Type 0} (p : ℕ → S) (count n : ℕ) → length (states_down p count n) ≡ count
length-states_down p zero n = refl
length-states_down p (suc count) n = ap suc (length-states_down p count (down n))

-- the state at a place is that of the number so far down
pub slice_get-states_down : {S : Type 0} (p : ℕ → S) (count n i m : ℕ) → n < 2 ^ 48 → m < 2 ^ 48 → i < count → residue (m + i) ≡ n
    → slice_get (states_down p count n) i ≡ Some (p m)
slice_get-states_down p zero n i m a b h e = absurd (omega arith)
slice_get-states_down p (suc count) n zero m a b h e = let same : n ≡ m = omega arith in ap (λ k. Some (p k)) same
slice_get-states_down p (suc count) n (suc i) m a b h e = slice_get-states_down p count (down n) i m (down_fits n) b (omega arith) (omega arith)

pub slice_get-front : {X : Type 0} (front following : List X) (i : ℕ) → i < length front → slice_get (front ++ following) i ≡ slice_get front i
slice_get-front [] following i h = absurd (omega arith)
slice_get-front (x ∷ xs) following zero h = refl
slice_get-front (x ∷ xs) following (suc i) h = slice_get-front xs following i (omega arith)

-- what the vector reports, and what was cut
pub told_and_cut : (room : ℕ) (p : ℕ → ℕ) (floor ack : ℕ) → AllPlain p
    → states_between p floor ack ≡ states (vector_within room p floor ack) ++ states (drop room (all_bytes p floor ack))
told_and_cut room p floor ack h =
    sym (states-all_bytes p floor ack h) ∙ ap states (sym (take-append-drop room (all_bytes p floor ack)))
    ∙ states-append (vector_within room p floor ack) (drop room (all_bytes p floor ack))

pub told_lengths : (room : ℕ) (p : ℕ → ℕ) (floor ack : ℕ) → AllPlain p
    → numbers_told_within room p floor ack + length (states (drop room (all_bytes p floor ack))) ≡ numbers_between floor ack
told_lengths room p floor ack h =
    sym (length-append (states (vector_within room p floor ack)) (states (drop room (all_bytes p floor ack))))
    ∙ ap length (sym (told_and_cut room p floor ack h)) ∙ length-states_down p (numbers_between floor ack) ack

pub read_back : (room : ℕ) (p : ℕ → ℕ) (floor ack n : ℕ) → AllPlain p → ack < 2 ^ 48 → n < 2 ^ 48
    → state_at ack (vector_within room p floor ack) n ≡ (if nat_lt (distance n ack) (numbers_told_within room p floor ack) then Some (p n) else None)
read_back room p floor ack n h b d =
    elim (cases_lt (distance n ack) (numbers_told_within room p floor ack)) [
      | inl within ↦
          let front : List ℕ = states (vector_within room p floor ack) in
          let following : List ℕ = states (drop room (all_bytes p floor ack)) in
          let lengths : numbers_told_within room p floor ack + length following ≡ numbers_between floor ack = told_lengths room p floor ack h in
          let short : distance n ack < numbers_between floor ack = omega arith in
          rw (lt-ltb (distance n ack) (numbers_told_within room p floor ack) within)
          (sym (slice_get-front front following (distance n ack) within)
          ∙ ap (λ xs. slice_get xs (distance n ack)) (sym (told_and_cut room p floor ack h))
          ∙ slice_get-states_down p (numbers_between floor ack) ack (distance n ack) n b d short (way_up n ack d b))
      | inr past ↦
          rw (le-ltb (distance n ack) (numbers_told_within room p floor ack) past)
          (slice_get_past (states (vector_within room p floor ack)) (distance n ack) past)
    ]
  where
    way_up : (n ack : ℕ) → n < 2 ^ 48 → ack < 2 ^ 48 → residue (n + distance n ack) ≡ ack
    way_up n ack d b = omega arith

pub reach_at_most : (room : ℕ) (p : ℕ → ℕ) (floor ack : ℕ) → AllPlain p → numbers_told_within room p floor ack ≤ numbers_between floor ack
reach_at_most room p floor ack h = let lengths = told_lengths room p floor ack h in omega arith

-- each byte reports a number
pub states-long : (bytes : List ℕ) → length bytes ≤ length (states bytes)
states-long [] = omega arith
states-long (b ∷ bs) =
    let ih : length bs ≤ length (states bs) = states-long bs in
    let parts : length (replicate (run_length b) (state_of b) ++ states bs) ≡ length (replicate (run_length b) (state_of b)) + length (states bs) =
    length-append (replicate (run_length b) (state_of b)) (states bs) in
    let run : length (replicate (run_length b) (state_of b)) ≡ b % 64 + 1 = length-replicate (run_length b) (state_of b) in
    omega arith

pub whole_reaches : (room : ℕ) (p : ℕ → ℕ) (floor ack : ℕ) → AllPlain p
    → IsTrue (is_whole_within room p floor ack) ↔ (numbers_told_within room p floor ack ≡ numbers_between floor ack)
whole_reaches room p floor ack plain =
    let bytes : List ℕ = all_bytes p floor ack in
    let lengths : numbers_told_within room p floor ack + length (states (drop room bytes)) ≡ numbers_between floor ack = told_lengths room p floor ack plain in
    let cut : length (drop room bytes) ≤ length (states (drop room bytes)) = states-long (drop room bytes) in
    let size : length (drop room bytes) ≡ length bytes - room = length-drop room bytes in (
      λ h. let fits : length bytes ≤ room = leb-true (length bytes) room h in
          ap (λ xs. length (states xs)) (take_all room bytes fits) ∙ ap length (states-all_bytes p floor ack plain)
          ∙ length-states_down p (numbers_between floor ack) ack,
      λ e. le-leb (length bytes) room (omega arith),
    )

-- a vector looks at nothing but the numbers between
pub states_between-same : (one other : ℕ → ℕ) (floor ack : ℕ) → floor < 2 ^ 48 → ack < 2 ^ 48
    → ((n : ℕ) → n < 2 ^ 48 → IsFrom floor n → distance floor n ≤ distance floor ack → one n ≡ other n)
    → states_between one floor ack ≡ states_between other floor ack
states_between-same one other floor ack a b h =
    elim (cases_Bool (is_from floor ack)) [
      | inl ahead ↦
          let near : distance floor ack < 2 ^ 47 = ltb-true (distance floor ack) (2 ^ 47) ahead in
          rw ahead (states_down-same one other floor (distance floor ack + 1) ack a b (omega arith) (λ m fits u v. h m fits (omega arith) u))
      | inr below ↦ rw below refl
    ]

pub vector-same : (room : ℕ) (one other : ℕ → ℕ) (floor ack : ℕ) → floor < 2 ^ 48 → ack < 2 ^ 48
    → ((n : ℕ) → n < 2 ^ 48 → IsFrom floor n → distance floor n ≤ distance floor ack → one n ≡ other n)
    → (vector_within room one floor ack ≡ vector_within room other floor ack) × (is_whole_within room one floor ack ≡ is_whole_within room other floor ack)
vector-same room one other floor ack a b h =
    let same = states_between-same one other floor ack a b h in (
      ap (λ ss. take room (bytes_of_groups (groups ss))) same,
      ap (λ ss. nat_le (length (bytes_of_groups (groups ss))) room) same,
    )
