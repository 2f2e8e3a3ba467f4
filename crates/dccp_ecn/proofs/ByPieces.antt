-- The bytes of a vector, piece by piece from the top: a piece covers the numbers from one down that have its state, 64 at most.
use Rattle.std.proofs.Common.{◌≡◌, ℕ, ◌+◌, ◌-◌, ◌^◌, ◌<◌, ◌≤◌, List, [], ◌∷◌, ◌++◌, zero, suc, min, length, take, refl, ap, sym, ◌∙◌, arith, inl, inr, append_assoc, append-nil, length-append, nat_le, false, true}
use Rattle.std.specs.Prelude.{replicate}
use Rattle.std.proofs.lemmas.Bool.{cases_eq, cases_lt, eq-eqb, ne_eqb, le-leb, lt-leb}
use Rattle.std.proofs.lemmas.List.{replicate-append-replicate, take_all}
use Rattle.seq_circle.specs.Circle.{down}
use Rattle.ack_vectors.specs.Vector.{Group, bytes_of_groups, grouped_with, groups, piece, pieces, states_down}
use Rattle.ack_vectors.proofs.Pieces.{pieces-some, pieces-step, take_full}
use Rattle.ack_vectors.proofs.ByRuns.{BeginsWithout, spelled-replicate, states_down-add}

-- the bytes of this many numbers from one down
abbrev pub bytes_down : (ℕ → ℕ) → ℕ → ℕ → List ℕ
bytes_down state count n = bytes_of_groups (groups (states_down state count n))

-- a list as a front of one state, and what follows
pub record Parted (s : ℕ) (ss : List ℕ) : Type 0 where
  pub count : ℕ
  pub rest : List ℕ
  pub joins : ss ≡ replicate count s ++ rest
  pub other : BeginsWithout s rest

pub parted : (s : ℕ) (ss : List ℕ) → Parted s ss
parted s [] = record { count = 0; rest = []; joins = refl; other = tt }
parted s (t ∷ ts) =
    elim (cases_eq t s) [
      | inl same ↦
          let more : Parted s ts = parted s ts in
          record {
            count = suc more.count;
            rest = more.rest;
            joins = ap (λ xs. t ∷ xs) more.joins ∙ ap (λ x. x ∷ (replicate more.count s ++ more.rest)) same;
            other = more.other;
          }
      | inr other ↦ record { count = 0; rest = t ∷ ts; joins = refl; other = other }
    ]

-- the first piece of a run that has more numbers than a byte covers, or as many
full-first : (s k : ℕ) (ss : List ℕ) → k ≡ 64 → Parted s ss → bytes_of_groups (groups (replicate k s ++ ss)) ≡ piece s k ∷ bytes_of_groups (groups ss)
full-first s k ss is p =
    let all : ℕ = k + p.count in
    let joined : replicate k s ++ ss ≡ replicate all s ++ p.rest =
    ap (λ xs. replicate k s ++ xs) p.joins ∙ sym (append_assoc (replicate k s) (replicate p.count s) p.rest)
    ∙ ap (λ xs. xs ++ p.rest) (replicate-append-replicate k p.count s) in
    let first : min (k + p.count) 64 ≡ k = omega arith in
    let left : k + p.count - k ≡ p.count = omega arith in
    let step : pieces s (k + p.count) ≡ piece s k ∷ pieces s p.count = pieces-step s (k + p.count) (omega arith) ∙ rw (first, left) refl in
    ap (λ xs. bytes_of_groups (groups xs)) joined ∙ spelled-replicate s all p.rest p.other
    ∙ ap (λ xs. xs ++ bytes_of_groups (groups p.rest)) step
    ∙ ap (λ xs. piece s k ∷ xs) (sym (ap (λ xs. bytes_of_groups (groups xs)) p.joins ∙ spelled-replicate s p.count p.rest p.other))

-- the first piece: of a run that ends with it, or of 64 numbers
pub piece-first : (s k : ℕ) (ss : List ℕ) → 1 ≤ k → k ≤ 64 → (k < 64 → BeginsWithout s ss)
    → bytes_of_groups (groups (replicate k s ++ ss)) ≡ piece s k ∷ bytes_of_groups (groups ss)
piece-first s k ss some most ends =
    elim (cases_lt k 64) [
      | inl short ↦
          let all : min k 64 ≡ k = omega arith in
          let none : k - k ≡ 0 = omega arith in
          let one : pieces s k ≡ piece s k ∷ [] = pieces-step s k (omega arith) ∙ rw (all, none) refl in
          spelled-replicate s k ss (ends short) ∙ ap (λ xs. xs ++ bytes_of_groups (groups ss)) one
      | inr full ↦ full-first s k ss (omega arith) (parted s ss)
    ]

begins-other : (state : ℕ → ℕ) (s count n : ℕ) → (0 < count → (state n ≡ s) → ⊥) → BeginsWithout s (states_down state count n)
begins-other state s zero n h = tt
begins-other state s (suc count) n h = h (omega arith)

-- the piece of this many numbers of one state, and what is left below them
pub bytes_down-first : (state : ℕ → ℕ) (s left k top : ℕ) → top < 2 ^ 48 → 1 ≤ k → k ≤ min left 64 → states_down state k top ≡ replicate k s
    → (k < min left 64 → (state (down top k) ≡ s) → ⊥) → bytes_down state left top ≡ piece s k ∷ bytes_down state (left - k) (down top k)
bytes_down-first state s left k top fits some most alike other =
    let whole : k + (left - k) ≡ left = omega arith in
    let parts : states_down state (k + (left - k)) top ≡ states_down state k top ++ states_down state (left - k) (down top k) =
    states_down-add state k (left - k) top (down top k) fits (omega arith) (omega arith) in
    let front : states_down state left top ≡ replicate k s ++ states_down state (left - k) (down top k) =
    ap (λ count. states_down state count top) (sym whole) ∙ parts ∙ ap (λ xs. xs ++ states_down state (left - k) (down top k)) alike in
    ap (λ xs. bytes_of_groups (groups xs)) front
    ∙ piece-first s k (states_down state (left - k) (down top k)) some (omega arith)
    (λ short. begins-other state s (left - k) (down top k) (λ more. other (omega arith)))

-- one more number of the same state
pub alike-more : (state : ℕ → ℕ) (s count top n : ℕ) → top < 2 ^ 48 → n ≡ down top count → state n ≡ s
    → states_down state count top ≡ replicate count s → states_down state (count + 1) top ≡ replicate (count + 1) s
alike-more state s count top n fits is same alike =
    states_down-add state count 1 top n fits (omega arith) (omega arith)
    ∙ ap (λ xs. xs ++ states_down state 1 n) alike ∙ ap (λ t. replicate count s ++ t ∷ []) same ∙ replicate-append-replicate count 1 s

-- states have a byte
bytes-some : (s : ℕ) (gs : List (Group ℕ)) → 1 ≤ length (bytes_of_groups (grouped_with s gs))
bytes-some s [] = omega (arith, length-append (pieces s 1) [], pieces-some s 1 (omega arith))
bytes-some s (g ∷ gs) =
    elim (cases_eq g.state s) [
      | inl same ↦
          rw (eq-eqb g.state s same)
          (omega (arith, length-append (pieces s (g.count + 1)) (bytes_of_groups gs), pieces-some s (g.count + 1) (omega arith)))
      | inr other ↦
          rw (ne_eqb g.state s other)
          (omega (arith, length-append (pieces s 1) (bytes_of_groups (g ∷ gs)), pieces-some s 1 (omega arith)))
    ]

pub bytes_down-some : (state : ℕ → ℕ) (left top : ℕ) → 0 < left → 1 ≤ length (bytes_down state left top)
bytes_down-some state zero top h = absurd (omega arith)
bytes_down-some state (suc left) top h = bytes-some (state top) (groups (states_down state left (down top 1)))

-- a full option, with more to come
pub full-vector : (room : ℕ) (out rest all : List ℕ) → length out ≡ room → 1 ≤ length rest → out ++ rest ≡ all
    → (out ≡ take room all) × (nat_le (length all) room ≡ false)
full-vector room out rest all full more joins =
    let size : length (out ++ rest) ≡ length out + length rest = length-append out rest in
    let same : length (out ++ rest) ≡ length all = ap length joins in
    (sym (ap (λ xs. take room xs) (sym joins) ∙ take_full room out rest full), lt-leb (length all) room (omega arith))

-- all bytes, for which there was room
pub whole-vector : (room : ℕ) (out all : List ℕ) → length out ≤ room → out ++ [] ≡ all → (out ≡ take room all) × (nat_le (length all) room ≡ true)
whole-vector room out all fits joins =
    let is : out ≡ all = sym (append-nil out) ∙ joins in
    let same : length out ≡ length all = ap length is in
    (is ∙ sym (take_all room all (omega arith)), le-leb (length all) room (omega arith))
