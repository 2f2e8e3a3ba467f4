-- What a coding writes of states it reads, and its bytes begin with a piece of the first run. This is said of any coding that is lawful
-- for the states that it is asked for.
use Rattle.std.proofs.Common.{◌≡◌, ℕ, zero, suc, ◌+◌, ◌-◌, ◌/◌, ◌%◌, ◌^◌, ◌<◌, ◌≤◌, ◌⊎◌, inl, inr, true, false, List, [], ◌∷◌, ◌++◌, replicate, if◌then◌else◌, refl, ap, sym, subst, ◌∙◌, arith, append_assoc, add-one, All}
use Rattle.std.specs.Prelude.{slice_set}
use Rattle.std.proofs.Math.Nat.{zero-div, zero-mod, div-eq_of_lt, mod-eq_of_lt, div_self, mod_self, add-div_right, add-mod_right}
use Rattle.std.proofs.lemmas.Bool.{cases_lt, cases_eq, cases_Bool, ne_eqb, both_ways}
use Rattle.std.proofs.lemmas.List.{replicate-append-replicate}
use Rattle.std.proofs.lemmas.List.Elements.{All-head, All-tail}
use Rattle.seq_circle.specs.Circle.{distance, down}
use Rattle.ack_vectors.specs.Coding.{Coding, Group, group, states_down, grouped_with, groups, last_piece, pieces, bytes_of_groups, coded_bytes, states_of, BeginsWithout}

-- For these states two are the same where they are equal, a byte covers a number or more, and each byte gives back its state and count.
pub record IsLawful (S : Type 0) (coding : Coding S) (CanBe : S → Type 0) : Type 0 where
  pub alike : (one other : S) → coding.same one other ≡ true → one ≡ other
  pub itself : (state : S) → coding.same state state ≡ true
  pub some : (state : S) → 0 < coding.most state
  pub reads_state : (state : S) (count : ℕ) → CanBe state → 1 ≤ count → count ≤ coding.most state → coding.state_of (coding.byte state count) ≡ state
  pub reads_count : (state : S) (count : ℕ) → CanBe state → 1 ≤ count → count ≤ coding.most state → coding.run_length (coding.byte state count) ≡ count

module _ {S : Type 0} (coding : Coding S) where
  last_piece-some : (s : S) (c : ℕ) → 0 < c → last_piece coding s c ≡ coding.byte s c ∷ []
  last_piece-some s zero h = absurd (omega arith)
  last_piece-some s (suc c) h = let some = ne_eqb (suc c) 0 (λ (e : suc c ≡ 0). omega arith) in rw some refl

  -- a run that one byte covers
  pub pieces-one : (s : S) (c : ℕ) → 0 < c → c ≤ coding.most s → pieces coding s c ≡ coding.byte s c ∷ []
  pieces-one s c some fits =
      elim (cases_lt c (coding.most s)) [
        | inl short ↦
            ap (λ (q : ℕ). replicate q (coding.byte s (coding.most s)) ++ last_piece coding s (c % coding.most s)) (div-eq_of_lt short)
            ∙ ap (λ (r : ℕ). last_piece coding s r) (mod-eq_of_lt short) ∙ last_piece-some s c some
        | inr long ↦
            let full : c ≡ coding.most s = omega arith in
            let most : 0 < coding.most s = omega arith in
            subst (λ (k : ℕ). pieces coding s k ≡ coding.byte s k ∷ []) (sym full)
            (ap (λ (q : ℕ). replicate q (coding.byte s (coding.most s)) ++ last_piece coding s (coding.most s % coding.most s)) (div_self most)
            ∙ ap (λ (r : ℕ). coding.byte s (coding.most s) ∷ last_piece coding s r) (mod_self (coding.most s)))
      ]

  -- a run begins with a full piece, where it has one
  pub pieces-full : (s : S) (c : ℕ) → 0 < coding.most s → pieces coding s (c + coding.most s) ≡ coding.byte s (coding.most s) ∷ pieces coding s c
  pieces-full s c most =
      let quotient : (c + coding.most s) / coding.most s ≡ suc (c / coding.most s) = add-div_right c most ∙ add-one (c / coding.most s) in
      ap (λ (q : ℕ). replicate q (coding.byte s (coding.most s)) ++ last_piece coding s ((c + coding.most s) % coding.most s)) quotient
      ∙ ap (λ (r : ℕ). coding.byte s (coding.most s) ∷ (replicate (c / coding.most s) (coding.byte s (coding.most s)) ++ last_piece coding s r))
      (add-mod_right c (coding.most s))

  pub pieces-none : (s : S) → pieces coding s 0 ≡ []
  pieces-none s =
      ap (λ (q : ℕ). replicate q (coding.byte s (coding.most s)) ++ last_piece coding s (0 % coding.most s)) (zero-div (coding.most s))
      ∙ ap (λ (r : ℕ). last_piece coding s r) (zero-mod (coding.most s))

  -- this many numbers of one state before these runs
  abbrev onto : S → ℕ → List (Group S) → List (Group S)
  onto s count [] = group s count ∷ []
  onto s count (g ∷ gs) = if coding.same g.state s then group s (g.count + count) ∷ gs else group s count ∷ g ∷ gs

  -- runs that begin with another state, or are none
  abbrev RunsWithout : S → List (Group S) → Type 0
  RunsWithout s [] = Unit {0}
  RunsWithout s (g ∷ gs) = coding.same g.state s ≡ false

  without-grouped : (s t : S) (gs : List (Group S)) → coding.same t s ≡ false → RunsWithout s (grouped_with coding t gs)
  without-grouped s t [] other = other
  without-grouped s t (g ∷ gs) other =
      elim (cases_Bool (coding.same g.state t)) [ inl same ↦ rw same other | inr apart ↦ rw apart other ]

  runs_without : (s : S) (rest : List S) → BeginsWithout coding s rest → RunsWithout s (groups coding rest)
  runs_without s [] other = tt
  runs_without s (t ∷ ts) other = without-grouped s t (groups coding ts) other

  -- bytes after others give their states after theirs
  pub states_of-append : (front following : List ℕ) → states_of coding (front ++ following) ≡ states_of coding front ++ states_of coding following
  states_of-append [] following = refl
  states_of-append (byte ∷ rest) following =
      ap (λ (states : List S). replicate (coding.run_length byte) (coding.state_of byte) ++ states) (states_of-append rest following)
      ∙ sym (append_assoc (replicate (coding.run_length byte) (coding.state_of byte)) (states_of coding rest) (states_of coding following))

module _ {S : Type 0} (coding : Coding S) (CanBe : S → Type 0) (lawful : IsLawful S coding CanBe) where
  grouped-onto : (s : S) (count : ℕ) (gs : List (Group S)) → grouped_with coding s (onto coding s count gs) ≡ onto coding s (suc count) gs
  grouped-onto s count [] =
      let same : coding.same s s ≡ true = lawful.itself s in rw same (ap (λ (c : ℕ). group s c ∷ []) (add-one count))
  grouped-onto s count (g ∷ gs) =
      let itself : coding.same s s ≡ true = lawful.itself s in
      let more : g.count + count + 1 ≡ g.count + suc count = omega arith in
      elim (cases_Bool (coding.same g.state s)) [
        | inl same ↦ rw (same, itself) (ap (λ (c : ℕ). group s c ∷ gs) more)
        | inr apart ↦ rw (apart, itself) (ap (λ (c : ℕ). group s c ∷ g ∷ gs) (add-one count))
      ]

  onto-one : (s : S) (gs : List (Group S)) → grouped_with coding s gs ≡ onto coding s 1 gs
  onto-one s [] = refl
  onto-one s (g ∷ gs) = refl

  groups-replicate : (s : S) (count : ℕ) (rest : List S) → groups coding (replicate (suc count) s ++ rest) ≡ onto coding s (suc count) (groups coding rest)
  groups-replicate s zero rest = onto-one s (groups coding rest)
  groups-replicate s (suc count) rest =
      ap (λ (gs : List (Group S)). grouped_with coding s gs) (groups-replicate s count rest) ∙ grouped-onto s (suc count) (groups coding rest)

  full-count : (s : S) (count : ℕ) (g : Group S) → coding.same g.state s ≡ true → (count ≡ coding.most s) ⊎ (coding.same g.state s ≡ false)
      → count ≡ coding.most s
  full-count s count g same (inl is) = is
  full-count s count g same (inr apart) = absurd (both_ways (coding.same g.state s) apart same)

  bytes-joined : (s : S) (count : ℕ) (g : Group S) (gs : List (Group S)) → coding.same g.state s ≡ true → count ≡ coding.most s
      → pieces coding s (g.count + count) ++ bytes_of_groups coding gs ≡ coding.byte s count ∷ (pieces coding g.state g.count ++ bytes_of_groups coding gs)
  bytes-joined s count g gs same is =
      let state : g.state ≡ s = lawful.alike g.state s same in
      subst (λ (k : ℕ). pieces coding s (g.count + k) ++ bytes_of_groups coding gs ≡ coding.byte s k
      ∷ (pieces coding g.state g.count ++ bytes_of_groups coding gs))
      (sym is)
      (ap (λ (bytes : List ℕ). bytes ++ bytes_of_groups coding gs) (pieces-full coding s g.count (lawful.some s))
      ∙ ap (λ (t : S). coding.byte s (coding.most s) ∷ (pieces coding t g.count ++ bytes_of_groups coding gs)) (sym state))

  bytes-onto : (s : S) (count : ℕ) (gs : List (Group S)) → 0 < count → count ≤ coding.most s → (count ≡ coding.most s) ⊎ RunsWithout coding s gs
      → bytes_of_groups coding (onto coding s count gs) ≡ coding.byte s count ∷ bytes_of_groups coding gs
  bytes-onto s count [] some fits ends = ap (λ (bytes : List ℕ). bytes ++ []) (pieces-one coding s count some fits)
  bytes-onto s count (g ∷ gs) some fits ends =
      elim (cases_Bool (coding.same g.state s)) [
        | inl same ↦ rw same (bytes-joined s count g gs same (full-count s count g same ends))
        | inr apart ↦ rw apart
            (ap (λ (bytes : List ℕ). bytes ++ (pieces coding g.state g.count ++ bytes_of_groups coding gs)) (pieces-one coding s count some fits))
      ]

  ends-runs : (s : S) (count : ℕ) (rest : List S) → (count ≡ coding.most s) ⊎ BeginsWithout coding s rest
      → (count ≡ coding.most s) ⊎ RunsWithout coding s (groups coding rest)
  ends-runs s count rest (inl full) = inl full
  ends-runs s count rest (inr other) = inr (runs_without coding s rest other)

  -- The bytes of states begin with the byte of as many of their first run as it covers.
  pub bytes-first : (s : S) (count : ℕ) (rest : List S) → 0 < count → count ≤ coding.most s → (count ≡ coding.most s) ⊎ BeginsWithout coding s rest
      → coded_bytes coding (replicate count s ++ rest) ≡ coding.byte s count ∷ coded_bytes coding rest
  bytes-first s zero rest some fits ends = absurd (omega arith)
  bytes-first s (suc count) rest some fits ends =
      ap (λ (gs : List (Group S)). bytes_of_groups coding gs) (groups-replicate s count rest)
      ∙ bytes-onto s (suc count) (groups coding rest) some fits (ends-runs s (suc count) rest ends)

  states-byte : (s : S) (count : ℕ) (rest : List ℕ) → CanBe s → 1 ≤ count → count ≤ coding.most s
      → states_of coding (coding.byte s count ∷ rest) ≡ replicate count s ++ states_of coding rest
  states-byte s count rest can some fits =
      ap (λ (k : ℕ). replicate k (coding.state_of (coding.byte s count)) ++ states_of coding rest) (lawful.reads_count s count can some fits)
      ∙ ap (λ (t : S). replicate count t ++ states_of coding rest) (lawful.reads_state s count can some fits)

  states-none : (s : S) (c : ℕ) (rest : List ℕ) → c ≡ 0 → states_of coding (pieces coding s c ++ rest) ≡ replicate c s ++ states_of coding rest
  states-none s c rest none =
      subst (λ (k : ℕ). states_of coding (pieces coding s k ++ rest) ≡ replicate k s ++ states_of coding rest) (sym none)
      (ap (λ (bytes : List ℕ). states_of coding (bytes ++ rest)) (pieces-none coding s))

  states-more : (s : S) (c : ℕ) (rest : List ℕ) → CanBe s → states_of coding (pieces coding s c ++ rest) ≡ replicate c s ++ states_of coding rest
      → states_of coding (pieces coding s (c + coding.most s) ++ rest) ≡ replicate (c + coding.most s) s ++ states_of coding rest
  states-more s c rest can later =
      let some : 0 < coding.most s = lawful.some s in
      ap (λ (bytes : List ℕ). states_of coding (bytes ++ rest)) (pieces-full coding s c some)
      ∙ states-byte s (coding.most s) (pieces coding s c ++ rest) can some (omega arith)
      ∙ ap (λ (states : List S). replicate (coding.most s) s ++ states) later
      ∙ sym (append_assoc (replicate (coding.most s) s) (replicate c s) (states_of coding rest))
      ∙ ap (λ (states : List S). states ++ states_of coding rest) (replicate-append-replicate (coding.most s) c s)
      ∙ ap (λ (k : ℕ). replicate k s ++ states_of coding rest) (omega arith)

  states-pieces : (fuel : ℕ) (s : S) (c : ℕ) (rest : List ℕ) → c ≤ fuel → CanBe s
      → states_of coding (pieces coding s c ++ rest) ≡ replicate c s ++ states_of coding rest
  states-pieces zero s c rest h can = states-none s c rest (omega arith)
  states-pieces (suc fuel) s c rest h can =
      elim (cases_lt (coding.most s) c) [
        | inl long ↦
            let some : 0 < coding.most s = lawful.some s in
            let all : c - coding.most s + coding.most s ≡ c = omega arith in
            subst (λ (k : ℕ). states_of coding (pieces coding s k ++ rest) ≡ replicate k s ++ states_of coding rest) all
            (states-more s (c - coding.most s) rest can (states-pieces fuel s (c - coding.most s) rest (omega arith) can))
        | inr short ↦ elim (cases_lt 0 c) [
          | inl some ↦ ap (λ (bytes : List ℕ). states_of coding (bytes ++ rest)) (pieces-one coding s c some short) ∙ states-byte s c rest can some short
          | inr none ↦ states-none s c rest (omega arith)
        ]
      ]

  states-grouped : (s : S) (gs : List (Group S)) → CanBe s
      → states_of coding (bytes_of_groups coding (grouped_with coding s gs)) ≡ s ∷ states_of coding (bytes_of_groups coding gs)
  states-grouped s [] can = states-pieces 1 s 1 [] (omega arith) can
  states-grouped s (g ∷ gs) can =
      elim (cases_Bool (coding.same g.state s)) [
        | inl same ↦
            let state : g.state ≡ s = lawful.alike g.state s same in
            let head = states-pieces (g.count + 1) s (g.count + 1) (bytes_of_groups coding gs) (omega arith) can in
            let tail = states-pieces g.count s g.count (bytes_of_groups coding gs) (omega arith) can in
            rw same (head ∙ ap (λ (k : ℕ). replicate k s ++ states_of coding (bytes_of_groups coding gs)) (add-one g.count)
            ∙ ap (λ (states : List S). s ∷ states)
            (sym tail ∙ ap (λ (t : S). states_of coding (pieces coding t g.count ++ bytes_of_groups coding gs)) (sym state)))
        | inr apart ↦ rw apart (states-pieces 1 s 1 (bytes_of_groups coding (g ∷ gs)) (omega arith) can)
      ]

  -- What is written of states is read as them.
  pub states-coded_bytes : (states : List S) → All CanBe states → states_of coding (coded_bytes coding states) ≡ states
  states-coded_bytes [] can = refl
  states-coded_bytes (s ∷ states) can =
      states-grouped s (groups coding states) (All-head CanBe s states can)
      ∙ ap (λ (rest : List S). s ∷ rest) (states-coded_bytes states (All-tail CanBe s states can))

module _ {S : Type 0} (old new : ℕ → S) (m : ℕ) (apart : (n : ℕ) → n < 2 ^ 48 → (n ≡ m → ⊥) → new n ≡ old n) where
  -- one number with another state changes nothing where it is not reached
  pub states_down-past : (count n : ℕ) → n < 2 ^ 48 → m < 2 ^ 48 → count ≤ distance m n → states_down new count n ≡ states_down old count n
  states_down-past zero n fits fits_m past = refl
  states_down-past (suc count) n fits fits_m past =
      let below : distance m (down n 1) + 1 ≡ distance m n = omega arith in
      let here : new n ≡ old n = apart n fits (λ (e : n ≡ m). omega arith) in
      ap (λ (s : S). s ∷ states_down new count (down n 1)) here
      ∙ ap (λ (states : List S). old n ∷ states) (states_down-past count (down n 1) (omega arith) fits_m (omega arith))

  -- and is the state at its place otherwise
  pub states_down-set : (count n : ℕ) → count ≤ 2 ^ 48 → n < 2 ^ 48 → m < 2 ^ 48
      → states_down new count n ≡ slice_set (states_down old count n) (distance m n) (new m)
  states_down-set zero n few fits fits_m = refl
  states_down-set (suc count) n few fits fits_m =
      elim (cases_eq n m) [
        | inl same ↦
            let place : distance m n ≡ zero = omega arith in
            let reach : count ≤ distance m (down n 1) = omega arith in
            rw place (ap (λ (k : ℕ). new k ∷ states_down new count (down n 1)) same
            ∙ ap (λ (states : List S). new m ∷ states) (states_down-past count (down n 1) (omega arith) fits_m reach))
        | inr other ↦
            let place : distance m n ≡ suc (distance m (down n 1)) = omega arith in
            rw place (ap (λ (s : S). s ∷ states_down new count (down n 1)) (apart n fits other)
            ∙ ap (λ (states : List S). old n ∷ states) (states_down-set count (down n 1) (omega arith) (omega arith) fits_m))
      ]
