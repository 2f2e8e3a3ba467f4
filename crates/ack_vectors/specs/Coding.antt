-- States of numbers that follow each other downwards, as bytes that have a state and a count each: how Ack Vectors and
-- Data Dropped are both written (RFC 4340, sections 11.4 and 11.7).
use Rattle.std.specs.Prelude.{◌≡◌, ℕ, ◌+◌, ◌/◌, ◌%◌, ◌==◌, Bool, false, List, [], ◌∷◌, ◌++◌, zero, suc, replicate, if◌then◌else◌}
use Rattle.seq_circle.specs.Circle.{down}

-- A coding of states: whether two are the same, how many numbers a byte of a state covers at most, the byte of a state and a count, and the
-- state and the count that a byte gives.
pub record Coding (S : Type 0) : Type 0 where
  pub same : S → S → Bool
  pub most : S → ℕ
  pub byte : S → ℕ → ℕ
  pub state_of : ℕ → S
  pub run_length : ℕ → ℕ

-- the states of this many numbers, from one down
abbrev pub states_down : {S : Type 0} → (ℕ → S) → ℕ → ℕ → List S
states_down state zero n = []
states_down state (suc count) n = state n ∷ states_down state count (down n 1)

-- a maximal run of one state
pub record Group (S : Type 0) : Type 0 where
  pub state : S
  pub count : ℕ

-- a run of this many numbers of one state
abbrev pub group : {S : Type 0} → S → ℕ → Group S
group state count = record { state = state; count = count }

-- a state before the runs of those after it: it extends the first one, or begins a new one
abbrev pub grouped_with : {S : Type 0} → Coding S → S → List (Group S) → List (Group S)
grouped_with coding state [] = group state 1 ∷ []
grouped_with coding state (g ∷ gs) =
    if coding.same g.state state then group state (g.count + 1) ∷ gs else group state 1 ∷ g ∷ gs

-- the maximal runs of one state
abbrev pub groups : {S : Type 0} → Coding S → List S → List (Group S)
groups coding [] = []
groups coding (state ∷ states) = grouped_with coding state (groups coding states)

-- the last piece of a run, if the full ones leave one
abbrev pub last_piece : {S : Type 0} → Coding S → S → ℕ → List ℕ
last_piece coding state count = if count == 0 then [] else coding.byte state count ∷ []

-- a run as its pieces, from the top: as many full ones as there are, and what is left
abbrev pub pieces : {S : Type 0} → Coding S → S → ℕ → List ℕ
pieces coding state count =
    replicate (count / coding.most state) (coding.byte state (coding.most state)) ++ last_piece coding state (count % coding.most state)

-- the bytes of runs
abbrev pub bytes_of_groups : {S : Type 0} → Coding S → List (Group S) → List ℕ
bytes_of_groups coding [] = []
bytes_of_groups coding (g ∷ gs) = pieces coding g.state g.count ++ bytes_of_groups coding gs

-- the bytes of any number of states
abbrev pub coded_bytes : {S : Type 0} → Coding S → List S → List ℕ
coded_bytes coding states = bytes_of_groups coding (groups coding states)

-- the states that bytes give
abbrev pub states_of : {S : Type 0} → Coding S → List ℕ → List S
states_of coding [] = []
states_of coding (byte ∷ rest) = replicate (coding.run_length byte) (coding.state_of byte) ++ states_of coding rest

-- the states begin with a different one, or there are none
abbrev pub BeginsWithout : {S : Type 0} → Coding S → S → List S → Type 0
BeginsWithout coding state [] = Unit {0}
BeginsWithout coding state (other ∷ states) = coding.same other state ≡ false
