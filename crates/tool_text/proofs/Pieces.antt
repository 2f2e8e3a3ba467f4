-- The first piece of a text, and the pieces after it.
use Rattle.std.proofs.lemmas.Grind.{common_steps}
use Rattle.std.proofs.Common.{◌≡◌, refl, ap, ◌∙◌, ℕ, zero, suc, ◌+◌, ◌-◌, ◌<◌, ◌==◌, List, [], ◌∷◌, length, take, drop, Bool, true, false, cond, Some, None, arith}
use Rattle.std.specs.List.{slice_split, onto_first, position_from}
use Rattle.tool_text.specs.Words.{WordsLeft, parted_by, placed, later, word_at, is_over}

-- an element parts a list: this many come before it, and these pieces follow it
record IsCut {X : Type 0} (p : X → Bool) (from : ℕ) (xs : List X) (place : ℕ) : Type 0 where
  pub count : ℕ
  pub at : place ≡ from + count
  pub pieces : slice_split p xs ≡ take count xs ∷ slice_split p (drop (suc count) xs)

cut_by : {X : Type 0} (p : X → Bool) (from : ℕ) (x : X) (xs : List X) (place : ℕ) (test : Bool) → p x ≡ test
    → cond test (Some from) (position_from p (from + 1) xs) ≡ Some place
    → (position_from p (from + 1) xs ≡ Some place → IsCut p (from + 1) xs place) → IsCut p from (x ∷ xs) place
cut_by p from x xs place true passes found more = record {
  count = 0;
  at = (let same : from ≡ place = cc in omega arith);
  pieces = ap (λ (test : Bool). cond test ([] ∷ slice_split p xs) (onto_first x (slice_split p xs))) passes;
}
cut_by p from x xs place false passes found more =
    let cut = more found in
    record {
      count = suc cut.count;
      at = (let at = cut.at in omega arith);
      pieces =
          ap (λ (test : Bool). cond test ([] ∷ slice_split p xs) (onto_first x (slice_split p xs))) passes
          ∙ ap (onto_first x) cut.pieces;
    }

cut_from : {X : Type 0} (p : X → Bool) (from : ℕ) (xs : List X) (place : ℕ) → position_from p from xs ≡ Some place → IsCut p from xs place
cut_from p from [] place found = cc found
cut_from p from (x ∷ xs) place found = cut_by p from x xs place (p x) refl found (cut_from p (from + 1) xs place)

whole_by : {X : Type 0} (p : X → Bool) (from : ℕ) (x : X) (xs : List X) (test : Bool) → p x ≡ test
    → cond test (Some from) (position_from p (from + 1) xs) ≡ None
    → (position_from p (from + 1) xs ≡ None → slice_split p xs ≡ xs ∷ []) → slice_split p (x ∷ xs) ≡ (x ∷ xs) ∷ []
whole_by p from x xs true passes none more = cc none
whole_by p from x xs false passes none more =
    ap (λ (test : Bool). cond test ([] ∷ slice_split p xs) (onto_first x (slice_split p xs))) passes ∙ ap (onto_first x) (more none)

whole_from : {X : Type 0} (p : X → Bool) (from : ℕ) (xs : List X) → position_from p from xs ≡ None → slice_split p xs ≡ xs ∷ []
whole_from p from [] none = refl
whole_from p from (x ∷ xs) none = whole_by p from x xs (p x) refl none (whole_from p (from + 1) xs)

-- a text is parted where the mark comes first
pub parted : (mark : ℕ) (text : List ℕ) (place : ℕ) → position_from (λ byte. byte == mark) 0 text ≡ Some place
    → parted_by mark text ≡ take place text ∷ parted_by mark (drop (place + 1) text)
parted mark text place found =
    let cut = cut_from (λ byte. byte == mark) 0 text place found in
    let at : cut.count ≡ place = (let at = cut.at in omega arith) in
    let following : suc cut.count ≡ place + 1 = omega arith in
    cut.pieces
    ∙ ap (λ (count : ℕ). take count text ∷ parted_by mark (drop (suc cut.count) text)) at
    ∙ ap (λ (count : ℕ). take place text ∷ parted_by mark (drop count text)) following

-- and is whole where it stands nowhere
pub not_parted : (mark : ℕ) (text : List ℕ) → position_from (λ byte. byte == mark) 0 text ≡ None → parted_by mark text ≡ text ∷ []
not_parted mark text none = whole_from (λ byte. byte == mark) 0 text none

begun : {X : Type 0} (x : X) (parts : List (List X)) → (first : List X) × (others : List (List X)) × (onto_first x parts ≡ first ∷ others)
begun x [] = (x ∷ [], [], refl)
begun x (part ∷ parts) = (x ∷ part, parts, refl)

begun_by : {X : Type 0} (p : X → Bool) (x : X) (xs : List X) (test : Bool) → p x ≡ test → (first : List X) × (others : List (List X))
    × (slice_split p (x ∷ xs) ≡ first ∷ others)
begun_by p x xs true is = ([], slice_split p xs, ap (λ (test : Bool). cond test ([] ∷ slice_split p xs) (onto_first x (slice_split p xs))) is)
begun_by p x xs false is =
    let onto = begun x (slice_split p xs) in
    (onto.0, onto.1, ap (λ (test : Bool). cond test ([] ∷ slice_split p xs) (onto_first x (slice_split p xs))) is ∙ onto.2)

pub has_first : {X : Type 0} (p : X → Bool) (xs : List X) → (first : List X) × (others : List (List X)) × (slice_split p xs ≡ first ∷ others)
has_first p [] = ([], [], refl)
has_first p (x ∷ xs) = begun_by p x xs (p x) refl

-- a text that follows has a word
pub some_left : (column : ℕ) (text : List ℕ) → is_over (placed column (parted_by 32 text)) ≡ false
some_left column text = ap (λ (texts : List (List ℕ)). is_over (placed column texts)) (has_first (λ byte. byte == 32) text).2

-- what follows a place, as a slice from there has it
pub tail_whole : (text : List ℕ) (place : ℕ) → take (length text - place) (drop place text) ≡ drop place text
tail_whole text place = grind (arith, common_steps)

-- the word at a place is the one before it among those after the first
pub one_further : (place : ℕ) (left : WordsLeft) → 0 < place → word_at (place - 1) (later left) ≡ word_at place left
one_further zero left some = absurd (omega arith)
one_further (suc place) left some = let same : suc place - 1 ≡ place = omega arith in ap (λ (n : ℕ). word_at n (later left)) same
