-- The words of a line are at their columns.
use Rattle.std.proofs.Common.{◌≡◌, refl, ap, ◌∙◌, subst, ℕ, ◌+◌, ◌-◌, ◌==◌, List, [], ◌∷◌, ◌++◌, length, length-append, take, drop, append_assoc, Bool, true, false, ◌&&◌, not, cond, arith}
use Rattle.std.specs.Prelude.{map, All}
use Rattle.std.specs.List.{list_all, onto_first}
use Rattle.std.proofs.lemmas.List.{append-nil}
use Rattle.std.proofs.lemmas.List.Elements.{All-nil, All-cons}
use Rattle.std.proofs.lemmas.List.Splits.{join_with_byte-slice_split}
use Rattle.tool_text.specs.Words.{WordAt, word_at_column, placed, parted_by, words_of}
use Rattle.tool_text.specs.Words.{joined}
use Rattle.tool_text.specs.Columns.{StandsIn, AreWordsOf}
use Rattle.tool_text.proofs.Bytes.{both-true, and-true, lacks}

take-front : (text rest : List ℕ) → take (length text) (text ++ rest) ≡ text
take-front [] rest = refl
take-front (byte ∷ text) rest = ap (λ (others : List ℕ). byte ∷ others) (take-front text rest)

drop-front : (front rest : List ℕ) → drop (length front) (front ++ rest) ≡ rest
drop-front [] rest = refl
drop-front (byte ∷ front) rest = drop-front front rest

one-stands : (front text rest : List ℕ) (column : ℕ) → column ≡ length front + 1 → list_all (lacks 32) text ≡ true
    → StandsIn (front ++ (text ++ rest)) (word_at_column column text)
one-stands front text rest column at whole = record {
  from_one = omega arith;
  text =
      (let place : column - 1 ≡ length front = omega arith in
      ap (λ (n : ℕ). take (length text) (drop n (front ++ (text ++ rest)))) place
      ∙ ap (take (length text)) (drop-front front (text ++ rest))
      ∙ take-front text rest);
  whole = whole;
}

all-stand : (front : List ℕ) (column : ℕ) (parts : List (List ℕ)) → column ≡ length front + 1 → list_all (list_all (lacks 32)) parts ≡ true
    → All (StandsIn (front ++ joined parts)) (placed column parts)
all-stand front column [] at whole = All-nil (StandsIn (front ++ joined []))
all-stand front column (part ∷ []) at whole =
    let both = both-true (list_all (lacks 32) part) true whole in
    All-cons (StandsIn (front ++ part)) (word_at_column column part) []
    (subst (λ (end : List ℕ). StandsIn (front ++ end) (word_at_column column part)) (append-nil part) (one-stands front part [] column at both.0))
    (All-nil (StandsIn (front ++ part)))
all-stand front column (part ∷ (next ∷ parts)) at whole =
    let both = both-true (list_all (lacks 32) part) (list_all (list_all (lacks 32)) (next ∷ parts)) whole in
    let rest = joined (next ∷ parts) in
    let begun = front ++ (part ++ (32 ∷ [])) in
    let size : length begun ≡ length front + (length part + 1) = omega (arith, length-append front (part ++ (32 ∷ [])), length-append part (32 ∷ [])) in
    let line : begun ++ rest ≡ front ++ (part ++ (32 ∷ rest)) =
    append_assoc front (part ++ (32 ∷ [])) rest ∙ ap (λ (end : List ℕ). front ++ end) (append_assoc part (32 ∷ []) rest) in
    All-cons (StandsIn (front ++ (part ++ (32 ∷ rest)))) (word_at_column column part) (placed (column + length part + 1) (next ∷ parts))
    (one-stands front part (32 ∷ rest) column at both.0)
    (subst (λ (text : List ℕ). All (StandsIn text) (placed (column + length part + 1) (next ∷ parts))) line
    (all-stand begun (column + length part + 1) (next ∷ parts) (omega arith) both.1))

onto-lacks : (byte : ℕ) (parts : List (List ℕ)) → lacks 32 byte ≡ true → list_all (list_all (lacks 32)) parts ≡ true
    → list_all (list_all (lacks 32)) (onto_first byte parts) ≡ true
onto-lacks byte [] other whole = and-true (lacks 32 byte && true) true (and-true (lacks 32 byte) true other refl) refl
onto-lacks byte (part ∷ parts) other whole =
    let both = both-true (list_all (lacks 32) part) (list_all (list_all (lacks 32)) parts) whole in
    and-true (lacks 32 byte && list_all (lacks 32) part) (list_all (list_all (lacks 32)) parts)
    (and-true (lacks 32 byte) (list_all (lacks 32) part) other both.0) both.1

lacks-by : (byte : ℕ) (rest : List ℕ) (test : Bool) → (byte == 32) ≡ test → list_all (list_all (lacks 32)) (parted_by 32 rest) ≡ true
    → list_all (list_all (lacks 32)) (cond test ([] ∷ parted_by 32 rest) (onto_first byte (parted_by 32 rest))) ≡ true
lacks-by byte rest true is whole = whole
lacks-by byte rest false is whole = onto-lacks byte (parted_by 32 rest) (ap not is) whole

parts-lack : (text : List ℕ) → list_all (list_all (lacks 32)) (parted_by 32 text) ≡ true
parts-lack [] = refl
parts-lack (byte ∷ rest) = lacks-by byte rest (byte == 32) refl (parts-lack rest)

texts-of : (column : ℕ) (parts : List (List ℕ)) → map (λ (word : WordAt). word.text) (placed column parts) ≡ parts
texts-of column [] = refl
texts-of column (part ∷ parts) = ap (λ (texts : List (List ℕ)). part ∷ texts) (texts-of (column + length part + 1) parts)

pub words-placed : (line : List ℕ) → AreWordsOf line (words_of line)
words-placed line = record {
  parted = ap joined (texts-of 1 (parted_by 32 line)) ∙ join_with_byte-slice_split 32 line;
  columns =
      subst (λ (text : List ℕ). All (StandsIn text) (placed 1 (parted_by 32 line))) (join_with_byte-slice_split 32 line)
      (all-stand [] 1 (parted_by 32 line) refl (parts-lack line));
  absent = refl;
}
