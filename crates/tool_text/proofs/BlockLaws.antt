-- What is looked for follows what was judged: blocks without it, or bytes near the beginning.
use Rattle.std.proofs.Common.{◌≡◌, refl, sym, ap, ◌∙◌, ℕ, zero, suc, ◌+◌, ◌-◌, List, [], ◌∷◌, length, take, drop, Bool, true, false, not, cond, ◌&&◌, Option, Some, None, arith}
use Rattle.std.specs.List.{list_all, position_from}
use Rattle.std.proofs.lemmas.Grind.{common_steps}
use Rattle.std.proofs.lemmas.List.{take_all}
use Rattle.tool_text.proofs.Bytes.{both-true, and-true}

-- a place further on
abbrev pub moved_by : ℕ → Option ℕ → Option ℕ
moved_by count None = None
moved_by count (Some place) = Some (count + place)

not-false : (test : Bool) → not test ≡ true → test ≡ false
not-false true is = cc is
not-false false is = refl

position-test : (test : Bool) (a b : Option ℕ) (from : ℕ) → test ≡ false → a ≡ b → cond test (Some from) a ≡ b
position-test true a b from is same = cc is
position-test false a b from is same = same

moved-test : (test : Bool) (count from : ℕ) (a b : Option ℕ) → a ≡ moved_by count b
    → cond test (Some (count + from)) a ≡ moved_by count (cond test (Some from) b)
moved-test true count from a b is = refl
moved-test false count from a b is = is

take-none : (count : ℕ) → take {A = ℕ} count [] ≡ []
take-none zero = refl
take-none (suc count) = refl

-- a text that ends where it ends
tail_whole : (text : List ℕ) (count : ℕ) → take (length text - count) (drop count text) ≡ drop count text
tail_whole text count = grind (arith, common_steps)

further : (p : ℕ → Bool) (count more : ℕ) (xs : List ℕ) → list_all p (take count xs) ≡ true → list_all p (take more (drop count xs)) ≡ true
    → list_all p (take (count + more) xs) ≡ true
further p zero more xs all block =
    let same : 0 + more ≡ more = omega arith in
    ap (λ (n : ℕ). list_all p (take n xs)) same ∙ block
further p (suc count) more [] all block = ap (list_all p) (take-none (suc count + more))
further p (suc count) more (x ∷ xs) all block =
    let both = both-true (p x) (list_all p (take count xs)) all in
    let same : suc count + more ≡ suc (count + more) = omega arith in
    ap (λ (n : ℕ). list_all p (take n (x ∷ xs))) same
    ∙ and-true (p x) (list_all p (take (count + more) xs)) both.0 (further p count more xs both.1 block)

-- nor is it in what was judged with one block more
pub block_further : (t : ℕ → Bool) (count size : ℕ) (text : List ℕ) → list_all (λ byte. not (t byte)) (take count text) ≡ true
    → list_all (λ byte. not (t byte)) (take (count + size - count) (drop count text)) ≡ true → list_all (λ byte. not (t byte)) (take (count + size) text) ≡ true
block_further t count size text all block =
    let same : size ≡ count + size - count = omega arith in
    further (λ byte. not (t byte)) count size text all (ap (λ (n : ℕ). list_all (λ byte. not (t byte)) (take n (drop count text))) same ∙ block)

passed : (t : ℕ → Bool) (count from : ℕ) (xs : List ℕ) → list_all (λ x. not (t x)) (take count xs) ≡ true
    → position_from t from xs ≡ position_from t (from + count) (drop count xs)
passed t zero from xs all = let same : from ≡ from + 0 = omega arith in ap (λ (n : ℕ). position_from t n xs) same
passed t (suc count) from [] all = refl
passed t (suc count) from (x ∷ xs) all =
    let both = both-true (not (t x)) (list_all (λ y. not (t y)) (take count xs)) all in
    let same : from + 1 + count ≡ from + suc count = omega arith in
    position-test (t x) (position_from t (from + 1) xs) (position_from t (from + 1 + count) (drop count xs)) from
    (not-false (t x) both.0) (passed t count (from + 1) xs both.1)
    ∙ ap (λ (n : ℕ). position_from t n (drop count xs)) same

moved : (t : ℕ → Bool) (count from : ℕ) (xs : List ℕ) → position_from t (count + from) xs ≡ moved_by count (position_from t from xs)
moved t count from [] = refl
moved t count from (x ∷ xs) =
    let same : count + from + 1 ≡ count + (from + 1) = omega arith in
    moved-test (t x) count from (position_from t (count + from + 1) xs) (position_from t (from + 1) xs)
    (ap (λ (n : ℕ). position_from t n xs) same ∙ moved t count (from + 1) xs)

-- what is found later is found in the whole
found_after : (t : ℕ → Bool) (count : ℕ) (text : List ℕ) (found : Option ℕ) → list_all (λ x. not (t x)) (take count text) ≡ true
    → found ≡ position_from t 0 (take (length text - count) (drop count text)) → moved_by count found ≡ position_from t 0 text
found_after t count text found all is =
    let same : 0 + count ≡ count + 0 = omega arith in
    ap (moved_by count) (is ∙ ap (position_from t 0) (tail_whole text count))
    ∙ sym (
    passed t count 0 text all
    ∙ ap (λ (n : ℕ). position_from t n (drop count text)) same
    ∙ moved t count 0 (drop count text)
    )

pub none_after : (t : ℕ → Bool) (count : ℕ) (text : List ℕ) → list_all (λ byte. not (t byte)) (take count text) ≡ true
    → None ≡ position_from t 0 (take (length text - count) (drop count text))
    → None ≡ position_from t 0 text
none_after t count text all is = found_after t count text None all is

pub some_after : (t : ℕ → Bool) (count place : ℕ) (text : List ℕ) → list_all (λ byte. not (t byte)) (take count text) ≡ true
    → Some place ≡ position_from t 0 (take (length text - count) (drop count text)) → Some (count + place) ≡ position_from t 0 text
some_after t count place text all is = found_after t count text (Some place) all is

found-test : (test : Bool) (a b : Option ℕ) (from place : ℕ) → (a ≡ Some place → b ≡ Some place) → cond test (Some from) a ≡ Some place
    → cond test (Some from) b ≡ Some place
found-test true a b from place more is = is
found-test false a b from place more is = more is

found-near : (t : ℕ → Bool) (count from place : ℕ) (xs : List ℕ) → position_from t from (take count xs) ≡ Some place → position_from t from xs ≡ Some place
found-near t zero from place xs is = cc is
found-near t (suc count) from place [] is = cc is
found-near t (suc count) from place (x ∷ xs) is =
    found-test (t x) (position_from t (from + 1) (take count xs)) (position_from t (from + 1) xs) from place (found-near t count (from + 1) place xs) is

-- what is found near is found in the whole
pub some_near : (t : ℕ → Bool) (count place : ℕ) (text : List ℕ) → Some place ≡ position_from t 0 (take count text) → Some place ≡ position_from t 0 text
some_near t count place text is = sym (found-near t count 0 place text (sym is))

-- what is not found in a front that is all is found nowhere
pub none_at_all : (t : ℕ → Bool) (count : ℕ) (text : List ℕ) → count ≡ length text → None ≡ position_from t 0 (take count text)
    → None ≡ position_from t 0 text
none_at_all t count text all is = is ∙ ap (position_from t 0) (take_all count text (omega (arith, all)))

none-test : (test : Bool) (a : Option ℕ) (from : ℕ) (rest : Bool) → (a ≡ None → rest ≡ true) → cond test (Some from) a ≡ None → (not test && rest) ≡ true
none-test true a from rest more is = cc is
none-test false a from rest more is = more is

none-from : (t : ℕ → Bool) (from : ℕ) (xs : List ℕ) → position_from t from xs ≡ None → list_all (λ x. not (t x)) xs ≡ true
none-from t from [] is = refl
none-from t from (x ∷ xs) is = none-test (t x) (position_from t (from + 1) xs) from (list_all (λ y. not (t y)) xs) (none-from t (from + 1) xs) is

-- what is not found stands nowhere
pub none_there : (t : ℕ → Bool) (text : List ℕ) → None ≡ position_from t 0 text → list_all (λ byte. not (t byte)) text ≡ true
none_there t text is = none-from t 0 text (sym is)
