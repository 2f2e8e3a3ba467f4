-- Words that are joined are parted again, and a line of them is clean.
use Rattle.std.proofs.Common.{◌≡◌, refl, sym, ap, ◌∙◌, ℕ, ◌+◌, ◌<◌, ◌^◌, ◌%◌, List, [], ◌∷◌, ◌++◌, length, length-append, Bool, true, false, ◌&&◌, ◌==◌, not, cond, if◌then◌else◌, arith}
use Rattle.std.specs.Prelude.{decimal}
use Rattle.std.specs.List.{list_all, slice_split, onto_first, join_with_byte}
use Rattle.std.proofs.lemmas.Bool.Decides.{nat_tests}
use Rattle.std.proofs.lemmas.List.Folds.{list_all-append}
use Rattle.std.proofs.lemmas.Fmt.{decimal_by_steps, decimal_nonempty}
use Rattle.tool_text.specs.Numbers.{is_digit}
use Rattle.tool_text.specs.Words.{joined}
use Rattle.tool_text.specs.Kinds.{is_word_byte, is_whole_word}
use Rattle.tool_text.specs.Lines.{is_text}

-- Tests

pub both-true : (a b : Bool) → (a && b) ≡ true → (a ≡ true) × (b ≡ true)
both-true true true is = (refl, refl)
both-true true false is = cc is
both-true false b is = cc is

pub and-true : (a b : Bool) → a ≡ true → b ≡ true → (a && b) ≡ true
and-true true true p q = refl
and-true true false p q = q
and-true false b p q = p

pub if-false : {A : Type 0} (test : Bool) (x y : A) → test ≡ false → (if test then x else y) ≡ y
if-false true x y is = cc is
if-false false x y is = refl

pub if-true : {A : Type 0} (test : Bool) (x y : A) → test ≡ true → (if test then x else y) ≡ x
if-true true x y is = refl
if-true false x y is = cc is

pub false-unless : (test : Bool) → (test ≡ true → ⊥) → test ≡ false
false-unless true never = absurd (never refl)
false-unless false never = refl

pub same-number : (a b : ℕ) → (a == b) ≡ true → a ≡ b
same-number a b is = grind (arith, nat_tests)

pub same : (n : ℕ) → (n == n) ≡ true
same n = grind (arith, nat_tests)

-- Bytes

pub all-weaker : {X : Type 0} (p q : X → Bool) → ((x : X) → p x ≡ true → q x ≡ true) → (xs : List X) → list_all p xs ≡ true → list_all q xs ≡ true
all-weaker p q weaker [] all = refl
all-weaker p q weaker (x ∷ xs) all =
    let both = both-true (p x) (list_all p xs) all in
    and-true (q x) (list_all q xs) (weaker x both.0) (all-weaker p q weaker xs both.1)

-- a byte is another than the mark
abbrev pub lacks : ℕ → ℕ → Bool
lacks mark byte = not (byte == mark)

word-byte-text : (byte : ℕ) → is_word_byte byte ≡ true → is_text byte ≡ true
word-byte-text byte is = grind (arith, nat_tests)

word-byte-lacks : (byte : ℕ) → is_word_byte byte ≡ true → lacks 32 byte ≡ true
word-byte-lacks byte is = grind (arith, nat_tests)

digit-word-byte : (byte : ℕ) → is_digit byte ≡ true → is_word_byte byte ≡ true
digit-word-byte byte is = grind (arith, nat_tests)

-- the bytes of a word
pub word-bytes : (word : List ℕ) → is_whole_word word ≡ true → list_all is_word_byte word ≡ true
word-bytes [] is = refl
word-bytes (byte ∷ bytes) is = is

-- a word is there
pub word-some : (word : List ℕ) → is_whole_word word ≡ true → (length word == 0) ≡ false
word-some [] is = cc is
word-some (byte ∷ bytes) is = grind (arith, nat_tests)

-- bytes of words are a word, if there is one
pub bytes-word : (bytes : List ℕ) → 0 < length bytes → list_all is_word_byte bytes ≡ true → is_whole_word bytes ≡ true
bytes-word [] some all = absurd (omega arith)
bytes-word (byte ∷ bytes) some all = all

-- Words and marks

other-by : (test : Bool) → not test ≡ true → test ≡ false
other-by true is = sym is
other-by false is = refl

split-word : (mark : ℕ) (w rest : List ℕ) → list_all (lacks mark) w ≡ true
    → slice_split (λ byte. byte == mark) (w ++ (mark ∷ rest)) ≡ w ∷ slice_split (λ byte. byte == mark) rest
split-word mark [] rest all =
    ap (λ (test : Bool). cond test ([] ∷ slice_split (λ byte. byte == mark) rest) (onto_first mark (slice_split (λ byte. byte == mark) rest))) (same mark)
split-word mark (byte ∷ w) rest all =
    let both = both-true (lacks mark byte) (list_all (lacks mark) w) all in
    ap (λ (test : Bool). cond test ([] ∷ slice_split (λ b. b == mark) (w ++ (mark ∷ rest)))
    (onto_first byte (slice_split (λ b. b == mark) (w ++ (mark ∷ rest)))))
    (other-by (byte == mark) both.0)
    ∙ ap (onto_first byte) (split-word mark w rest both.1)

split-whole : (mark : ℕ) (w : List ℕ) → list_all (lacks mark) w ≡ true → slice_split (λ byte. byte == mark) w ≡ w ∷ []
split-whole mark [] all = refl
split-whole mark (byte ∷ w) all =
    let both = both-true (lacks mark byte) (list_all (lacks mark) w) all in
    ap (λ (test : Bool). cond test ([] ∷ slice_split (λ b. b == mark) w) (onto_first byte (slice_split (λ b. b == mark) w))) (other-by (byte == mark) both.0)
    ∙ ap (onto_first byte) (split-whole mark w both.1)

-- pieces that are joined are parted again
pub joined-parts : (mark : ℕ) (w : List ℕ) (ws : List (List ℕ)) → list_all (list_all (lacks mark)) (w ∷ ws) ≡ true
    → slice_split (λ byte. byte == mark) (join_with_byte mark (w ∷ ws)) ≡ w ∷ ws
joined-parts mark w [] all = split-whole mark w (both-true (list_all (lacks mark) w) true all).0
joined-parts mark w (next ∷ ws) all =
    let both = both-true (list_all (lacks mark) w) (list_all (list_all (lacks mark)) (next ∷ ws)) all in
    split-word mark w (join_with_byte mark (next ∷ ws)) both.0
    ∙ ap (λ (parts : List (List ℕ)). w ∷ parts) (joined-parts mark next ws both.1)

word-lacks : (word : List ℕ) → is_whole_word word ≡ true → list_all (lacks 32) word ≡ true
word-lacks word is = all-weaker is_word_byte (lacks 32) word-byte-lacks word (word-bytes word is)

-- words, separated by one space, are parted again
pub words-parted : (w : List ℕ) (ws : List (List ℕ)) → list_all is_whole_word (w ∷ ws) ≡ true → slice_split (λ byte. byte == 32) (joined (w ∷ ws)) ≡ w ∷ ws
words-parted w ws all = joined-parts 32 w ws (all-weaker is_whole_word (list_all (lacks 32)) word-lacks (w ∷ ws) all)

word-text : (word : List ℕ) → is_whole_word word ≡ true → list_all is_text word ≡ true
word-text word is = all-weaker is_word_byte is_text word-byte-text word (word-bytes word is)

-- and their line is text
pub joined-text : (w : List ℕ) (ws : List (List ℕ)) → list_all is_whole_word (w ∷ ws) ≡ true → list_all is_text (joined (w ∷ ws)) ≡ true
joined-text w [] all = word-text w (both-true (is_whole_word w) true all).0
joined-text w (next ∷ ws) all =
    let both = both-true (is_whole_word w) (list_all is_whole_word (next ∷ ws)) all in
    list_all-append is_text w (32 ∷ joined (next ∷ ws))
    ∙ and-true (list_all is_text w) (list_all is_text (joined (next ∷ ws))) (word-text w both.0) (joined-text next ws both.1)

-- the bytes of words, each with the one that parts it from the next
abbrev pub words_length : List (List ℕ) → ℕ
words_length [] = 0
words_length (w ∷ ws) = length w + 1 + words_length ws

pub joined-length : (w : List ℕ) (ws : List (List ℕ)) → length (joined (w ∷ ws)) + 1 ≡ words_length (w ∷ ws)
joined-length w [] = omega arith
joined-length w (next ∷ ws) = let rest = joined-length next ws in omega (arith, length-append w (32 ∷ joined (next ∷ ws)))

-- Numbers

digit-byte : (digit : ℕ) → digit < 10 → is_digit (48 + digit) ≡ true
digit-byte digit low = grind (arith, nat_tests)

pub decimal-digits : (n : ℕ) → n < 2 ^ 64 → list_all is_digit (decimal n) ≡ true
decimal-digits =
    decimal_by_steps (λ m ds. list_all is_digit ds ≡ true)
    (λ m low. and-true (is_digit (48 + m)) true (digit-byte m low) refl)
    (λ m ds many before. list_all-append is_digit ds ((48 + m % 10) ∷ [])
    ∙ and-true (list_all is_digit ds) (is_digit (48 + m % 10) && true) before (and-true (is_digit (48 + m % 10)) true (digit-byte (m % 10) (omega arith)) refl))

pub decimal-word : (n : ℕ) → n < 2 ^ 64 → is_whole_word (decimal n) ≡ true
decimal-word n small = bytes-word (decimal n) (decimal_nonempty n small) (all-weaker is_digit is_word_byte digit-word-byte (decimal n) (decimal-digits n small))
