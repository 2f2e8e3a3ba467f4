-- The lines of an input, from its front.
use Rattle.std.proofs.Common.{arith, ◌≡◌, refl, sym, ap, ◌∙◌, ℕ, suc, ◌≤◌, ◌<◌, nat_le, Bool, true, false, if◌then◌else◌, ◌==◌, List, [], ◌∷◌, length, take, drop}
use Rattle.std.proofs.lemmas.Bool.Decides.{nat_tests}
use Rattle.std.proofs.lemmas.List.{drop_min, take_all, take-append-drop, take-append-le}
use Rattle.dccp_io.specs.Lines.{newline, one_too_many, text_length, first_line, before_line, lines_of, ends_within, by_length, next_in_bytes, next_in_lines, Much}
use Rattle.dccp_io.proofs.NextLine.{alike-by, is-least, text_length-fits, first_line_length}

is-newline : (byte : ℕ) → (byte == newline) ≡ true → newline ≡ byte
is-newline byte is = grind (arith, nat_tests)

abbrev IsFirst : List ℕ → Type 0
IsFirst bytes = lines_of bytes ≡ first_line bytes ∷ lines_of (drop (suc (text_length bytes)) bytes)

by-test : (byte : ℕ) (rest : List ℕ) (test : Bool) → (test ≡ true → newline ≡ byte) → (0 < length rest → IsFirst rest)
    → (if test then (newline ∷ []) ∷ lines_of rest else before_line byte (lines_of rest))
    ≡ take (suc (if test then 0 else suc (text_length rest))) (byte ∷ rest) ∷ lines_of (drop (suc (if test then 0 else suc (text_length rest))) (byte ∷ rest))
by-test byte rest true is following = ap (λ (last : ℕ). (last ∷ []) ∷ lines_of rest) (is refl)
by-test byte [] false is following = refl
by-test byte (next ∷ rest) false is following = ap (before_line byte) (following (omega arith))

is-first : (bytes : List ℕ) → 0 < length bytes → IsFirst bytes
is-first [] some = absurd (omega (arith, some))
is-first (byte ∷ rest) some = by-test byte rest (byte == newline) (is-newline byte) (λ more. is-first rest more)

-- the first line, and the lines after it
pub lines-cut : (bytes : List ℕ) → 0 < length bytes → lines_of bytes ≡ first_line bytes ∷ lines_of (drop (length (first_line bytes)) bytes)
lines-cut bytes some =
    is-first bytes some
    ∙ ap (λ (following : List ℕ). first_line bytes ∷ lines_of following)
    (sym (ap (λ (n : ℕ). drop n bytes) (first_line_length bytes) ∙ drop_min (suc (text_length bytes)) bytes))

front-by : (test : Bool) (bytes : List ℕ) (n : ℕ) → text_length (take (suc n) bytes) ≡ n
    → (if test then 0 else suc (text_length (take (if test then 0 else suc n) bytes))) ≡ (if test then 0 else suc n)
front-by true bytes n same = refl
front-by false bytes n same = ap suc same

-- the first line has the text of what it is the first line of
text-front : (bytes : List ℕ) → text_length (first_line bytes) ≡ text_length bytes
text-front [] = refl
text-front (byte ∷ bytes) = front-by (byte == newline) bytes (text_length bytes) (text-front bytes)

-- and it is its own first line
line-front : (bytes : List ℕ) → first_line (first_line bytes) ≡ first_line bytes
line-front bytes =
    let size = first_line_length bytes in
    let same = text-front bytes in
    take_all (suc (text_length (first_line bytes))) (first_line bytes) (omega (arith, size, same))

long-front : (bytes : List ℕ) → one_too_many ≤ text_length bytes → take one_too_many bytes ≡ take one_too_many (first_line bytes)
long-front bytes long =
    let size = first_line_length bytes in
    let fits = text_length-fits bytes in
    ap (take one_too_many) (sym (take-append-drop (suc (text_length bytes)) bytes))
    ∙ take-append-le one_too_many (first_line bytes) (drop (suc (text_length bytes)) bytes) (omega (arith, long, size, fits))

-- what comes next is the first of the lines
pub next-first : (given : ℕ) (bytes : List ℕ) → next_in_bytes given bytes ≡ next_in_lines given (lines_of bytes)
next-first given [] = refl
next-first given (byte ∷ rest) =
    let bytes = byte ∷ rest in
    let line = first_line bytes in
    alike-by (ends_within given line) (nat_le one_too_many (text_length bytes)) (take one_too_many bytes) (take one_too_many line) line (first_line line)
    (λ long. long-front bytes (is-least one_too_many (text_length bytes) long)) (sym (line-front bytes))
    ∙ ap (λ (n : ℕ). if ends_within given line then by_length line n else Much) (sym (text-front bytes))
    ∙ ap (next_in_lines given) (sym (lines-cut bytes (omega arith)))
