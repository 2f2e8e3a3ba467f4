-- What comes next in an input, as the bytes show it that are pending.
use Rattle.std.proofs.Common.{arith, ◌≡◌, refl, sym, ap, ◌∙◌, subst, inl, inr, ℕ, zero, suc, ◌+◌, ◌-◌, ◌≤◌, ◌<◌, min, nat_le, nat_lt, Bool, true, false, not, ◌&&◌, if◌then◌else◌, ◌==◌, List, [], ◌∷◌, ◌++◌, length, length-append, take, drop, Option, Some, None, IfSome}
use Rattle.std.proofs.lemmas.Bool.Decides.{nat_tests}
use Rattle.std.specs.List.{list_all}
use Rattle.std.proofs.lemmas.Grind.{common_steps}
use Rattle.std.proofs.lemmas.List.{append-nil, drop-drop, take-append-le, take_min, length-take}
use Rattle.std.proofs.lemmas.Option.{none-some}
use Rattle.std.proofs.Math.Seq.{drop-append_seam}
use Rattle.std.specs.Io.KnownBytes.{prepend_known}
use Rattle.dccp_io.specs.Lines.{newline, one_too_many, most_input_bytes, text_length, first_line, ends_within, by_length, next_in_bytes, Next, Line, Long, Much, IsSought}

-- no newline is among the first bytes
past-by : (test : Bool) (n m k t : ℕ) → (if test then 0 else suc n) ≡ suc k → (n ≡ k → m ≡ k + t) → (if test then 0 else suc m) ≡ suc k + t
past-by true n m k t none following = absurd (omega (arith, none))
past-by false n m k t none following = let more : m ≡ k + t = following (omega (arith, none)) in omega (arith, more)

text_length-past : (xs ys : List ℕ) → text_length xs ≡ length xs → text_length (xs ++ ys) ≡ length xs + text_length ys
text_length-past [] ys none = omega arith
text_length-past (x ∷ xs) ys none =
    past-by (x == newline) (text_length xs) (text_length (xs ++ ys)) (length xs) (text_length ys) none (text_length-past xs ys)

lacking-by : (test all : Bool) (t n k : ℕ) → (not test && all) ≡ true → (all ≡ true → t ≡ n + k) → (if test then 0 else suc t) ≡ suc n + k
lacking-by true all t n k is more = cc is
lacking-by false all t n k is more = let same : t ≡ n + k = more is in omega (arith, same)

block-length : (n : ℕ) (xs : List ℕ) → n ≤ length xs → list_all (λ byte. not (byte == newline)) (take n xs) ≡ true
    → text_length xs ≡ n + text_length (drop n xs)
block-length zero xs fits all = omega arith
block-length (suc n) [] fits all = absurd (omega (arith, fits))
block-length (suc n) (x ∷ xs) fits all =
    lacking-by (x == newline) (list_all (λ byte. not (byte == newline)) (take n xs)) (text_length xs) n (text_length (drop n xs)) all
    (block-length n xs (omega (arith, fits)))

room_after : (bytes : List ℕ) (done size : ℕ) → done + size ≤ length bytes → size ≤ length (drop done bytes)
room_after bytes done size fits = grind (arith, common_steps)

-- nor among fewer
clear-by : (test : Bool) (n m k : ℕ) → suc k ≤ (if test then 0 else suc n) → (k ≤ n → n ≡ k + m) → (if test then 0 else suc n) ≡ suc k + m
clear-by true n m k fits following = absurd (omega (arith, fits))
clear-by false n m k fits following = let more : n ≡ k + m = following (omega (arith, fits)) in omega (arith, more)

pub clear_front : (clear : ℕ) (bytes : List ℕ) → clear ≤ text_length bytes → text_length bytes ≡ clear + text_length (drop clear bytes)
clear_front zero bytes fits = omega arith
clear_front (suc clear) [] fits = absurd (omega (arith, fits))
clear_front (suc clear) (byte ∷ bytes) fits =
    clear-by (byte == newline) (text_length bytes) (text_length (drop clear bytes)) clear fits (clear_front clear bytes)

-- a line's bytes but the last are none
one-clear-by : (test : Bool) (n m k : ℕ) → suc (suc k) ≤ suc (if test then 0 else suc n) → (suc k ≤ suc n → k ≤ m) → suc k ≤ (if test then 0 else suc m)
one-clear-by true n m k fits following = absurd (omega (arith, fits))
one-clear-by false n m k fits following = let more : k ≤ m = following (omega (arith, fits)) in omega (arith, more)

pub all_but_one_clear : (count : ℕ) (bytes : List ℕ) → 0 < count → count ≤ length bytes → count ≤ text_length bytes + 1
    → count - 1 ≤ text_length (take count bytes)
all_but_one_clear zero bytes some fits line = absurd (omega (arith, some))
all_but_one_clear (suc zero) bytes some fits line = omega arith
all_but_one_clear (suc (suc count)) [] some fits line = absurd (omega (arith, fits))
all_but_one_clear (suc (suc count)) (byte ∷ bytes) some fits line =
    let all : suc count ≤ text_length (take (suc (suc count)) (byte ∷ bytes)) =
    one-clear-by (byte == newline) (text_length bytes) (text_length (take (suc count) bytes)) count (omega (arith, line))
    (λ more. let last = all_but_one_clear (suc count) bytes (omega arith) (omega (arith, fits)) (omega (arith, more)) in omega (arith, last)) in
    omega (arith, all)

-- nor is one in a block after them
pub block_seen : (bytes : List ℕ) (done size : ℕ) → done + size ≤ length bytes → text_length bytes ≡ done + text_length (drop done bytes)
    → list_all (λ byte. not (byte == newline)) (take (done + size - done) (drop done bytes)) ≡ true
    → text_length bytes ≡ done + size + text_length (drop (done + size) bytes)
block_seen bytes done size fits before lacks =
    let same : size ≡ done + size - done = omega arith in
    let block =
    block-length size (drop done bytes) (room_after bytes done size fits)
    (ap (λ (n : ℕ). list_all (λ byte. not (byte == newline)) (take n (drop done bytes))) same ∙ lacks) in
    let following : text_length (drop size (drop done bytes)) ≡ text_length (drop (done + size) bytes) = ap text_length (drop-drop size done bytes) in
    omega (arith, before, block, following)

-- a newline is among them
first-by : (test : Bool) (n m k : ℕ) → (if test then 0 else suc n) < suc k → (n < k → m ≡ n) → (if test then 0 else suc m) ≡ (if test then 0 else suc n)
first-by true n m k inside following = refl
first-by false n m k inside following = ap suc (following (omega (arith, inside)))

text_length-first : (xs ys : List ℕ) → text_length xs < length xs → text_length (xs ++ ys) ≡ text_length xs
text_length-first [] ys inside = absurd (omega (arith, inside))
text_length-first (x ∷ xs) ys inside = first-by (x == newline) (text_length xs) (text_length (xs ++ ys)) (length xs) inside (text_length-first xs ys)

fits-by : (test : Bool) (n k : ℕ) → n ≤ k → (if test then 0 else suc n) ≤ suc k
fits-by true n k fits = omega arith
fits-by false n k fits = omega (arith, fits)

pub text_length-fits : (xs : List ℕ) → text_length xs ≤ length xs
text_length-fits [] = omega arith
text_length-fits (x ∷ xs) = fits-by (x == newline) (text_length xs) (length xs) (text_length-fits xs)

pub text_length_fits : (xs : List ℕ) → text_length xs ≤ length xs
text_length_fits = text_length-fits

-- the first bytes are no newline, and the scan goes on after them
scan-on : (xs ys : List ℕ) → text_length xs ≡ length xs → text_length (xs ++ ys) ≡ length xs + text_length (drop (length xs) (xs ++ ys))
scan-on xs ys none = text_length-past xs ys none ∙ ap (λ (following : List ℕ). length xs + text_length following) (sym (drop-append_seam xs ys))

next-some : (given : ℕ) (bytes : List ℕ) → 0 < length bytes
    → next_in_bytes given bytes ≡ (if ends_within given (first_line bytes) then by_length bytes (text_length bytes) else Much)
next-some given [] some = absurd (omega (arith, some))
next-some given (byte ∷ bytes) some = refl

pub alike-by : (within long : Bool) (front other line same : List ℕ) → (long ≡ true → front ≡ other) → line ≡ same
    → (if within then (if long then Long front else Line line) else Much) ≡ (if within then (if long then Long other else Line same) else Much)
alike-by true true front other line same fronts lines = ap Long (fronts refl)
alike-by true false front other line same fronts lines = ap Line lines
alike-by false long front other line same fronts lines = refl

pub is-least : (n m : ℕ) → nat_le n m ≡ true → n ≤ m
is-least n m is = grind (arith, nat_tests)

-- the first line is pending with its newline
settled-line : (given : ℕ) (pending more : List ℕ) → text_length pending < length pending → next_in_bytes given (pending ++ more) ≡ next_in_bytes given pending
settled-line given pending more inside =
    let n = text_length pending in
    let same : text_length (pending ++ more) ≡ n = text_length-first pending more inside in
    let line : first_line (pending ++ more) ≡ first_line pending =
    ap (λ (k : ℕ). take (suc k) (pending ++ more)) same ∙ take-append-le (suc n) pending more (omega (arith, inside)) in
    let some : 0 < length pending = omega (arith, inside) in
    let longer : 0 < length (pending ++ more) = rw (length-append pending more) (omega (arith, inside)) in
    next-some given (pending ++ more) longer
    ∙ ap (λ (l : List ℕ). if ends_within given l
    then (if nat_le one_too_many (text_length (pending ++ more)) then Long (take one_too_many (pending ++ more)) else Line l) else Much) line
    ∙ ap (λ (k : ℕ). if ends_within given (first_line pending)
    then (if nat_le one_too_many k then Long (take one_too_many (pending ++ more)) else Line (first_line pending)) else Much) same
    ∙ alike-by (ends_within given (first_line pending)) (nat_le one_too_many n) (take one_too_many (pending ++ more)) (take one_too_many pending)
    (first_line pending) (first_line pending)
    (λ long. let least = is-least one_too_many n long in take-append-le one_too_many pending more (omega (arith, least, inside))) refl
    ∙ sym (next-some given pending some)

is-past : (given : ℕ) (line : List ℕ) → most_input_bytes < given + min (length line) one_too_many → ends_within given line ≡ false
is-past given line past = grind (arith, nat_tests)

is-within : (given : ℕ) (line : List ℕ) → given + one_too_many ≤ most_input_bytes → ends_within given line ≡ true
is-within given line within = grind (arith, nat_tests)

-- a line of that many bytes is too much
next-much : (given : ℕ) (bytes : List ℕ) → most_input_bytes < given + min (text_length bytes) one_too_many → given ≤ most_input_bytes
    → next_in_bytes given bytes ≡ Much
next-much given bytes past within =
    let fits = text_length-fits bytes in
    let size : length (first_line bytes) ≡ min (suc (text_length bytes)) (length bytes) = length-take (suc (text_length bytes)) bytes in
    let some : 0 < length bytes = omega (arith, past, within, fits) in
    next-some given bytes some
    ∙ ap (λ (b : Bool). if b then by_length bytes (text_length bytes) else Much) (is-past given (first_line bytes) (rw size (omega (arith, past, fits))))

is-long : (n : ℕ) → one_too_many ≤ n → nat_le one_too_many n ≡ true
is-long n long = grind (arith, nat_tests)

-- a line of that many bytes is too long
next-long : (given : ℕ) (bytes : List ℕ) → one_too_many ≤ text_length bytes → given + one_too_many ≤ most_input_bytes
    → next_in_bytes given bytes ≡ Long (take one_too_many bytes)
next-long given bytes long within =
    let fits = text_length-fits bytes in
    next-some given bytes (omega (arith, long, fits))
    ∙ ap (λ (b : Bool). if b then by_length bytes (text_length bytes) else Much) (is-within given (first_line bytes) within)
    ∙ ap (λ (b : Bool). if b then Long (take one_too_many bytes) else Line (first_line bytes)) (is-long (text_length bytes) long)

-- the first line, as its length shows it
pub first_line_length : (bytes : List ℕ) → length (first_line bytes) ≡ min (suc (text_length bytes)) (length bytes)
first_line_length bytes = length-take (suc (text_length bytes)) bytes

is-short : (n : ℕ) → n < one_too_many → nat_le one_too_many n ≡ false
is-short n short = grind (arith, nat_tests)

is-inside : (given : ℕ) (line : List ℕ) → given + min (length line) one_too_many ≤ most_input_bytes → ends_within given line ≡ true
is-inside given line inside = grind (arith, nat_tests)

-- a line that is neither too long nor too much
pub next-line : (given n : ℕ) (bytes : List ℕ) → n ≡ length (first_line bytes) → 0 < n → given + min n one_too_many ≤ most_input_bytes
    → text_length bytes < one_too_many
    → Line (take n bytes) ≡ next_in_bytes given bytes
next-line given n bytes is some inside short =
    let size = first_line_length bytes in
    let more : 0 < length bytes = omega (arith, is, some, size) in
    let same : take n bytes ≡ first_line bytes =
    ap (λ (k : ℕ). take k bytes) (is ∙ size) ∙ take_min (suc (text_length bytes)) bytes in
    ap Line same
    ∙ sym (ap (λ (b : Bool). if b then Long (take one_too_many bytes) else Line (first_line bytes)) (is-short (text_length bytes) short))
    ∙ sym (ap (λ (b : Bool). if b then by_length bytes (text_length bytes) else Much) (is-inside given (first_line bytes) (omega (arith, inside, is))))
    ∙ sym (next-some given bytes more)

-- what was scanned goes on after it
pub scanned : (before got pending : List ℕ) (seen : ℕ) → seen ≡ text_length before → length before ≤ seen → pending ≡ before ++ got
    → (seen ≤ length pending) × (text_length pending ≡ seen + text_length (drop seen pending))
scanned before got pending seen is past joined =
    let fits = text_length-fits before in
    let none : text_length before ≡ length before = omega (arith, fits, past, is) in
    let same : length before ≡ seen = omega (arith, none, is) in
    subst (λ (bytes : List ℕ). (seen ≤ length bytes) × (text_length bytes ≡ seen + text_length (drop seen bytes))) (sym joined) (
      rw (length-append before got) (omega (arith, same)),
      subst (λ (n : ℕ). text_length (before ++ got) ≡ n + text_length (drop n (before ++ got))) same (scan-on before got none),
    )

-- this many bytes of the first line are pending that it is too long or too much
settled-front : (given asked : ℕ) (pending more : List ℕ) (tight : Bool) → nat_lt most_input_bytes (given + one_too_many) ≡ tight → given ≤ most_input_bytes
    → asked ≡ min one_too_many (most_input_bytes - given + 1) → asked ≤ text_length pending → text_length pending ≡ length pending
    → next_in_bytes given (pending ++ more) ≡ next_in_bytes given pending
settled-front given asked pending more true tight within is enough none =
    let past : most_input_bytes < given + one_too_many = grind (arith, nat_tests) in
    let longer = text_length-past pending more none in
    next-much given (pending ++ more) (omega (arith, past, longer, is, enough, none, within)) within
    ∙ sym (next-much given pending (omega (arith, past, is, enough, within)) within)
settled-front given asked pending more false tight within is enough none =
    let inside : given + one_too_many ≤ most_input_bytes = grind (arith, nat_tests) in
    let all : one_too_many ≤ text_length pending = omega (arith, inside, is, enough) in
    let longer = text_length-past pending more none in
    next-long given (pending ++ more) (omega (arith, all, longer, none)) inside
    ∙ ap Long (take-append-le one_too_many pending more (omega (arith, all, none)))
    ∙ sym (next-long given pending all inside)

settled-by : (given asked : ℕ) (pending more : List ℕ) (test : Bool) → nat_lt (text_length pending) (length pending) ≡ test → given ≤ most_input_bytes
    → asked ≡ min one_too_many (most_input_bytes - given + 1) → asked ≤ text_length pending
    → next_in_bytes given (pending ++ more) ≡ next_in_bytes given pending
settled-by given asked pending more true test within is enough = settled-line given pending more (grind (arith, nat_tests))
settled-by given asked pending more false test within is enough =
    let fits = text_length-fits pending in
    let past : length pending ≤ text_length pending = grind (arith, nat_tests) in
    settled-front given asked pending more (nat_lt most_input_bytes (given + one_too_many)) refl within is enough (omega (arith, fits, past))

-- what was sought settles what comes next
settled : (given asked : ℕ) (pending more : List ℕ) → given ≤ most_input_bytes → asked ≡ min one_too_many (most_input_bytes - given + 1)
    → IsSought asked pending (Some more) → next_in_bytes given (pending ++ more) ≡ next_in_bytes given pending
settled given asked pending more within is (inl enough) =
    settled-by given asked pending more (nat_lt (text_length pending) (length pending)) refl within is enough
settled given asked pending more within is (inr (inl inside)) = settled-line given pending more inside
settled given asked pending more within is (inr (inr none)) =
    ap (λ (rest : List ℕ). next_in_bytes given (pending ++ rest)) none ∙ ap (next_in_bytes given) (append-nil pending)

-- the list in an option
abbrev from_some : Option (List ℕ) → List ℕ
from_some None = []
from_some (Some bytes) = bytes

pub stands-next : (given asked : ℕ) (pending : List ℕ) (all known : Option (List ℕ)) (next : Next) → given ≤ most_input_bytes
    → asked ≡ min one_too_many (most_input_bytes - given + 1)
    → IsSought asked pending known → prepend_known pending known ≡ all → next ≡ next_in_bytes given pending
    → IfSome all (λ bytes. next_in_bytes given bytes ≡ next)
stands-next given asked pending None known next within is sought same told = tt
stands-next given asked pending (Some bytes) None next within is sought same told = absurd (none-some bytes same)
stands-next given asked pending (Some bytes) (Some more) next within is sought same told =
    ap (next_in_bytes given) (sym (ap from_some same)) ∙ settled given asked pending more within is sought ∙ sym told
