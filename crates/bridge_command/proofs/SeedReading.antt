-- The lines of a text, one after the other, as a job goes through them.
use Rattle.std.proofs.Common.{◌≡◌, refl, ap, ap₂, ◌∙◌, ℕ, suc, ◌+◌, ◌≤◌, ◌==◌, min, nat_le, true, false, List, [], ◌∷◌, ◌++◌, length, take, Ok, append_assoc, length-append, arith}
use Rattle.std.specs.Prelude.{codes}
use Rattle.std.specs.List.{list_all}
use Rattle.std.proofs.Math.Nat.{min-le_left}
use Rattle.std.proofs.lemmas.Bool.{le-leb, leb-true}
use Rattle.std.proofs.lemmas.Bool.Decides.{nat_tests}
use Rattle.std.proofs.lemmas.List.{take_all}
use Rattle.dccp_io.specs.Lines.{Next, Line, Long, Much, before_line, by_length, ends_within, first_line, lines_of, most_input_bytes, newline, next_in_lines, one_too_many, text_length, text_of}
use Rattle.schedule_text.specs.Reading.{read_clean, read_line}
use Rattle.schedule_text.specs.declared.line.Line as words
use Rattle.tool_text.specs.Jobs.{Job, by_next, gone_by, gone_from}
use Rattle.tool_text.specs.Lines.{clean, is_text}
use Rattle.tool_text.proofs.Bytes.{both-true, if-false, if-true}
use Rattle.tool_text.proofs.LineLaws.{IsClean, clean-ok}
use Rattle.tool_text.proofs.RowLaws.{then-ok}

-- a text that is read is clean
pub read-clean : (text : List ℕ) (said : words.Line) → read_line text ≡ Ok said → IsClean text
read-clean text said is = clean-ok text tt (then-ok (clean text) (read_clean text) said is).0

low-byte : (byte : ℕ) → 32 ≤ byte → (byte == newline) ≡ false
low-byte byte low = grind (arith, nat_tests)

other-byte : (byte : ℕ) → is_text byte ≡ true → (byte == newline) ≡ false
other-byte byte is = low-byte byte (leb-true 32 byte (both-true (nat_le 32 byte) (nat_le byte 126) is).0)

-- a text in front of a newline
text-size : (text rest : List ℕ) → list_all is_text text ≡ true → text_length (text ++ (newline ∷ rest)) ≡ length text
text-size [] rest all = refl
text-size (byte ∷ text) rest all =
    let both = both-true (is_text byte) (list_all is_text text) all in
    if-false (byte == newline) 0 (suc (text_length (text ++ (newline ∷ rest)))) (other-byte byte both.0) ∙ ap suc (text-size text rest both.1)

-- is the first line
pub text-first : (text rest : List ℕ) → list_all is_text text ≡ true → lines_of (text ++ (newline ∷ rest)) ≡ (text ++ (newline ∷ [])) ∷ lines_of rest
text-first [] rest all = refl
text-first (byte ∷ text) rest all =
    let both = both-true (is_text byte) (list_all is_text text) all in
    if-false (byte == newline) ((newline ∷ []) ∷ lines_of (text ++ (newline ∷ rest))) (before_line byte (lines_of (text ++ (newline ∷ rest))))
    (other-byte byte both.0)
    ∙ ap (before_line byte) (text-first text rest both.1)

short-front : (text : List ℕ) → take (length text) (text ++ (newline ∷ [])) ≡ text
short-front [] = refl
short-front (byte ∷ text) = ap (λ (more : List ℕ). byte ∷ more) (short-front text)

line-size : (text : List ℕ) → length (text ++ (newline ∷ [])) ≡ length text + 1
line-size text = length-append text (newline ∷ [])

within : (given : ℕ) (text : List ℕ) → given + (length text + 1) ≤ most_input_bytes → ends_within given (text ++ (newline ∷ [])) ≡ true
within given text few =
    let size = line-size text in
    let least = min-le_left (length (text ++ (newline ∷ []))) one_too_many in
    le-leb (given + min (length (text ++ (newline ∷ []))) one_too_many) most_input_bytes (omega (arith, few, size, least))

not-long : (text : List ℕ) → length text ≤ 4096 → nat_le one_too_many (length text) ≡ false
not-long text short = long-not (length text) short
  where
    long-not : (n : ℕ) → n ≤ 4096 → nat_le one_too_many n ≡ false
    long-not n short = grind (arith, nat_tests)

-- and comes next
stands-next : (given : ℕ) (text : List ℕ) (lines : List (List ℕ)) → IsClean text → given + (length text + 1) ≤ most_input_bytes
    → next_in_lines given ((text ++ (newline ∷ [])) ∷ lines) ≡ Line (text ++ (newline ∷ []))
stands-next given text lines is few =
    let line = text ++ (newline ∷ []) in
    let size : text_length line ≡ length text = text-size text [] is.all in
    let whole : first_line line ≡ line = take_all (suc (text_length line)) line (omega (arith, size, line-size text)) in
    if-true (ends_within given line) (by_length line (text_length line)) Much (within given text few)
    ∙ if-false (nat_le one_too_many (text_length line)) (Long (take one_too_many line)) (Line (first_line line))
    (ap (nat_le one_too_many) size ∙ not-long text is.short)
    ∙ ap Line whole

-- what a job over lines makes of such a text, and of the lines after it
pub line-gone : {P V : Type 0} (job : Job P V) (state : V) (number given : ℕ) (text rest : List ℕ) → IsClean text → given + (length text + 1) ≤ most_input_bytes
    → gone_from job state number given (lines_of ((text ++ codes "\n") ++ rest))
    ≡ gone_by state number given (job.judged state number text) (λ next. gone_from job next (number + 1) (given + (length text + 1)) (lines_of rest))
line-gone {P} {V} job state number given text rest clean few =
    let line = text ++ (newline ∷ []) in
    let size : text_length line ≡ length text = text-size text [] clean.all in
    let front : text_of line ≡ text = ap (λ (n : ℕ). take n line) size ∙ short-front text in
    ap (λ (bytes : List ℕ). gone_from job state number given (lines_of bytes)) (append_assoc text (newline ∷ []) rest)
    ∙ ap (gone_from job state number given) (text-first text rest clean.all)
    ∙ ap (λ (n : Next). gone_by state number given (by_next job state number n)
    (λ (next : V). gone_from job next (number + 1) (given + length line) (lines_of rest)))
    (stands-next given text (lines_of rest) clean few)
    ∙ ap₂ (λ (t : List ℕ) (n : ℕ). gone_by state number given (job.judged state number t)
    (λ (next : V). gone_from job next (number + 1) (given + n) (lines_of rest)))
    front (line-size text)
