-- What comes next in an input, in the terms of its lines.
use Rattle.std.proofs.Common.{arith, ◌≡◌, sym, ap, ◌∙◌, ℕ, ◌+◌, ◌<◌, Bool, true, false, if◌then◌else◌, List, [], ◌∷◌, length, drop}
use Rattle.dccp_io.specs.Lines.{Next, Line, Long, Much, first_line, lines_of, next_in_bytes, next_in_lines}
use Rattle.dccp_io.proofs.LineList.{lines-cut, next-first}
use Rattle.tool_text.specs.Jobs.{Job, by_next, gone_by, gone_from}

with-line : (within long : Bool) (front first line : List ℕ) → (if within then (if long then Long front else Line first) else Much) ≡ Line line → first ≡ line
with-line true true front first line is = cc is
with-line true false front first line is = cc is
with-line false long front first line is = cc is

-- a line comes next
pub is-line : (given : ℕ) (bytes line : List ℕ) → next_in_bytes given bytes ≡ Line line → (0 < length bytes) × (first_line bytes ≡ line)
is-line given [] line is = cc is
is-line given (byte ∷ bytes) line is = (omega arith, with-line _ _ _ _ line is)

-- where some are left, the first line comes to what comes next, and then the lines after it
pub gone-cut : {P V : Type 0} (job : Job P V) (state : V) (number given : ℕ) (bytes : List ℕ) → 0 < length bytes
    → gone_from job state number given (lines_of bytes)
    ≡ gone_by state number given (by_next job state number (next_in_bytes given bytes))
    (λ next. gone_from job next (number + 1) (given + length (first_line bytes)) (lines_of (drop (length (first_line bytes)) bytes)))
gone-cut {P} {V} job state number given bytes some =
    let following = lines_of (drop (length (first_line bytes)) bytes) in
    let cut : lines_of bytes ≡ first_line bytes ∷ following = lines-cut bytes some in
    let next : next_in_lines given (first_line bytes ∷ following) ≡ next_in_bytes given bytes =
    sym (ap (next_in_lines given) cut) ∙ sym (next-first given bytes) in
    ap (gone_from job state number given) cut
    ∙ ap (λ (n : Next). gone_by state number given (by_next job state number n)
    (λ (after : V). gone_from job after (number + 1) (given + length (first_line bytes)) following)) next
