-- What comes next in an input, and the pieces after it.
use Rattle.std.proofs.Common.{arith, ◌≡◌, refl, sym, ap, ◌∙◌, ℕ, zero, suc, ◌+◌, ◌-◌, ◌≤◌, ◌<◌, List, [], ◌∷◌, length, drop}
use Rattle.tool_text.specs.Jobs.{deeds_of}
use Rattle.bridge_records.specs.Pieces.{Goes, Judgement, PieceWork, Stops, PiecesResult, by_next_piece, in_front, next_piece, pieces_from, taken_by}

-- the first bytes belong to the piece before
skipped-bytes : {P V : Type 0} (job : PieceWork P V) (skip : ℕ) (state : V) (given : ℕ) (bytes : List ℕ)
    → pieces_from job skip state given bytes ≡ pieces_from job 0 state given (drop skip bytes)
skipped-bytes job zero state given bytes = refl
skipped-bytes job (suc skip) state given [] = refl
skipped-bytes job (suc skip) state given (byte ∷ bytes) = skipped-bytes job skip state given bytes

-- what follows an accepted piece may be said otherwise
followed-by : {P V : Type 0} (state : V) (given : ℕ) (judgement : Judgement P V) (rest other : V → PiecesResult P V) → ((next : V) → rest next ≡ other next)
    → taken_by state given judgement rest ≡ taken_by state given judgement other
followed-by state given (Goes deed next) rest other same = ap (in_front (deeds_of deed)) (same next)
followed-by state given (Stops why) rest other same = refl

-- where some bytes are left, what comes next is judged, and then the pieces after it
pub pieces-cut : {P V : Type 0} (job : PieceWork P V) (state : V) (given : ℕ) (bytes : List ℕ) → 0 < length bytes → 1 ≤ job.wanted state
    → pieces_from job 0 state given bytes
    ≡ taken_by state given (by_next_piece job state (next_piece job state given bytes))
    (λ next. pieces_from job 0 next (given + job.wanted state) (drop (job.wanted state) bytes))
pieces-cut job state given [] none some = absurd (omega (arith, none))
pieces-cut job state given (byte ∷ bytes) none some =
    let wanted = job.wanted state in
    let one : wanted ≡ suc (wanted - 1) = omega (arith, some) in
    let following : drop (wanted - 1) bytes ≡ drop wanted (byte ∷ bytes) = sym (ap (λ (n : ℕ). drop n (byte ∷ bytes)) one) in
    followed-by state given (by_next_piece job state (next_piece job state given (byte ∷ bytes))) _ _
    (λ next. skipped-bytes job (wanted - 1) next (given + wanted) bytes ∙ ap (pieces_from job 0 next (given + wanted)) following)
