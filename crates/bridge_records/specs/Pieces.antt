-- What a job makes of the pieces of an input, and what is written of it (own).
use Rattle.std.specs.Prelude.{◌≡◌, ℕ, zero, suc, ◌+◌, ◌-◌, ◌^◌, ◌++◌, nat_lt, Bool, is_some, if◌then◌else◌, List, [], ◌∷◌, length, take, flat_map, Option, Some, None, Result, Ok, Err}
use Rattle.tool_text.specs.Ends.{Answers, IsAnswered, StopsWithin}
use Rattle.tool_text.specs.Jobs.{deeds_of}
use Rattle.bridge_records.specs.declared.pieces.fault.PieceError.{PieceError}
use Rattle.bridge_records.specs.declared.pieces.fault.PieceError.TheVariants as piece_error
use Rattle.bridge_records.specs.declared.pieces.fault.PieceFault.{PieceFault}
use Rattle.bridge_records.specs.declared.pieces.fault.PieceFault.TheVariants.{CutShort, TooLarge}
use Rattle.bridge_records.specs.declared.pieces.loops.PiecesEnd.{PiecesEnd}

-- The result of a piece: the job goes on, with what the piece does, if anything, and with the state after it; or the job stops.
pub data Judgement (P V : Type 0) : Type 0 where
  Goes : (deed : Option P) (next : V) → Judgement P V
  Stops : (why : PieceFault) → Judgement P V

-- A job over pieces: from the state, how long the next piece is and whether the input may end before it; the result of a piece; the text of what
-- a piece does; and the text after the last piece, at the input's end or for a fault.
pub record PieceWork (P V : Type 0) : Type 0 where
  pub wanted : V → ℕ
  pub may_end : V → Bool
  pub judged : V → List ℕ → Judgement P V
  pub told : P → List ℕ
  pub closing : V → Option PieceFault → List ℕ

-- the text of a piece that was accepted
abbrev pub piece_text : {P V : Type 0} → PieceWork P V → Option P → List ℕ
piece_text job None = []
piece_text job (Some deed) = job.told deed

-- A piece was judged this way: an accepted one adds its text at the text's end and leads to the next state, and a refused one changes nothing.
-- If no memory was left, nothing is said.
abbrev pub JudgesPiece : {P V : Type 0} → PieceWork P V → V → Judgement P V → List ℕ → List ℕ → V → Result (Unit {0}) PieceError → Type 0
JudgesPiece job state judgement old new after (Err piece_error.NoMemory) = Unit {0}
JudgesPiece job state (Goes deed next) old new after answer = (new ≡ old ++ piece_text job deed) × (after ≡ next) × (answer ≡ Ok tt)
JudgesPiece job state (Stops why) old new after answer = (new ≡ old) × (after ≡ state) × (answer ≡ Err (piece_error.Refused why))

-- the most bytes of an input
abbrev pub most_piece_bytes : ℕ
most_piece_bytes = 2 ^ 32

-- What comes next: the end, a piece, or why there is no piece.
pub data PieceNext : Type 0 where
  PieceEnd : PieceNext
  Piece : (piece : List ℕ) → PieceNext
  PieceWrong : (why : PieceFault) → PieceNext

-- the end of an input, if it may be there
abbrev pub end_piece : Bool → PieceNext
end_piece may = if may then PieceEnd else PieceWrong CutShort

-- this many bytes of those that are left, after `given` of the input
abbrev pub piece_in : ℕ → ℕ → List ℕ → PieceNext
piece_in wanted given bytes =
    if nat_lt most_piece_bytes (given + wanted) then PieceWrong TooLarge
    else if nat_lt (length bytes) wanted then PieceWrong CutShort
    else Piece (take wanted bytes)

-- what comes next in the bytes that are left
abbrev pub next_piece : {P V : Type 0} → PieceWork P V → V → ℕ → List ℕ → PieceNext
next_piece job state given [] = end_piece (job.may_end state)
next_piece job state given (byte ∷ bytes) = piece_in (job.wanted state) given (byte ∷ bytes)

-- its result; at the end nothing happens
abbrev pub by_next_piece : {P V : Type 0} → PieceWork P V → V → PieceNext → Judgement P V
by_next_piece job state PieceEnd = Goes None state
by_next_piece job state (Piece piece) = job.judged state piece
by_next_piece job state (PieceWrong why) = Stops why

-- The result of the pieces of an input: what the pieces did, the state after them, how many bytes they have, and why the input is refused after
-- them, if it is.
pub record PiecesResult (P V : Type 0) : Type 0 where
  pub deeds : List P
  pub last : V
  pub accepted : ℕ
  pub refusal : Option PieceFault

-- these deeds, in front of those of the following pieces
abbrev pub in_front : {P V : Type 0} → List P → PiecesResult P V → PiecesResult P V
in_front deeds rest = record rest { deeds = deeds ++ rest.deeds }

-- no further piece counts
abbrev pub taken_so_far : {P V : Type 0} → V → ℕ → Option PieceFault → PiecesResult P V
taken_so_far state given refusal = record { deeds = []; last = state; accepted = given; refusal = refusal }

-- the pieces after an accepted one count too; a refused one is the last
abbrev pub taken_by : {P V : Type 0} → V → ℕ → Judgement P V → (V → PiecesResult P V) → PiecesResult P V
taken_by state given (Goes deed next) rest = in_front (deeds_of deed) (rest next)
taken_by state given (Stops why) rest = taken_so_far state given (Some why)

-- why an input is refused that may not end at this place
abbrev pub unended : Bool → Option PieceFault
unended may = if may then None else Some CutShort

-- The result of the pieces after `given` bytes, where the first `skip` bytes belong to the piece before.
abbrev pub pieces_from : {P V : Type 0} → PieceWork P V → ℕ → V → ℕ → List ℕ → PiecesResult P V
pieces_from job skip state given [] = taken_so_far state given (unended (job.may_end state))
pieces_from job (suc skip) state given (byte ∷ bytes) = pieces_from job skip state given bytes
pieces_from job zero state given (byte ∷ bytes) =
    taken_by state given (by_next_piece job state (next_piece job state given (byte ∷ bytes)))
    (λ next. pieces_from job (job.wanted state - 1) next (given + job.wanted state) bytes)

-- The result of a whole input, from the job's first state.
abbrev pub pieces_of : {P V : Type 0} → PieceWork P V → V → List ℕ → PiecesResult P V
pieces_of job first input = pieces_from job 0 first 0 input

-- What is written for an input: the text of each deed, and the text after the last piece.
abbrev pub text_of_pieces : {P V : Type 0} → PieceWork P V → PiecesResult P V → List ℕ
text_of_pieces job taken = flat_map job.told taken.deeds ++ job.closing taken.last taken.refusal

-- The job over the pieces of an input ended: what was written and how it ended, how far the input was read past the last accepted piece if it
-- was refused, why it was, and the state after the last piece.
pub record GoesThroughPieces {P V : Type 0} (job : PieceWork P V) (first : V) (input : List ℕ) (result : PiecesEnd) (last : V)
    (left before after : Option (List ℕ)) : Type 0 where
  pub answers : Answers (text_of_pieces job (pieces_of job first input)) (is_some (pieces_of job first input).refusal) result.end left before after
  pub past : StopsWithin 524288 (pieces_of job first input).accepted input result.end left
  pub refused : IsAnswered result.end → result.fault ≡ (pieces_of job first input).refusal
  pub last_is : IsAnswered result.end → last ≡ (pieces_of job first input).last
