-- What the turns of the loop over pieces do (own).
use Rattle.std.specs.Prelude.{◌≡◌, ℕ, ◌+◌, ◌≤◌, ◌<◌, Bool, true, false, List, [], length, drop, take, Option, Some, None, IfSome, Result, Ok, Err}
use Rattle.dccp_io.specs.Ahead.{BytesAhead, ahead_of}
use Rattle.dccp_io.specs.Counts.{Rose}
use Rattle.seq_circle.specs.declared.memory.NoMemory as no_memory
use Rattle.tool_text.specs.Ends.{HasBegun, HasTaken, IsAnswered, IsCutOff}
use Rattle.tool_text.specs.declared.output.status.JobEnd.{JobEnd}
use Rattle.tool_text.specs.declared.output.status.JobEnd.TheVariants as ended
use Rattle.bridge_records.specs.Pieces.{JudgesPiece, PieceWork, Stops, by_next_piece, most_piece_bytes, next_piece}
use Rattle.bridge_records.specs.declared.pieces.turns.PieceTurn.{PieceTurn}
use Rattle.bridge_records.specs.declared.pieces.turns.PieceTurn.TheVariants as turn

-- The source, the bytes that are read and not yet used, and how far the input is.
pub record PieceState (S V : Type 0) : Type 0 where
  pub source : S
  pub ahead : BytesAhead
  pub state : V
  pub text : List ℕ

-- what every turn keeps: the block, and that the count of faults never falls
pub record KeepsBlock {S V : Type 0} (faults : S → ℕ) (old new : PieceState S V) : Type 0 where
  pub same_size : new.ahead.size ≡ old.ahead.size
  pub fits : length new.ahead.pending ≤ new.ahead.size
  pub never_falls : faults old.source ≤ faults new.source

-- the rest of the input, the state and the text stay the same
pub record SameStanding {S V : Type 0} (left : S → Option (List ℕ)) (old new : PieceState S V) : Type 0 where
  pub ahead : ahead_of new.ahead (left new.source) ≡ ahead_of old.ahead (left old.source)
  pub state : new.state ≡ old.state
  pub text : new.text ≡ old.text

-- the next piece was judged and dropped
pub record TakesPiece {S P V : Type 0} (job : PieceWork P V) (given count : ℕ) (old new : PieceState S V) : Type 0 where
  pub used : count ≡ job.wanted old.state
  pub some : 1 ≤ count
  pub there : count ≤ length old.ahead.pending
  pub counts : given + count ≤ most_piece_bytes
  pub source : new.source ≡ old.source
  pub ahead : new.ahead ≡ record { pending = drop count old.ahead.pending; size = old.ahead.size }
  pub judges : JudgesPiece job old.state (job.judged old.state (take count old.ahead.pending)) old.text new.text new.state (Ok tt)

-- One turn: more of the input was read; or the next piece was judged and accepted; or the input is at its end or refused, or the source failed,
-- and nothing else changed.
abbrev pub TurnsPiece : {S P V : Type 0} → (S → Option (List ℕ)) → (S → ℕ) → PieceWork P V → ℕ → PieceState S V → PieceState S V → Result PieceTurn no_memory.NoMemory → Type 0
TurnsPiece left faults job given old new (Ok turn.Read) = SameStanding left old new × (length old.ahead.pending < length new.ahead.pending)
TurnsPiece left faults job given old new (Ok (turn.Taken used)) = TakesPiece job given used old new
TurnsPiece left faults job given old new (Ok (turn.Over None)) =
    SameStanding left old new × (job.may_end old.state ≡ true) × IfSome (ahead_of old.ahead (left old.source)) (λ bytes. bytes ≡ [])
TurnsPiece left faults job given old new (Ok (turn.Over (Some why))) =
    SameStanding left old new × (1 ≤ job.wanted old.state) × IfSome (ahead_of old.ahead (left old.source)) (λ bytes. by_next_piece job old.state (next_piece job old.state given bytes) ≡ Stops why)
TurnsPiece left faults job given old new (Ok turn.Failed) = (new.text ≡ old.text) × Rose (faults old.source) (faults new.source)
TurnsPiece left faults job given old new (Err _) = Unit {0}

-- The rest of a text was written: the whole of it with an answer, and otherwise a prefix.
pub record LeavesText (text : List ℕ) (refused : Bool) (result : JobEnd) (before after : Option (List ℕ)) : Type 0 where
  pub whole : IsAnswered result → HasTaken before after text
  pub front : IsCutOff result → HasBegun before after text
  pub done : result ≡ ended.Done → refused ≡ false
  pub input : result ≡ ended.Input → refused ≡ true
