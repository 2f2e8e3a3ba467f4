-- `unwrap` and `json` go through a capture side by side: where the one makes a record, the other writes it.
use Rattle.std.proofs.Common.{◌≡◌, refl, ap, Bool, false, ℕ, zero, suc, ◌+◌, ◌-◌, List, [], ◌∷◌, map, Some, None}
use Rattle.capture_reader.specs.Records.{RecordParts}
use Rattle.bridge_records.specs.Writing.{RawRecord}
use Rattle.bridge_records.specs.Pieces.{Goes, Judgement, Piece, PieceEnd, PieceNext, PieceWrong, Stops, PiecesResult, by_next_piece, next_piece, pieces_from, taken_by}
use Rattle.bridge_records.specs.Reading.{FileState, bytes_held, file_judged, first_file, next_length}
use Rattle.bridge_records.specs.Recording.{RecordsState, by_judged, numbered_entry, reading_at, records_work}
use Rattle.bridge_records.specs.declared.content.Content.{Content}
use Rattle.bridge_records.specs.declared.content.Content.TheVariants as found
use Rattle.bridge_command.specs.Unwrapping.{CapturePart, records_among, unwrap_work, unwrapped_entry, unwrapped_pieces}
use Rattle.bridge_command.specs.Telling.{JsonRecord, JsonParts, first_telling, json_pieces, json_work, telling_after}
use Rattle.dccp_io.specs.Counts.{one_more}

-- how far reading is, of either
abbrev State : Type 0
State = RecordsState (Unit {0})

abbrev Knowing : Type 0
Knowing = RecordsState JsonParts

abbrev at : FileState → Bool → ℕ → State
at file nanos n = reading_at file nanos n tt

abbrev with : FileState → Bool → ℕ → JsonParts → Knowing
with file nanos n s = reading_at file nanos n s

-- the records that were made are those that were told, and both end alike
record AreSame (made : PiecesResult CapturePart State) (told : PiecesResult JsonRecord Knowing) : Type 0 where
  records : records_among made.deeds ≡ map (λ t. unwrapped_entry t.entry) told.deeds
  refusal : made.refusal ≡ told.refusal

module _ (file : FileState) (nanos : Bool) (n given : ℕ) (s : JsonParts) (made : State → PiecesResult CapturePart State) (told : Knowing → PiecesResult JsonRecord Knowing)
    (later : (next : FileState) (nanos : Bool) (n : ℕ) (s : JsonParts) → AreSame (made (at next nanos n)) (told (with next nanos n s))) where
  -- what a piece holds
  abbrev both : Judgement CapturePart State → Judgement JsonRecord Knowing → Type 0
  both one other = AreSame (taken_by (at file nanos n) given one made) (taken_by (with file nanos n s) given other told)

  judged-same : (piece : List ℕ) (judged : Judgement Content FileState)
      → both (by_judged unwrap_work (at file nanos n) piece judged) (by_judged json_work (with file nanos n s) piece judged)
  judged-same piece (Stops fault) = record { records = refl; refusal = refl }
  judged-same piece (Goes None next) = later next nanos n s
  judged-same piece (Goes (Some (found.Begins other)) next) =
      let more = later next other n s in record { records = more.records; refusal = more.refusal }
  judged-same piece (Goes (Some (found.Holds link head start)) next) =
      let entry : RecordParts = numbered_entry (one_more n) nanos link head (bytes_held head start piece) in
      let more = later next nanos (one_more n) (telling_after s entry) in
      record { records = ap (λ (all : List RawRecord). unwrapped_entry entry ∷ all) more.records; refusal = more.refusal }

  -- what comes next
  next-same : (next : PieceNext)
      → both (by_next_piece (records_work unwrap_work) (at file nanos n) next) (by_next_piece (records_work json_work) (with file nanos n s) next)
  next-same PieceEnd = later file nanos n s
  next-same (Piece piece) = judged-same piece (file_judged file piece)
  next-same (PieceWrong why) = record { records = refl; refusal = refl }

all-same : (skip given : ℕ) (file : FileState) (nanos : Bool) (n : ℕ) (s : JsonParts) (bytes : List ℕ)
    → AreSame (pieces_from (records_work unwrap_work) skip (at file nanos n) given bytes)
    (pieces_from (records_work json_work) skip (with file nanos n s) given bytes)
all-same skip given file nanos n s [] = record { records = refl; refusal = refl }
all-same (suc skip) given file nanos n s (byte ∷ bytes) = all-same skip given file nanos n s bytes
all-same zero given file nanos n s (byte ∷ bytes) =
    next-same file nanos n given s
    (λ next. pieces_from (records_work unwrap_work) (next_length file.place - 1) next (given + next_length file.place) bytes)
    (λ next. pieces_from (records_work json_work) (next_length file.place - 1) next (given + next_length file.place) bytes)
    (λ next other m later. all-same (next_length file.place - 1) (given + next_length file.place) next other m later bytes)
    (next_piece (records_work unwrap_work) (at file nanos n) given (byte ∷ bytes))

pub told-and-unwrapped : (payload : Bool) (input : List ℕ)
    → (records_among (unwrapped_pieces input).deeds ≡ map (λ t. unwrapped_entry t.entry) (json_pieces payload input).deeds)
    × ((unwrapped_pieces input).refusal ≡ (json_pieces payload input).refusal)
told-and-unwrapped payload input =
    let same = all-same 0 0 first_file false 0 (first_telling payload) input in (same.records, same.refusal)
