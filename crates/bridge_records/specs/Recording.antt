-- What a job makes of the records of a capture, classic or pcapng (own).
use Rattle.std.specs.Prelude.{◌≡◌, ℕ, Bool, false, is_some, List, Option, Some, None}
use Rattle.capture_reader.specs.Records.{RecordParts}
use Rattle.capture_reader.specs.declared.record.RecordHeader.{RecordHeader}
use Rattle.tool_text.specs.Ends.{Answers, IsAnswered, StopsWithin}
use Rattle.bridge_records.specs.Pieces.{Goes, Judgement, PieceWork, Stops, PiecesResult, pieces_of, text_of_pieces}
use Rattle.bridge_records.specs.declared.pieces.fault.PieceFault.{PieceFault}
use Rattle.bridge_records.specs.Reading.{FileState, bytes_held, file_judged, first_file, is_between, is_untold, next_length}
use Rattle.bridge_records.specs.declared.content.Content.{Content}
use Rattle.bridge_records.specs.declared.content.Content.TheVariants as found
use Rattle.bridge_records.specs.declared.recording.CaptureRefusal.{CaptureRefusal}
use Rattle.bridge_records.specs.declared.recording.RecordsEnd.{RecordsEnd}
use Rattle.bridge_records.specs.declared.skips.Skips.{Skips}
use Rattle.dccp_io.specs.Counts.{one_more}

-- The result of the beginning of a capture or of a record: what a job does with it, if it does anything, and its state after it.
pub record RecordStep (P V : Type 0) : Type 0 where
  pub deed : Option P
  pub next : V

-- A job over the records of a capture: what it does when the capture begins, whose fractions are nanoseconds or microseconds, and what it does
-- with a record; the text of what it does; and the text after the last of this many records, from the job's state, at the end of a capture that
-- did or did not say what its fractions are, or for a fault.
pub record RecordWork (P V : Type 0) : Type 0 where
  pub begun : V → Bool → RecordStep P V
  pub passed : V → RecordParts → RecordStep P V
  pub told : P → List ℕ
  pub closing : V → Bool → ℕ → Option PieceFault → List ℕ

-- How far reading is, whether fractions are nanoseconds, how many records came, and the job's state. (No capture has so many that their count
-- would stay at its end.)
pub record RecordsState (V : Type 0) : Type 0 where
  pub file : FileState
  pub nanos : Bool
  pub records : ℕ
  pub job : V

-- the state after a piece, when this many records came
abbrev pub reading_at : {V : Type 0} → FileState → Bool → ℕ → V → RecordsState V
reading_at file nanos records job = record { file = file; nanos = nanos; records = records; job = job }

-- before the first piece
abbrev pub first_reading : {V : Type 0} → V → RecordsState V
first_reading job = reading_at first_file false 0 job

-- a record of this number and link type, with its bytes
abbrev pub numbered_entry : ℕ → Bool → ℕ → RecordHeader → List ℕ → RecordParts
numbered_entry number nanos link head bytes =
    record { number = number; seconds = head.seconds; fraction = head.fraction; nanos = nanos; link = link; original = head.original; bytes = bytes }

-- what a job makes of one more record, whose bytes begin at this place in this piece
abbrev pub held_passed : {P V : Type 0} → RecordWork P V → RecordsState V → ℕ → RecordHeader → ℕ → List ℕ → RecordStep P V
held_passed work s link head start piece =
    work.passed s.job (numbered_entry (one_more s.records) s.nanos link head (bytes_held head start piece))

-- the job goes on from there
abbrev pub goes_from : {P V : Type 0} → FileState → Bool → ℕ → RecordStep P V → Judgement P (RecordsState V)
goes_from file nanos records passed = Goes passed.deed (reading_at file nanos records passed.next)

-- the job gets what a piece holds
abbrev pub by_found : {P V : Type 0} → RecordWork P V → RecordsState V → List ℕ → FileState → Option Content → Judgement P (RecordsState V)
by_found work s piece next None = Goes None (reading_at next s.nanos s.records s.job)
by_found work s piece next (Some (found.Begins nanos)) = goes_from next nanos s.records (work.begun s.job nanos)
by_found work s piece next (Some (found.Holds link head start)) = goes_from next s.nanos (one_more s.records) (held_passed work s link head start piece)

-- the result of a piece, from its result in the capture that is read
abbrev pub by_judged : {P V : Type 0} → RecordWork P V → RecordsState V → List ℕ → Judgement Content FileState → Judgement P (RecordsState V)
by_judged work s piece (Stops fault) = Stops fault
by_judged work s piece (Goes deed next) = by_found work s piece next deed

-- A job over records, as a job over the pieces that hold them.
abbrev pub records_work : {P V : Type 0} → RecordWork P V → PieceWork P (RecordsState V)
records_work work = record {
  wanted = λ s. next_length s.file.place;
  may_end = λ s. is_between s.file.place;
  judged = λ s piece. by_judged work s piece (file_judged s.file piece);
  told = work.told;
  closing = λ s end. work.closing s.job (is_untold s.file) s.records end;
}

-- The result of the records of an input, from the job's first state.
abbrev pub records_of : {P V : Type 0} → RecordWork P V → V → List ℕ → PiecesResult P (RecordsState V)
records_of work first input = pieces_of (records_work work) (first_reading first) input

-- a capture that is refused after this many records
abbrev pub refusal_after : ℕ → Option PieceFault → Option CaptureRefusal
refusal_after records None = None
refusal_after records (Some fault) = Some (record { fault = fault; records = records })

-- Why a capture is refused, if it is, and after how many records.
abbrev pub capture_refusal : {P V : Type 0} → PiecesResult P (RecordsState V) → Option CaptureRefusal
capture_refusal taken = refusal_after taken.last.records taken.refusal

-- What is skipped of a capture.
abbrev pub capture_skips : {P V : Type 0} → PiecesResult P (RecordsState V) → Skips
capture_skips taken = taken.last.file.skips

-- The job over the records of an input ended: what was written and how it ended, how far the input was read past the last accepted piece if it
-- was refused, why it was, and what was skipped.
pub record GoesOverRecords {P V : Type 0} (work : RecordWork P V) (first : V) (input : List ℕ) (result : RecordsEnd)
    (left before after : Option (List ℕ)) : Type 0 where
  pub answers : Answers (text_of_pieces (records_work work) (records_of work first input)) (is_some (records_of work first input).refusal) result.end left before after
  pub past : StopsWithin 524288 (records_of work first input).accepted input result.end left
  pub refused : IsAnswered result.end → result.refusal ≡ capture_refusal (records_of work first input)
  pub skipped : IsAnswered result.end → result.skips ≡ capture_skips (records_of work first input)
