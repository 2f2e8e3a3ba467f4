-- What `unwrap` makes from a capture, classic or pcapng: a classic one of raw IP, with a record for each record (own).
use Rattle.std.specs.Prelude.{ℕ, ◌-◌, ◌==◌, Bool, false, is_some, if◌then◌else◌, List, [], ◌∷◌, length, map, codes, Option, Some, None}
use Rattle.capture_reader.specs.Records.{RecordParts}
use Rattle.bridge_records.specs.Writing.{RawRecord, file_header, raw_record}
use Rattle.bridge_records.specs.Pieces.{PiecesResult, text_of_pieces}
use Rattle.bridge_records.specs.declared.pieces.fault.PieceFault.{PieceFault}
use Rattle.bridge_records.specs.declared.pieces.fault.PieceFault.TheVariants as why
use Rattle.bridge_records.specs.Recording.{RecordWork, RecordsState, records_of, records_work}
use Rattle.bridge_links.specs.Links.{ip_bytes}

-- A part of the output: the file header, for the beginning of a capture, or a record.
pub data CapturePart : Type 0 where
  Begins : (nanos : Bool) → CapturePart
  Holds : (r : RawRecord) → CapturePart

-- a part as it is written
abbrev pub capture_part_text : CapturePart → List ℕ
capture_part_text (Begins nanos) = file_header nanos
capture_part_text (Holds r) = raw_record r

-- how many bytes the packet of a record had: those of the record without those outside the packet, and none if there is no packet
abbrev pub original_of : RecordParts → List ℕ → ℕ
original_of e ip = if length ip == 0 then 0 else e.original - (length e.bytes - length ip)

-- the record of the packet that is found in a record, at the same time; an empty one if there is none
abbrev pub unwrapped_of : RecordParts → List ℕ → RawRecord
unwrapped_of e ip = record { seconds = e.seconds; fraction = e.fraction; original = original_of e ip; bytes = ip }

-- the record that is made from a record
unfoldable pub unwrapped_entry : RecordParts → RawRecord
unwrapped_entry e = unwrapped_of e (ip_bytes e.link e.bytes)

-- the output for such records: the file header, and a record for each
abbrev pub unwrapped_parts : Bool → List RecordParts → List CapturePart
unwrapped_parts nanos entries = Begins nanos ∷ map (λ e. Holds (unwrapped_entry e)) entries

-- the word for why a capture is refused
abbrev pub piece_fault_name : PieceFault → List ℕ
piece_fault_name why.BadMagic = codes "BadMagic"
piece_fault_name why.BadVersion = codes "BadVersion"
piece_fault_name why.BadLink = codes "BadLink"
piece_fault_name why.CutShort = codes "CutShort"
piece_fault_name why.TooLong = codes "RecordTooLong"
piece_fault_name why.BadBlock = codes "BadBlock"
piece_fault_name why.TooLarge = codes "TooLarge"

-- the file header of a capture without an interface, which has no records
abbrev pub untold_header : Bool → List ℕ
untold_header untold = if untold then file_header false else []

-- the records among the parts of a capture
abbrev pub records_among : List CapturePart → List RawRecord
records_among [] = []
records_among (Begins nanos ∷ parts) = records_among parts
records_among (Holds r ∷ parts) = r ∷ records_among parts

-- what follows the last record: nothing, except for a file header that was not written yet, if there is no fault
abbrev pub unwrap_closing : Bool → Option PieceFault → List ℕ
unwrap_closing untold None = untold_header untold
unwrap_closing untold (Some fault) = []

-- What `unwrap` does with the records of a capture. It keeps nothing of them.
abbrev pub unwrap_work : RecordWork CapturePart (Unit {0})
unwrap_work = record {
  begun = λ job nanos. record { deed = Some (Begins nanos); next = job };
  passed = λ job e. record { deed = Some (Holds (unwrapped_entry e)); next = job };
  told = capture_part_text;
  closing = λ job untold records end. unwrap_closing untold end;
}

-- the result of the pieces of an input
abbrev pub unwrapped_pieces : List ℕ → PiecesResult CapturePart (RecordsState (Unit {0}))
unwrapped_pieces input = records_of unwrap_work tt input

-- What `unwrap` writes for an input.
abbrev pub unwrapped_text : List ℕ → List ℕ
unwrapped_text input = text_of_pieces (records_work unwrap_work) (unwrapped_pieces input)

-- The capture has a fault.
abbrev pub is_unwrapped_faulty : List ℕ → Bool
is_unwrapped_faulty input = is_some (unwrapped_pieces input).refusal
