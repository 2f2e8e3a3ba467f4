-- A capture as a relation between its bytes, its records and its end, apart from reading it (the savefile format of
-- libpcap; the limits are own).
use Rattle.std.specs.Prelude.{◌≡◌, ℕ, ◌+◌, ◌≤◌, ◌<◌, ◌⊎◌, List, [], ◌∷◌, ◌++◌, length, drop, Option, Some, None, Ok, Err}
use Rattle.capture_reader.specs.declared.fault.CaptureFault.{CaptureFault}
use Rattle.capture_reader.specs.declared.fault.CaptureFault.TheVariants.{BadMagic, BadVersion, BadLink, CutShort, RecordTooLong, ReadFault, NoMemory, TooLarge}
use Rattle.capture_reader.specs.declared.format.Format.{Format}
use Rattle.capture_reader.specs.Format.{opened, ordered_number_at}
use Rattle.capture_reader.specs.Records.{RecordParts, most_bytes, most_captured}

-- the length of a record's captured bytes, as its header says
abbrev pub captured_length : Format → List ℕ → ℕ
captured_length format bytes = ordered_number_at format.order 8 4 bytes

-- A record after `number` others and `given` bytes: a header of 16 bytes, its captured bytes, and what is after it.
pub record IsRecord (format : Format) (number given : ℕ) (entry : RecordParts) (rest bytes : List ℕ) : Type 0 where
  pub header : List ℕ
  pub body : List ℕ
  pub whole : bytes ≡ header ++ (body ++ rest)
  pub header_length : length header ≡ 16
  pub body_length : length body ≡ captured_length format bytes
  pub stands : entry ≡ record {
    number = number + 1;
    seconds = ordered_number_at format.order 0 4 bytes;
    fraction = ordered_number_at format.order 4 4 bytes;
    nanos = format.nanos;
    link = format.link;
    original = ordered_number_at format.order 12 4 bytes;
    bytes = body;
  }
  pub fits : length body ≤ most_captured
  pub counts : given + (16 + length body) ≤ most_bytes

-- of the `needed` bytes from here on, the input lacks some that are within the limit
abbrev pub IsShortOf : ℕ → ℕ → List ℕ → Type 0
IsShortOf needed given bytes = (length bytes < needed) × (given + length bytes < most_bytes)

-- all of them that are within the limit are there, and more are needed
abbrev pub IsLarge : ℕ → ℕ → List ℕ → Type 0
IsLarge needed given bytes = (most_bytes < given + needed) × (most_bytes ≤ given + length bytes)

-- a record's header is there
abbrev pub HasHeader : ℕ → List ℕ → Type 0
HasHeader given bytes = (16 ≤ length bytes) × (given + 16 ≤ most_bytes)

-- what ends a capture at the place of a record
abbrev pub IsWrong : Format → ℕ → List ℕ → CaptureFault → Type 0
IsWrong format given bytes CutShort =
    IsShortOf 16 given bytes
    ⊎ HasHeader given bytes × (captured_length format bytes ≤ most_captured) × IsShortOf (16 + captured_length format bytes) given bytes
IsWrong format given bytes RecordTooLong = HasHeader given bytes × (most_captured < captured_length format bytes)
IsWrong format given bytes TooLarge =
    IsLarge 16 given bytes
    ⊎ HasHeader given bytes × (captured_length format bytes ≤ most_captured) × IsLarge (16 + captured_length format bytes) given bytes
IsWrong format given bytes BadMagic = ⊥
IsWrong format given bytes BadVersion = ⊥
IsWrong format given bytes BadLink = ⊥
IsWrong format given bytes ReadFault = ⊥
IsWrong format given bytes NoMemory = ⊥

-- the records after `number` others and `given` bytes, and what ends them
abbrev pub HasRecords : Format → ℕ → ℕ → List ℕ → List RecordParts → Option CaptureFault → Type 0
HasRecords format number given bytes [] None = bytes ≡ []
HasRecords format number given bytes [] (Some why) = (0 < length bytes) × IsWrong format given bytes why
HasRecords format number given bytes (entry ∷ entries) end =
    (rest : List ℕ) × IsRecord format number given entry rest bytes
    × HasRecords format (number + 1) (given + (16 + length entry.bytes)) rest entries end

-- an input with these records and this end
pub data IsCapture (bytes : List ℕ) (records : List RecordParts) (end : Option CaptureFault) : Type 0 where
  Refused : (why : CaptureFault) → opened bytes ≡ Err why → records ≡ [] → end ≡ Some why → IsCapture bytes records end
  Opened : (format : Format) → opened bytes ≡ Ok format → HasRecords format 0 24 (drop 24 bytes) records end → IsCapture bytes records end
