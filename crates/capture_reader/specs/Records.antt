-- The records of a classic capture (the savefile format of libpcap; the limits are own).
use Rattle.std.specs.Prelude.{ℕ, zero, suc, ◌+◌, ◌-◌, ◌^◌, Bool, true, nat_le, nat_lt, min, ◌==◌, ◌&&◌, ◌||◌, if◌then◌else◌, List, [], ◌∷◌, length, take, drop, Option, Some, None, Result, Ok, Err}
use Rattle.capture_reader.specs.declared.fault.CaptureFault.{CaptureFault}
use Rattle.capture_reader.specs.declared.fault.CaptureFault.TheVariants.{CutShort, RecordTooLong, TooLarge}
use Rattle.capture_reader.specs.declared.format.Order.{Order}
use Rattle.capture_reader.specs.declared.format.Format.{Format}
use Rattle.capture_reader.specs.declared.record.Record.{Record}
use Rattle.capture_reader.specs.declared.record.RecordHeader.{RecordHeader}
use Rattle.capture_reader.specs.Format.{opened, ordered_number_at}

-- a record, without the place of its bytes
pub record RecordParts : Type 0 where
  pub number : ℕ
  pub seconds : ℕ
  pub fraction : ℕ
  pub nanos : Bool
  pub link : ℕ
  pub original : ℕ
  pub bytes : List ℕ

-- what a lent record says
abbrev pub entry_of : Record → RecordParts
entry_of r = record {
  number = r.number;
  seconds = r.seconds;
  fraction = r.fraction;
  nanos = r.nanos;
  link = r.link;
  original = r.original;
  bytes = r.bytes.now;
}

-- the most bytes of a capture that count
abbrev pub most_bytes : ℕ
most_bytes = 2 ^ 32

-- the most bytes of a record
abbrev pub most_captured : ℕ
most_captured = 262144

-- a record's header: seconds, fraction, the captured length and the original one, 32 bits each
abbrev pub record_header : Order → List ℕ → RecordHeader
record_header order bytes = record {
  seconds = ordered_number_at order 0 4 bytes;
  fraction = ordered_number_at order 4 4 bytes;
  captured = ordered_number_at order 8 4 bytes;
  original = ordered_number_at order 12 4 bytes;
}

-- What is wrong if `count` bytes are needed, `size` are there, and only the next `room` count: the input is cut short
-- if it ends before a needed byte that counts, and too large if a needed byte does not count.
abbrev pub missing : ℕ → ℕ → ℕ → Option CaptureFault
missing count room size =
    if nat_lt size (min count room) then Some CutShort else if nat_lt room count then Some TooLarge else None

-- a fault comes before what is there
abbrev pub unless_faulty : {A : Type 0} → Option CaptureFault → A → Result A CaptureFault
unless_faulty None there = Ok there
unless_faulty (Some why) there = Err why

-- the header of the record that begins here, if `room` bytes count; none at the input's end
abbrev pub header_in : Order → ℕ → List ℕ → Result (Option RecordHeader) CaptureFault
header_in order room bytes =
    if length bytes == 0 then Ok None else unless_faulty (missing 16 room (length bytes)) (Some (record_header order bytes))

-- what is wrong with a record's captured bytes, of which `size` are there and `room` count
abbrev pub body_fault : ℕ → ℕ → ℕ → Option CaptureFault
body_fault captured room size = if nat_lt most_captured captured then Some RecordTooLong else missing captured room size

-- the header of a whole record, once its own bytes were judged
abbrev pub found_by : ℕ → Result (Option RecordHeader) CaptureFault → List ℕ → Result (Option RecordHeader) CaptureFault
found_by room (Err why) bytes = Err why
found_by room (Ok None) bytes = Ok None
found_by room (Ok (Some header)) bytes = unless_faulty (body_fault header.captured (room - 16) (length bytes - 16)) (Some header)

-- The header of the whole record that begins here, if `room` bytes count; none at the input's end; or what is wrong. First the header's bytes
-- are needed, then its captured length is judged, then the captured bytes are needed.
abbrev pub found_in : Order → ℕ → List ℕ → Result (Option RecordHeader) CaptureFault
found_in order room bytes = found_by room (header_in order room bytes) bytes

-- This many captured bytes are pending, or they are more than a record may have.
abbrev pub holds_body : ℕ → ℕ → Bool
holds_body captured size = nat_lt most_captured captured || nat_le captured size

-- the same by a record's header, after which `size` bytes are pending; a fault of the header needs no further byte
abbrev pub holds_after : ℕ → Result (Option RecordHeader) CaptureFault → Bool
holds_after size (Ok (Some header)) = holds_body header.captured size
holds_after size (Ok None) = true
holds_after size (Err why) = true

-- The bytes that are pending settle what comes next, if `room` bytes count: a record is whole, or its header shows what
-- is wrong.
abbrev pub is_record_settled : Order → ℕ → List ℕ → Bool
is_record_settled order room pending = nat_le 16 (length pending) && holds_after (length pending - 16) (header_in order room pending)

-- some bytes from a place on
abbrev pub bytes_at : ℕ → ℕ → List ℕ → List ℕ
bytes_at place count bytes = take count (drop place bytes)

-- the record with this number, header and bytes
abbrev pub entry_with : Format → ℕ → RecordHeader → List ℕ → RecordParts
entry_with format number header bytes = record {
  number = number;
  seconds = header.seconds;
  fraction = header.fraction;
  nanos = format.nanos;
  link = format.link;
  original = header.original;
  bytes = bytes;
}

-- the record of a header that was found, under its number
abbrev pub next_by : Format → ℕ → Result (Option RecordHeader) CaptureFault → List ℕ → Result (Option RecordParts) CaptureFault
next_by format number (Err why) bytes = Err why
next_by format number (Ok None) bytes = Ok None
next_by format number (Ok (Some header)) bytes = Ok (Some (entry_with format number header (take header.captured (drop 16 bytes))))

-- what comes next after `number` records and `given` bytes of the input
abbrev pub next_of : Format → ℕ → ℕ → List ℕ → Result (Option RecordParts) CaptureFault
next_of format number given bytes = next_by format (number + 1) (found_in format.order (most_bytes - given) bytes) bytes

-- The records of a capture, and the fault that ended it, if any.
pub record CaptureContents : Type 0 where
  pub records : List RecordParts
  pub end : Option CaptureFault

-- one record before others
abbrev pub before : RecordParts → CaptureContents → CaptureContents
before entry others = record { records = entry ∷ others.records; end = others.end }

-- what comes next, and then what follows, by the number of bytes that the record takes
abbrev pub onward : Result (Option RecordParts) CaptureFault → (ℕ → CaptureContents) → CaptureContents
onward (Ok None) following = record { records = []; end = None }
onward (Err why) following = record { records = []; end = Some why }
onward (Ok (Some entry)) following = before entry (following (16 + length entry.bytes))

-- the records after `number` records and `given` bytes; the first `skip` bytes belong to the record before
abbrev pub records_from : Format → ℕ → ℕ → ℕ → List ℕ → CaptureContents
records_from format skip number given [] = record { records = []; end = None }
records_from format (suc skip) number given (byte ∷ bytes) = records_from format skip number given bytes
records_from format zero number given (byte ∷ bytes) =
    onward (next_of format number given (byte ∷ bytes)) (λ used. records_from format (used - 1) (number + 1) (given + used) bytes)

-- the records after a file header that was read, or its fault
abbrev pub captured_by : Result Format CaptureFault → List ℕ → CaptureContents
captured_by (Err why) bytes = record { records = []; end = Some why }
captured_by (Ok format) bytes = records_from format 0 0 24 (drop 24 bytes)

-- the records of an input
abbrev pub captured : List ℕ → CaptureContents
captured bytes = captured_by (opened bytes) bytes
