-- The bytes of a classic capture of link type 101 (the savefile format of libpcap), the most significant first.
use Rattle.std.specs.Prelude.{ℕ, ◌+◌, ◌<◌, ◌≤◌, ◌^◌, Bool, if◌then◌else◌, List, [], ◌∷◌, ◌++◌, length, flat_map}
use Rattle.byteorder.specs.Endian.{big_bytes}
use Rattle.capture_reader.specs.Format.{microseconds, nanoseconds}
use Rattle.capture_reader.specs.Records.{RecordParts}
use Rattle.capture_reader.specs.declared.record.RecordHeader.{RecordHeader}

-- the magic number for nanoseconds or microseconds
abbrev pub magic : Bool → ℕ
magic nanos = if nanos then nanoseconds else microseconds

-- the file header: the magic number, version 2.4, no zone and no accuracy, records of up to 262,144 bytes, and raw IP
abbrev pub file_header : Bool → List ℕ
file_header nanos = big_bytes 4 (magic nanos) ++ (0 ∷ 2 ∷ 0 ∷ 4 ∷ []) ++ big_bytes 4 0 ++ big_bytes 4 0 ++ big_bytes 4 262144 ++ big_bytes 4 101

-- a record's header: seconds, fraction, the captured length, and the packet's own
abbrev pub record_head : RecordHeader → List ℕ
record_head h = big_bytes 4 h.seconds ++ big_bytes 4 h.fraction ++ big_bytes 4 h.captured ++ big_bytes 4 h.original

-- A record of raw IP: its time, the length that the packet had, and the bytes that were captured.
pub record RawRecord : Type 0 where
  pub seconds : ℕ
  pub fraction : ℕ
  pub original : ℕ
  pub bytes : List ℕ

-- what the header of a record says
abbrev pub header_for : RawRecord → RecordHeader
header_for r = record { seconds = r.seconds; fraction = r.fraction; captured = length r.bytes; original = r.original }

-- a record as it is written
abbrev pub raw_record : RawRecord → List ℕ
raw_record r = record_head (header_for r) ++ r.bytes

-- the capture of these records
abbrev pub capture_of : Bool → List RawRecord → List ℕ
capture_of nanos records = file_header nanos ++ flat_map raw_record records

-- a record with numbers of 32 bits and at most 262,144 bytes
pub record FitsHeader (r : RawRecord) : Type 0 where
  pub seconds : r.seconds < 2 ^ 32
  pub fraction : r.fraction < 2 ^ 32
  pub original : r.original < 2 ^ 32
  pub size : length r.bytes ≤ 262144

-- a record of raw IP, as a reader gives it
abbrev pub entry_as : Bool → ℕ → ℕ → ℕ → ℕ → List ℕ → RecordParts
entry_as nanos number seconds fraction original bytes = record {
  number = number;
  seconds = seconds;
  fraction = fraction;
  nanos = nanos;
  link = 101;
  original = original;
  bytes = bytes;
}

-- a record of raw IP under its number, as a reader gives it
abbrev pub raw_entry : Bool → ℕ → RawRecord → RecordParts
raw_entry nanos number r = entry_as nanos number r.seconds r.fraction r.original r.bytes

-- records in their order, the first after this many others
abbrev pub raw_entries : Bool → ℕ → List RawRecord → List RecordParts
raw_entries nanos number [] = []
raw_entries nanos number (r ∷ records) = raw_entry nanos (number + 1) r ∷ raw_entries nanos (number + 1) records
