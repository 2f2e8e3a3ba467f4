-- A capture that was written, read again: its file header, and each record after it.
use Rattle.std.proofs.Common.{arith, ◌≡◌, ◌≤◌, ◌<◌, ◌^◌, ℕ, ◌+◌, List, [], ◌∷◌, ◌++◌, length, length-append, append_assoc, None, Ok, refl, sym, ap, ◌∙◌, subst, Bool, true, false, nat_lt, drop}
use Rattle.std.specs.Prelude.{All, flat_map}
use Rattle.std.proofs.lemmas.Bool.{le-ltb}
use Rattle.std.proofs.lemmas.List.Elements.{All-head, All-tail}
use Rattle.byteorder.specs.Endian.{big_bytes, big_number}
use Rattle.byteorder.specs.Numbers.{big_number-reads_back}
use Rattle.capture_reader.specs.Capture.{HasRecords, IsRecord, Opened, captured_length}
use Rattle.capture_reader.specs.Format.{opened}
use Rattle.capture_reader.specs.Records.{captured}
use Rattle.capture_reader.specs.declared.format.Format.{Format}
use Rattle.capture_reader.specs.declared.format.Order.TheVariants.{Big}
use Rattle.capture_reader.proofs.Capture.{capture-read}
use Rattle.bridge_records.specs.Writing.{FitsHeader, RawRecord, capture_of, entry_as, file_header, header_for, raw_entries, raw_entry, raw_record, record_head}

-- what the file header says
abbrev written_format : Bool → Format
written_format nanos = record { order = Big; nanos = nanos; link = 101 }

header-opened : (nanos : Bool) (rest : List ℕ) → opened (file_header nanos ++ rest) ≡ Ok (written_format nanos)
header-opened true rest =
    let there : nat_lt (length (file_header true ++ rest)) 24 ≡ false =
    le-ltb (length (file_header true ++ rest)) 24 (rw (length-append (file_header true) rest) (omega arith)) in
    rw there refl
header-opened false rest =
    let there : nat_lt (length (file_header false ++ rest)) 24 ≡ false =
    le-ltb (length (file_header false ++ rest)) 24 (rw (length-append (file_header false) rest) (omega arith)) in
    rw there refl

-- a record, in front of what follows
record-there : (nanos : Bool) (number given : ℕ) (r : RawRecord) (rest : List ℕ) → FitsHeader r → given + (16 + length r.bytes) ≤ 2 ^ 32
    → IsRecord (written_format nanos) number given (raw_entry nanos (number + 1) r) rest (raw_record r ++ rest)
record-there nanos number given r rest fits room =
    let size = length r.bytes in
    let head = record_head (header_for r) in
    let bytes = raw_record r ++ rest in
    let following = r.bytes ++ rest in
    let small : size < 256 ^ 4 = omega (arith, fits.size) in
    let parts : bytes ≡ head ++ following = append_assoc head r.bytes rest in
    let seconds : big_number 4 (head ++ following) ≡ r.seconds =
    big_number-reads_back 4 r.seconds (big_bytes 4 r.fraction ++ big_bytes 4 size ++ big_bytes 4 r.original ++ following) fits.seconds in
    let fraction : big_number 4 (drop 4 (head ++ following)) ≡ r.fraction =
    big_number-reads_back 4 r.fraction (big_bytes 4 size ++ big_bytes 4 r.original ++ following) fits.fraction in
    let captured : big_number 4 (drop 8 (head ++ following)) ≡ size = big_number-reads_back 4 size (big_bytes 4 r.original ++ following) small in
    let original : big_number 4 (drop 12 (head ++ following)) ≡ r.original = big_number-reads_back 4 r.original following fits.original in
    record {
      header = head;
      body = r.bytes;
      whole = parts;
      header_length = refl;
      body_length = sym captured ∙ ap (λ (bs : List ℕ). captured_length (written_format nanos) bs) (sym parts);
      stands =
          ap (λ (s : ℕ). entry_as nanos (number + 1) s r.fraction r.original r.bytes) (sym seconds ∙ ap (λ (bs : List ℕ). big_number 4 bs) (sym parts))
          ∙ ap (λ (t : ℕ). entry_as nanos (number + 1) (big_number 4 bytes) t r.original r.bytes)
          (sym fraction ∙ ap (λ (bs : List ℕ). big_number 4 (drop 4 bs)) (sym parts))
          ∙ ap (λ (o : ℕ). entry_as nanos (number + 1) (big_number 4 bytes) (big_number 4 (drop 4 bytes)) o r.bytes)
          (sym original ∙ ap (λ (bs : List ℕ). big_number 4 (drop 12 bs)) (sym parts));
      fits = fits.size;
      counts = room;
    }

-- records in their order
have-all : (nanos : Bool) (number given : ℕ) (records : List RawRecord) → All FitsHeader records → given + length (flat_map raw_record records) ≤ 2 ^ 32
    → HasRecords (written_format nanos) number given (flat_map raw_record records) (raw_entries nanos number records) None
have-all nanos number given [] fits room = refl
have-all nanos number given (r ∷ records) fits room =
    let rest = flat_map raw_record records in
    let size = length-append (raw_record r) rest in
    let own = length-append (record_head (header_for r)) r.bytes in
    let whole : given + (16 + length r.bytes) + length rest ≤ 2 ^ 32 = omega (arith, room, size, own) in (
      rest,
      record-there nanos number given r rest (All-head FitsHeader r records fits) (omega (arith, whole)),
      have-all nanos (number + 1) (given + (16 + length r.bytes)) records (All-tail FitsHeader r records fits) whole,
    )

header-length : (nanos : Bool) → length (file_header nanos) ≡ 24
header-length true = refl
header-length false = refl

after-header : (nanos : Bool) (rest : List ℕ) → drop 24 (file_header nanos ++ rest) ≡ rest
after-header true rest = refl
after-header false rest = refl

pub records-read : (nanos : Bool) (records : List RawRecord) → All FitsHeader records → length (capture_of nanos records) ≤ 2 ^ 32
    → captured (capture_of nanos records) ≡ record { records = raw_entries nanos 0 records; end = None }
records-read nanos records fits room =
    let rest = flat_map raw_record records in
    let size = length-append (file_header nanos) rest in
    let long = header-length nanos in
    capture-read (capture_of nanos records) (raw_entries nanos 0 records) None
    (Opened (written_format nanos) (header-opened nanos rest)
    (subst (λ (bs : List ℕ). HasRecords (written_format nanos) 0 24 bs (raw_entries nanos 0 records) None) (sym (after-header nanos rest))
    (have-all nanos 0 24 records fits (omega (arith, room, size, long)))))
