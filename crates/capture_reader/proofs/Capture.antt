-- The definition of a capture's records meets the relation, and nothing else does.
use Rattle.std.proofs.Common.{arith, ◌≡◌, ◌≤◌, ◌<◌, ℕ, zero, suc, ◌+◌, ◌-◌, List, [], ◌∷◌, ◌++◌, length, length-append, take, drop, Option, Some, None, Result, Ok, Err, refl, sym, ap, ◌∙◌, subst, inl, inr, ⊎_elim, true, false, nat_lt, ◌==◌, min}
use Rattle.std.proofs.lemmas.Bool.{le-ltb, lt-ltb}
use Rattle.std.proofs.lemmas.Grind.{common_steps}
use Rattle.std.proofs.lemmas.Bool.{cases_lt}
use Rattle.std.proofs.lemmas.List.{take-append-drop, drop-drop, length-drop, length-take-le, take_at, drop_at}
use Rattle.capture_reader.specs.declared.fault.CaptureFault.{CaptureFault}
use Rattle.capture_reader.specs.declared.fault.CaptureFault.TheVariants.{BadMagic, BadVersion, BadLink, CutShort, RecordTooLong, ReadFault, NoMemory, TooLarge}
use Rattle.capture_reader.specs.declared.format.Format.{Format}
use Rattle.capture_reader.specs.declared.record.RecordHeader.{RecordHeader}
use Rattle.capture_reader.specs.Format.{opened}
use Rattle.capture_reader.specs.Records.{RecordParts, most_bytes, most_captured, missing, record_header, header_in, body_fault, found_by, entry_with, next_by, next_of, CaptureContents, before, onward, records_from, captured_by, captured, unless_faulty}
use Rattle.capture_reader.specs.Capture.{captured_length, IsRecord, HasHeader, IsWrong, HasRecords, IsCapture, Refused, Opened}

-- what is missing, by its three cases
missing-cut : (count room size : ℕ) → size < count → size < room → missing count room size ≡ Some CutShort
missing-cut count room size short counts =
    let test : nat_lt size (min count room) ≡ true = lt-ltb size (min count room) (omega (arith, short, counts)) in rw test refl

missing-large : (count room size : ℕ) → room < count → room ≤ size → missing count room size ≡ Some TooLarge
missing-large count room size large there =
    let test : nat_lt size (min count room) ≡ false = le-ltb size (min count room) (omega (arith, large, there)) in
    let more : nat_lt room count ≡ true = lt-ltb room count large in rw (test, more) refl

missing-none : (count room size : ℕ) → count ≤ size → count ≤ room → missing count room size ≡ None
missing-none count room size there counts =
    let test : nat_lt size (min count room) ≡ false = le-ltb size (min count room) (omega (arith, there, counts)) in
    let more : nat_lt room count ≡ false = le-ltb room count counts in rw (test, more) refl

some-bytes : (bytes : List ℕ) → 0 < length bytes → (length bytes == 0) ≡ false
some-bytes bytes some = grind (arith, common_steps)

-- what the header's bytes come to
header-wrong : (format : Format) (number given : ℕ) (bytes : List ℕ) (why : CaptureFault) → 0 < length bytes
    → missing 16 (most_bytes - given) (length bytes) ≡ Some why → next_of format number given bytes ≡ Err why
header-wrong format number given bytes why some wrong =
    let test : (length bytes == 0) ≡ false = some-bytes bytes some in
    let here : header_in format.order (most_bytes - given) bytes ≡ Err why = rw (test, wrong) refl in
    ap (λ (h : Result (Option RecordHeader) CaptureFault). next_by format (number + 1) (found_by (most_bytes - given) h bytes) bytes) here

header-there : (format : Format) (given : ℕ) (bytes : List ℕ) → HasHeader given bytes
    → header_in format.order (most_bytes - given) bytes ≡ Ok (Some (record_header format.order bytes))
header-there format given bytes there =
    let test : (length bytes == 0) ≡ false = some-bytes bytes (omega (arith, there.0)) in
    let none : missing 16 (most_bytes - given) (length bytes) ≡ None = missing-none 16 (most_bytes - given) (length bytes) there.0 (omega (arith, there.1)) in
    rw (test, none) refl

-- what the captured bytes come to
body-told : (format : Format) (number given : ℕ) (bytes : List ℕ) (wrong : Option CaptureFault) → HasHeader given bytes
    → body_fault (captured_length format bytes) (most_bytes - given - 16) (length bytes - 16) ≡ wrong
    → next_of format number given bytes ≡ next_by format (number + 1) (unless_faulty wrong (Some (record_header format.order bytes))) bytes
body-told format number given bytes wrong there is =
    ap (λ (h : Result (Option RecordHeader) CaptureFault). next_by format (number + 1) (found_by (most_bytes - given) h bytes) bytes)
    (header-there format given bytes there)
    ∙ ap (λ (w : Option CaptureFault). next_by format (number + 1) (unless_faulty w (Some (record_header format.order bytes))) bytes) is

body-long : (captured room size : ℕ) → most_captured < captured → body_fault captured room size ≡ Some RecordTooLong
body-long captured room size long = let test : nat_lt most_captured captured ≡ true = lt-ltb most_captured captured long in rw test refl

body-fits : (captured room size : ℕ) (wrong : Option CaptureFault) → captured ≤ most_captured → missing captured room size ≡ wrong
    → body_fault captured room size ≡ wrong
body-fits captured room size wrong fits is = let test : nat_lt most_captured captured ≡ false = le-ltb most_captured captured fits in rw test is

-- what is wrong by the relation is what is read
pub wrong-read : (format : Format) (number given : ℕ) (bytes : List ℕ) (why : CaptureFault) → 0 < length bytes → given ≤ most_bytes
    → IsWrong format given bytes why → next_of format number given bytes ≡ Err why
wrong-read format number given bytes CutShort some within (inl cut) =
    header-wrong format number given bytes CutShort some (missing-cut 16 (most_bytes - given) (length bytes) cut.0 (omega (arith, cut.1)))
wrong-read format number given bytes CutShort some within (inr (there, fits, cut)) =
    body-told format number given bytes (Some CutShort) there
    (body-fits (captured_length format bytes) (most_bytes - given - 16) (length bytes - 16) (Some CutShort) fits
    (missing-cut (captured_length format bytes) (most_bytes - given - 16) (length bytes - 16) (omega (arith, cut.0, there.0))
    (omega (arith, cut.1, there.0, there.1))))
wrong-read format number given bytes RecordTooLong some within wrong =
    body-told format number given bytes (Some RecordTooLong) wrong.0
    (body-long (captured_length format bytes) (most_bytes - given - 16) (length bytes - 16) wrong.1)
wrong-read format number given bytes TooLarge some within (inl large) =
    header-wrong format number given bytes TooLarge some
    (missing-large 16 (most_bytes - given) (length bytes) (omega (arith, large.0, within)) (omega (arith, large.1)))
wrong-read format number given bytes TooLarge some within (inr (there, fits, large)) =
    body-told format number given bytes (Some TooLarge) there
    (body-fits (captured_length format bytes) (most_bytes - given - 16) (length bytes - 16) (Some TooLarge) fits
    (missing-large (captured_length format bytes) (most_bytes - given - 16) (length bytes - 16) (omega (arith, large.0, there.1))
    (omega (arith, large.1, there.0, there.1))))
wrong-read format number given bytes BadMagic some within wrong = absurd wrong
wrong-read format number given bytes BadVersion some within wrong = absurd wrong
wrong-read format number given bytes BadLink some within wrong = absurd wrong
wrong-read format number given bytes ReadFault some within wrong = absurd wrong
wrong-read format number given bytes NoMemory some within wrong = absurd wrong

-- a record by the relation is what is read, and what is after it is left
record-length : (format : Format) (number given : ℕ) (entry : RecordParts) (rest bytes : List ℕ) (r : IsRecord format number given entry rest bytes)
    → length bytes ≡ 16 + (length r.body + length rest)
record-length format number given entry rest bytes r =
    ap (λ (xs : List ℕ). length xs) r.whole ∙ rw (length-append r.header (r.body ++ rest), length-append r.body rest, r.header_length) refl

pub record-after : (format : Format) (number given : ℕ) (entry : RecordParts) (rest bytes : List ℕ) → IsRecord format number given entry rest bytes
    → drop (16 + length entry.bytes) bytes ≡ rest
record-after format number given entry rest bytes r =
    let size : length entry.bytes ≡ length r.body = ap (λ (e : RecordParts). length e.bytes) r.stands in
    ap (λ (n : ℕ). drop (16 + n) bytes) size ∙ sym (drop-drop (length r.body) 16 bytes)
    ∙ ap (λ (xs : List ℕ). drop (length r.body) (drop 16 xs)) r.whole
    ∙ ap (drop (length r.body)) (drop_at r.header (r.body ++ rest) 16 r.header_length) ∙ drop_at r.body rest (length r.body) refl

pub record-read : (format : Format) (number given : ℕ) (entry : RecordParts) (rest bytes : List ℕ) → IsRecord format number given entry rest bytes
    → next_of format number given bytes ≡ Ok (Some entry)
record-read format number given entry rest bytes r =
    let size = record-length format number given entry rest bytes r in
    let there : HasHeader given bytes = (omega (arith, size), omega (arith, r.counts)) in
    let none : missing (captured_length format bytes) (most_bytes - given - 16) (length bytes - 16) ≡ None =
    missing-none (captured_length format bytes) (most_bytes - given - 16) (length bytes - 16) (omega (arith, size, r.body_length))
    (omega (arith, r.counts, r.body_length)) in
    let read = body-told format number given bytes None there
    (body-fits (captured_length format bytes) (most_bytes - given - 16) (length bytes - 16) None (omega (arith, r.fits, r.body_length)) none) in
    let body : take (captured_length format bytes) (drop 16 bytes) ≡ r.body =
    ap (λ (xs : List ℕ). take (captured_length format bytes) (drop 16 xs)) r.whole
    ∙ ap (take (captured_length format bytes)) (drop_at r.header (r.body ++ rest) 16 r.header_length)
    ∙ take_at r.body rest (captured_length format bytes) r.body_length in
    read ∙ ap (λ (text : List ℕ). Ok (Some (entry_with format (number + 1) (record_header format.order bytes) text))) body
    ∙ ap (λ (e : RecordParts). Ok (Some e)) (sym r.stands)

-- what comes next, by the relation
pub data Stands (format : Format) (number given : ℕ) (bytes : List ℕ) : Type 0 where
  IsWrongHere : (why : CaptureFault) → IsWrong format given bytes why → Stands format number given bytes
  IsRecordHere : (entry : RecordParts) (rest : List ℕ) → IsRecord format number given entry rest bytes → Stands format number given bytes

record-here : (format : Format) (number given : ℕ) (bytes : List ℕ) → 16 + captured_length format bytes ≤ length bytes
    → captured_length format bytes ≤ most_captured
    → given + (16 + captured_length format bytes) ≤ most_bytes → Stands format number given bytes
record-here format number given bytes there fits counts =
    let count = captured_length format bytes in
    let body = take count (drop 16 bytes) in
    let size : length body ≡ count = length-take-le count (drop 16 bytes) (rw (length-drop 16 bytes) (omega (arith, there))) in
    IsRecordHere (entry_with format (number + 1) (record_header format.order bytes) body) (drop count (drop 16 bytes)) (record {
      header = take 16 bytes;
      body = body;
      whole = sym (take-append-drop 16 bytes) ∙ ap (λ (xs : List ℕ). take 16 bytes ++ xs) (sym (take-append-drop count (drop 16 bytes)));
      header_length = length-take-le 16 bytes (omega (arith, there));
      body_length = size;
      stands = refl;
      fits = rw size fits;
      counts = rw size counts;
    })

body-here : (format : Format) (number given : ℕ) (bytes : List ℕ) → HasHeader given bytes → captured_length format bytes ≤ most_captured
    → Stands format number given bytes
body-here format number given bytes there fits =
    let count = captured_length format bytes in
    ⊎_elim
    (λ (short : length bytes < 16 + count). ⊎_elim
    (λ (ends : given + length bytes < most_bytes). IsWrongHere CutShort (inr (there, fits, (short, ends))))
    (λ (goes : most_bytes ≤ given + length bytes). IsWrongHere TooLarge (inr (there, fits, (omega (arith, short, goes), goes))))
    (cases_lt (given + length bytes) most_bytes))
    (λ (whole : 16 + count ≤ length bytes). ⊎_elim
    (λ (past : most_bytes < given + (16 + count)). IsWrongHere TooLarge (inr (there, fits, (past, omega (arith, past, whole)))))
    (λ (counts : given + (16 + count) ≤ most_bytes). record-here format number given bytes whole fits counts)
    (cases_lt most_bytes (given + (16 + count))))
    (cases_lt (length bytes) (16 + count))

pub stands-here : (format : Format) (number given : ℕ) (bytes : List ℕ) → Stands format number given bytes
stands-here format number given bytes =
    ⊎_elim
    (λ (short : length bytes < 16). ⊎_elim
    (λ (ends : given + length bytes < most_bytes). IsWrongHere CutShort (inl (short, ends)))
    (λ (goes : most_bytes ≤ given + length bytes). IsWrongHere TooLarge (inl (omega (arith, short, goes), goes)))
    (cases_lt (given + length bytes) most_bytes))
    (λ (there : 16 ≤ length bytes). ⊎_elim
    (λ (past : most_bytes < given + 16). IsWrongHere TooLarge (inl (past, omega (arith, past, there))))
    (λ (counts : given + 16 ≤ most_bytes). ⊎_elim
    (λ (long : most_captured < captured_length format bytes). IsWrongHere RecordTooLong ((there, counts), long))
    (λ (fits : captured_length format bytes ≤ most_captured). body-here format number given bytes (there, counts) fits)
    (cases_lt most_captured (captured_length format bytes)))
    (cases_lt most_bytes (given + 16)))
    (cases_lt (length bytes) 16)

-- the first bytes that belong to the record before
skipped : (format : Format) (number given skip : ℕ) (bytes : List ℕ)
    → records_from format skip number given bytes ≡ records_from format 0 number given (drop skip bytes)
skipped format number given zero bytes = refl
skipped format number given (suc skip) [] = refl
skipped format number given (suc skip) (byte ∷ bytes) = skipped format number given skip bytes

-- the records, by what comes next
pub records-wrong : (format : Format) (number given : ℕ) (bytes : List ℕ) (why : CaptureFault) → 0 < length bytes → next_of format number given bytes ≡ Err why
    → records_from format 0 number given bytes ≡ record { records = []; end = Some why }
records-wrong format number given [] why some read = absurd (omega (arith, some))
records-wrong format number given (byte ∷ bytes) why some read =
    ap (λ (next : Result (Option RecordParts) CaptureFault). onward next (λ used. records_from format (used - 1) (number + 1) (given + used) bytes)) read

pub records-next : (format : Format) (number given : ℕ) (bytes : List ℕ) (entry : RecordParts) → 0 < length bytes
    → next_of format number given bytes ≡ Ok (Some entry)
    → records_from format 0 number given bytes
    ≡ before entry (records_from format 0 (number + 1) (given + (16 + length entry.bytes)) (drop (16 + length entry.bytes) bytes))
records-next format number given [] entry some read = absurd (omega (arith, some))
records-next format number given (byte ∷ bytes) entry some read =
    let used = 16 + length entry.bytes in
    let one : used ≡ suc (15 + length entry.bytes) = omega arith in
    let less : used - 1 ≡ 15 + length entry.bytes = omega arith in
    let following : drop (used - 1) bytes ≡ drop used (byte ∷ bytes) = ap (λ (n : ℕ). drop n bytes) less ∙ sym (ap (λ (n : ℕ). drop n (byte ∷ bytes)) one) in
    ap (λ (next : Result (Option RecordParts) CaptureFault). onward next (λ u. records_from format (u - 1) (number + 1) (given + u) bytes)) read
    ∙ ap (before entry) (skipped format (number + 1) (given + used) (used - 1) bytes ∙ ap (records_from format 0 (number + 1) (given + used)) following)

has-by : (format : Format) (number given : ℕ) (bytes : List ℕ) → 0 < length bytes → given ≤ most_bytes
    → ((n g : ℕ) (rest : List ℕ) → length rest < length bytes → g ≤ most_bytes
    → HasRecords format n g rest (records_from format 0 n g rest).records (records_from format 0 n g rest).end)
    → Stands format number given bytes
    → HasRecords format number given bytes (records_from format 0 number given bytes).records (records_from format 0 number given bytes).end
has-by format number given bytes some within others (IsWrongHere why wrong) =
    subst (λ (c : CaptureContents). HasRecords format number given bytes c.records c.end)
    (sym (records-wrong format number given bytes why some (wrong-read format number given bytes why some within wrong)))
    (some, wrong)
has-by format number given bytes some within others (IsRecordHere entry rest r) =
    let size : length entry.bytes ≡ length r.body = ap (λ (e : RecordParts). length e.bytes) r.stands in
    let shorter : length rest < length bytes = rw (record-length format number given entry rest bytes r) (omega arith) in
    let counts : given + (16 + length entry.bytes) ≤ most_bytes = rw size r.counts in
    let more = others (number + 1) (given + (16 + length entry.bytes)) rest shorter counts in
    let following : records_from format 0 (number + 1) (given + (16 + length entry.bytes)) (drop (16 + length entry.bytes) bytes)
    ≡ records_from format 0 (number + 1) (given + (16 + length entry.bytes)) rest =
    ap (records_from format 0 (number + 1) (given + (16 + length entry.bytes))) (record-after format number given entry rest bytes r) in
    subst (λ (c : CaptureContents). HasRecords format number given bytes c.records c.end)
    (sym (records-next format number given bytes entry some (record-read format number given entry rest bytes r) ∙ ap (before entry) following))
    (rest, r, more)

-- the definition's records meet the relation
pub has-records : (fuel : ℕ) (format : Format) (number given : ℕ) (bytes : List ℕ) → length bytes ≤ fuel → given ≤ most_bytes
    → HasRecords format number given bytes (records_from format 0 number given bytes).records (records_from format 0 number given bytes).end
has-records fuel format number given [] enough within = refl
has-records zero format number given (byte ∷ bytes) enough within = absurd (omega (arith, enough))
has-records (suc fuel) format number given (byte ∷ bytes) enough within =
    has-by format number given (byte ∷ bytes) (omega arith) within
    (λ n g rest shorter fits. has-records fuel format n g rest (omega (arith, shorter, enough)) fits)
    (stands-here format number given (byte ∷ bytes))

-- records that meet the relation are the definition's
pub same-records : (records : List RecordParts) (format : Format) (number given : ℕ) (bytes : List ℕ) (end : Option CaptureFault) → given ≤ most_bytes
    → HasRecords format number given bytes records end → records_from format 0 number given bytes ≡ record { records = records; end = end }
same-records [] format number given bytes None within none =
    ap (records_from format 0 number given) none
same-records [] format number given bytes (Some why) within (some, wrong) =
    records-wrong format number given bytes why some (wrong-read format number given bytes why some within wrong)
same-records (entry ∷ entries) format number given bytes end within (rest, r, more) =
    let size : length entry.bytes ≡ length r.body = ap (λ (e : RecordParts). length e.bytes) r.stands in
    let some : 0 < length bytes = rw (record-length format number given entry rest bytes r) (omega arith) in
    let counts : given + (16 + length entry.bytes) ≤ most_bytes = rw size r.counts in
    records-next format number given bytes entry some (record-read format number given entry rest bytes r)
    ∙ ap (before entry)
    (ap (records_from format 0 (number + 1) (given + (16 + length entry.bytes))) (record-after format number given entry rest bytes r)
    ∙ same-records entries format (number + 1) (given + (16 + length entry.bytes)) rest end counts more)

-- records and an end, of their two parts
abbrev both : List RecordParts → Option CaptureFault → CaptureContents
both records end = record { records = records; end = end }

pub capture-read : (bytes : List ℕ) (records : List RecordParts) (end : Option CaptureFault) → IsCapture bytes records end
    → captured bytes ≡ record { records = records; end = end }
capture-read bytes records end (Refused why told none ends) =
    ap (λ (o : Result Format CaptureFault). captured_by o bytes) told
    ∙ ap (λ (rs : List RecordParts). both rs (Some why)) (sym none) ∙ ap (both records) (sym ends)
capture-read bytes records end (Opened format told has) =
    ap (λ (o : Result Format CaptureFault). captured_by o bytes) told ∙ same-records records format 0 24 (drop 24 bytes) end (omega arith) has

capture-by : (bytes : List ℕ) (told : Result Format CaptureFault) → opened bytes ≡ told
    → IsCapture bytes (captured_by told bytes).records (captured_by told bytes).end
capture-by bytes (Err why) told = Refused why told refl refl
capture-by bytes (Ok format) told = Opened format told (has-records (length (drop 24 bytes)) format 0 24 (drop 24 bytes) (omega arith) (omega arith))

pub read-capture : (bytes : List ℕ) (records : List RecordParts) (end : Option CaptureFault) → captured bytes ≡ record { records = records; end = end }
    → IsCapture bytes records end
read-capture bytes records end is = subst (λ (c : CaptureContents). IsCapture bytes c.records c.end) is (capture-by bytes (opened bytes) refl)
