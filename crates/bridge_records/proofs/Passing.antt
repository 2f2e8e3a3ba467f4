-- The records that a reader of captures finds are handed to a job, one by one.
use Rattle.std.proofs.Common.{arith, ◌≡◌, refl, sym, ap, ◌∙◌, subst, ℕ, ◌+◌, ◌-◌, ◌≤◌, ◌^◌, ◌==◌, List, [], ◌∷◌, ◌++◌, length, length-append, take, drop, Bool, true, false, nat_lt, if◌then◌else◌, Option, None, Result, Ok}
use Rattle.std.proofs.lemmas.Bool.{le-ltb}
use Rattle.std.proofs.lemmas.Bool.Decides.{nat_tests}
use Rattle.std.proofs.lemmas.List.{drop-append-le, drop_at, length-drop, take_all, take_at}
use Rattle.byteorder.specs.Endian.{big_from, little_from}
use Rattle.byteorder.specs.Numbers.{big_from-take, little_from-take}
use Rattle.capture_reader.specs.Capture.{HasRecords, IsCapture, IsRecord, Opened, Refused}
use Rattle.capture_reader.specs.Format.{opened, ordered_number_at}
use Rattle.capture_reader.specs.Records.{RecordParts, captured, record_header}
use Rattle.capture_reader.specs.declared.fault.CaptureFault.{CaptureFault}
use Rattle.capture_reader.specs.declared.fault.FormatFault.{FormatFault}
use Rattle.capture_reader.specs.declared.format.Format.{Format}
use Rattle.capture_reader.specs.declared.format.Order.{Order}
use Rattle.capture_reader.specs.declared.format.Order.TheVariants.{Big, Little}
use Rattle.capture_reader.proofs.Capture.{read-capture}
use Rattle.capture_reader.specs.declared.record.RecordHeader.{RecordHeader}
use Rattle.tool_text.specs.Jobs.{deeds_of}
use Rattle.bridge_records.specs.Pieces.{Goes, GoesThroughPieces, Judgement, PieceNext, PieceWork, PiecesResult, by_next_piece, in_front, pieces_from, taken_by}
use Rattle.bridge_records.proofs.Along.{piece-there}
use Rattle.bridge_records.proofs.FirstPiece.{pieces-cut}
use Rattle.bridge_records.specs.declared.pieces.fault.PieceFault.{PieceFault}
use Rattle.tool_text.specs.declared.output.status.JobEnd.{JobEnd}
use Rattle.dccp_io.specs.Counts.{one_more}
use Rattle.bridge_records.specs.Blocks.{section_block, section_order}
use Rattle.bridge_records.specs.Links.{classic_format}
use Rattle.bridge_records.specs.Skips.{no_skips}
use Rattle.bridge_records.specs.declared.skips.Skips.{Skips}
use Rattle.bridge_records.specs.Reading.{FileState, by_format, by_header, by_section, by_start, first_file}
use Rattle.bridge_records.specs.Recording.{GoesOverRecords, RecordWork, RecordsState, by_judged, first_reading, numbered_entry, reading_at, records_of, records_work, refusal_after}
use Rattle.bridge_records.specs.declared.pieces.loops.PiecesEnd.{PiecesEnd}
use Rattle.bridge_records.specs.declared.recording.CaptureRefusal.{CaptureRefusal}
use Rattle.bridge_records.specs.declared.recording.RecordsEnd.{RecordsEnd}
use Rattle.bridge_records.specs.declared.reading.FilePlace.{FilePlace}
use Rattle.bridge_records.specs.declared.reading.FilePlace.TheVariants as place
use Rattle.bridge_records.proofs.Opening.{IsTaken, header-taken}

-- what a job does with these records, one after the other
abbrev pub deeds_along : {P V : Type 0} → RecordWork P V → V → List RecordParts → List P
deeds_along work job [] = []
deeds_along work job (entry ∷ entries) = deeds_of (work.passed job entry).deed ++ deeds_along work (work.passed job entry).next entries

-- what it does with a capture of them, whose fractions are nanoseconds or microseconds
abbrev pub deeds_from : {P V : Type 0} → RecordWork P V → V → Bool → List RecordParts → List P
deeds_from work first nanos entries = deeds_of (work.begun first nanos).deed ++ deeds_along work (work.begun first nanos).next entries

-- where a job begins may be said otherwise
module _ {P V : Type 0} (job : PieceWork P V) where
  pub goes-alike : (first begun : V) (input : List ℕ) (result : PiecesEnd) (last : V) (left before after : Option (List ℕ)) → begun ≡ first
      → GoesThroughPieces job begun input result last left before after → GoesThroughPieces job first input result last left before after
  goes-alike first begun input result last left before after same goes =
      subst (λ (state : V). GoesThroughPieces job state input result last left before after) same goes

-- where a job over records begins may be said otherwise
module _ {P V : Type 0} (work : RecordWork P V) where
  pub goes-over-alike : (first begun : V) (input : List ℕ) (result : RecordsEnd) (left before after : Option (List ℕ)) → begun ≡ first
      → GoesOverRecords work begun input result left before after → GoesOverRecords work first input result left before after
  goes-over-alike first begun input result left before after same goes =
      subst (λ (state : V). GoesOverRecords work state input result left before after) same goes

  -- the pieces of a capture were read, and so were its records
  pub goes-over : (first : V) (input : List ℕ) (end : JobEnd) (fault : Option PieceFault) (last : RecordsState V) (refusal : Option CaptureRefusal)
      (skips : Skips) (left before after : Option (List ℕ))
      → GoesThroughPieces (records_work work) (first_reading first) input (record { end = end; fault = fault }) last left before after
      → refusal ≡ refusal_after last.records fault → skips ≡ last.file.skips
      → GoesOverRecords work first input (record { end = end; refusal = refusal; skips = skips }) left before after
  goes-over first input end fault last refusal skips left before after goes is skipped = record {
    answers = goes.answers;
    past = goes.past;
    refused = λ answered. is ∙ ap (λ (s : RecordsState V). refusal_after s.records fault) (goes.last_is answered)
        ∙ ap (refusal_after (records_of work first input).last.records) (goes.refused answered);
    skipped = λ answered. skipped ∙ ap (λ (s : RecordsState V). s.file.skips) (goes.last_is answered);
  }

-- a number at the beginning of bytes
big-front : (count : ℕ) (front rest : List ℕ) → count ≤ length front → big_from 0 count (front ++ rest) ≡ big_from 0 count front
big-front count front rest fits = sym (big_from-take 0 count (length front) (front ++ rest) (omega (arith, fits)))
    ∙ ap (big_from 0 count) (take_at front rest (length front) refl)

little-front : (count : ℕ) (front rest : List ℕ) → count ≤ length front → little_from 0 count (front ++ rest) ≡ little_from 0 count front
little-front count front rest fits = sym (little_from-take 0 count (length front) (front ++ rest) (omega (arith, fits)))
    ∙ ap (little_from 0 count) (take_at front rest (length front) refl)

number-front : (order : Order) (at count : ℕ) (front rest : List ℕ) → at + count ≤ length front
    → ordered_number_at order at count (front ++ rest) ≡ ordered_number_at order at count front
number-front Big at count front rest fits =
    ap (big_from 0 count) (drop-append-le at front rest (omega (arith, fits)))
    ∙ big-front count (drop at front) rest (let size = length-drop at front in omega (arith, size, fits))
number-front Little at count front rest fits =
    ap (little_from 0 count) (drop-append-le at front rest (omega (arith, fits)))
    ∙ little-front count (drop at front) rest (let size = length-drop at front in omega (arith, size, fits))

-- no capture has this many records that their count would stay
few-more : (number given : ℕ) → number ≤ given → given ≤ 2 ^ 32 → one_more number ≡ number + 1
few-more number given few counts =
    let test : nat_lt number (2 ^ 64 - 1) ≡ true = grind (arith, nat_tests) in
    rw test refl

-- a header with these numbers
abbrev head-of : ℕ → ℕ → ℕ → ℕ → RecordHeader
head-of seconds fraction captured original = record { seconds = seconds; fraction = fraction; captured = captured; original = original }

-- the result of pieces that are these records, each handed to the job, and nothing is refused
record ArePassed {P V : Type 0} (work : RecordWork P V) (job : V) (entries : List RecordParts) (taken : PiecesResult P (RecordsState V)) : Type 0 where
  refusal : taken.refusal ≡ None
  deeds : taken.deeds ≡ deeds_along work job entries

module _ {P V : Type 0} (work : RecordWork P V) (format : Format) where
  -- the job over the pieces
  abbrev pieces : PieceWork P (RecordsState V)
  pieces = records_work work

  -- how far a classic capture is
  abbrev file : FilePlace → FileState
  file there = record { place = there; interfaces = []; nanos = None; skips = no_skips }

  -- before a header, and before the bytes of a record, after this many
  abbrev here : ℕ → V → RecordsState V
  here n job = reading_at (file (place.Header format)) format.nanos n job

  abbrev inside : RecordHeader → ℕ → V → RecordsState V
  inside head n job = reading_at (file (place.Body format head)) format.nanos n job

  -- a record after this many, with its bytes
  abbrev entry-after : ℕ → RecordHeader → List ℕ → RecordParts
  entry-after n head bytes = numbered_entry (one_more n) format.nanos format.link head bytes

  -- the pieces after a header, and their result
  abbrev onward : ℕ → RecordsState V → List ℕ → PiecesResult P (RecordsState V)
  onward given next bytes = pieces_from pieces 0 next given bytes

  -- the same after a record
  abbrev passing : ℕ → V → RecordParts → ℕ → List ℕ → PiecesResult P (RecordsState V)
  passing n job entry given bytes = in_front (deeds_of (work.passed job entry).deed) (onward given (here (one_more n) (work.passed job entry).next) bytes)

  -- a header's numbers, read from its piece
  head-read : (bytes header following : List ℕ) → bytes ≡ header ++ following → length header ≡ 16 → (at : ℕ) → at + 4 ≤ 16
      → ordered_number_at format.order at 4 (take 16 bytes) ≡ ordered_number_at format.order at 4 bytes
  head-read bytes header following parts long at fits =
      let front : take 16 bytes ≡ header = ap (take 16) parts ∙ take_at header following 16 long in
      ap (ordered_number_at format.order at 4) front
      ∙ sym (number-front format.order at 4 header following (omega (arith, fits, long)))
      ∙ ap (ordered_number_at format.order at 4) (sym parts)

  -- a header is a piece
  header-piece : (n given : ℕ) (job : V) (bytes : List ℕ) → 16 ≤ length bytes → given + 16 ≤ 2 ^ 32
      → onward given (here n job) bytes
      ≡ taken_by (here n job) given
      (by_judged work (here n job) (take 16 bytes) (by_header (file (place.Header format)) format (record_header format.order (take 16 bytes))))
      (λ next. onward (given + 16) next (drop 16 bytes))
  header-piece n given job bytes long counts =
      let one : 1 ≤ 16 = omega arith in
      pieces-cut pieces (here n job) given bytes (omega (arith, long)) one
      ∙ ap (λ (p : PieceNext). taken_by (here n job) given (by_next_piece pieces (here n job) p)
      (λ (next : RecordsState V). onward (given + 16) next (drop 16 bytes)))
      (piece-there pieces (here n job) 16 given bytes (here n job) refl long counts one)

  -- a record without bytes is made by its header alone
  none-judged : (n : ℕ) (job : V) (piece : List ℕ) (head : RecordHeader) → head.captured ≡ 0
      → by_judged work (here n job) piece (by_header (file (place.Header format)) format head)
      ≡ Goes (work.passed job (entry-after n head [])).deed (here (one_more n) (work.passed job (entry-after n head [])).next)
  none-judged n job piece head none = rw none refl

  -- and otherwise its bytes are the next piece
  some-judged : (n : ℕ) (job : V) (piece : List ℕ) (head : RecordHeader) → 1 ≤ head.captured → head.captured ≤ 262144
      → by_judged work (here n job) piece (by_header (file (place.Header format)) format head) ≡ Goes None (inside head n job)
  some-judged n job piece head some fits =
      let short : nat_lt 262144 head.captured ≡ false = le-ltb 262144 head.captured fits in
      let other : (head.captured == 0) ≡ false = grind (arith, nat_tests) in
      rw (short, other) refl

  -- the bytes of a record
  body-judged : (n : ℕ) (job : V) (piece : List ℕ) (head : RecordHeader)
      → pieces.judged (inside head n job) piece
      ≡ Goes (work.passed job (entry-after n head (take head.captured piece))).deed
      (here (one_more n) (work.passed job (entry-after n head (take head.captured piece))).next)
  body-judged n job piece head = refl

  body-piece : (n given : ℕ) (job : V) (head : RecordHeader) (body rest : List ℕ) → length body ≡ head.captured → 1 ≤ length body → given + length body ≤ 2 ^ 32
      → onward given (inside head n job) (body ++ rest) ≡ passing n job (entry-after n head body) (given + length body) rest
  body-piece n given job head body rest size some counts =
      let count = head.captured in
      let bytes = body ++ rest in
      let joined = length-append body rest in
      let one : 1 ≤ count = omega (arith, size, some) in
      let front : take count bytes ≡ body = take_at body rest count size in
      let following : drop count bytes ≡ rest = drop_at body rest count size in
      pieces-cut pieces (inside head n job) given bytes (omega (arith, joined, some)) one
      ∙ ap (λ (p : PieceNext). taken_by (inside head n job) given (by_next_piece pieces (inside head n job) p)
      (λ (next : RecordsState V). onward (given + count) next (drop count bytes)))
      (piece-there pieces (inside head n job) count given bytes (inside head n job) refl (omega (arith, joined, size)) (omega (arith, counts, size)) one)
      ∙ ap (λ (j : Judgement P (RecordsState V)). taken_by (inside head n job) given j
      (λ (next : RecordsState V). onward (given + count) next (drop count bytes))) (body-judged n job (take count bytes) head)
      ∙ ap (λ (piece : List ℕ). passing n job (entry-after n head (take count piece)) (given + count) (drop count bytes)) front
      ∙ ap (λ (held : List ℕ). passing n job (entry-after n head held) (given + count) (drop count bytes)) (take_all count body (omega (arith, size)))
      ∙ ap (λ (left : List ℕ). passing n job (entry-after n head body) (given + count) left) following
      ∙ ap (λ (k : ℕ). passing n job (entry-after n head body) (given + k) rest) (sym size)

  -- nothing in front
  same-front : (taken : PiecesResult P (RecordsState V)) → in_front [] taken ≡ taken
  same-front taken = refl

  -- a record
  record-piece : (n given : ℕ) (job : V) (bytes body rest : List ℕ) → 16 ≤ length bytes → drop 16 bytes ≡ body ++ rest
      → (record_header format.order (take 16 bytes)).captured ≡ length body
      → length body ≤ 262144 → given + (16 + length body) ≤ 2 ^ 32
      → onward given (here n job) bytes ≡ passing n job (entry-after n (record_header format.order (take 16 bytes)) body) (given + (16 + length body)) rest
  record-piece n given job bytes [] rest long parts size fits counts =
      let head = record_header format.order (take 16 bytes) in
      header-piece n given job bytes long counts
      ∙ ap (λ (j : Judgement P (RecordsState V)). taken_by (here n job) given j (λ (next : RecordsState V). onward (given + 16) next (drop 16 bytes)))
      (none-judged n job (take 16 bytes) head size)
      ∙ ap (λ (left : List ℕ). passing n job (entry-after n head []) (given + 16) left) parts
  record-piece n given job bytes (byte ∷ body) rest long parts size fits counts =
      let head = record_header format.order (take 16 bytes) in
      let all : List ℕ = byte ∷ body in
      let further : given + 16 + length all ≡ given + (16 + length all) = omega arith in
      header-piece n given job bytes long (omega (arith, counts))
      ∙ ap (λ (j : Judgement P (RecordsState V)). taken_by (here n job) given j (λ (next : RecordsState V). onward (given + 16) next (drop 16 bytes)))
      (some-judged n job (take 16 bytes) head (omega (arith, size)) (omega (arith, size, fits)))
      ∙ same-front (onward (given + 16) (inside head n job) (drop 16 bytes))
      ∙ ap (onward (given + 16) (inside head n job)) parts
      ∙ body-piece n (given + 16) job head all rest (sym size) (omega arith) (omega (arith, counts))
      ∙ ap (λ (g : ℕ). passing n job (entry-after n head all) g rest) further

  -- what the header of a record says
  head-same : (number given : ℕ) (entry : RecordParts) (rest bytes : List ℕ) (r : IsRecord format number given entry rest bytes)
      → record_header format.order (take 16 bytes)
      ≡ head-of (ordered_number_at format.order 0 4 bytes) (ordered_number_at format.order 4 4 bytes) (length r.body)
      (ordered_number_at format.order 12 4 bytes)
  head-same number given entry rest bytes r =
      let piece = take 16 bytes in
      let read : (at : ℕ) → at + 4 ≤ 16 → ordered_number_at format.order at 4 piece ≡ ordered_number_at format.order at 4 bytes =
      head-read bytes r.header (r.body ++ rest) r.whole r.header_length in
      ap (λ (s : ℕ). head-of s (ordered_number_at format.order 4 4 piece) (ordered_number_at format.order 8 4 piece)
      (ordered_number_at format.order 12 4 piece)) (read 0 (omega arith))
      ∙ ap (λ (f : ℕ). head-of (ordered_number_at format.order 0 4 bytes) f (ordered_number_at format.order 8 4 piece)
      (ordered_number_at format.order 12 4 piece)) (read 4 (omega arith))
      ∙ ap (λ (c : ℕ). head-of (ordered_number_at format.order 0 4 bytes) (ordered_number_at format.order 4 4 bytes) c
      (ordered_number_at format.order 12 4 piece)) (read 8 (omega arith) ∙ sym r.body_length)
      ∙ ap (λ (o : ℕ). head-of (ordered_number_at format.order 0 4 bytes) (ordered_number_at format.order 4 4 bytes) (length r.body) o) (read 12 (omega arith))

  -- the record that is handed on
  entry-same : (number given : ℕ) (entry : RecordParts) (rest bytes : List ℕ) (r : IsRecord format number given entry rest bytes) → number ≤ given
      → entry-after number (record_header format.order (take 16 bytes)) r.body ≡ entry
  entry-same number given entry rest bytes r few =
      let next : one_more number ≡ number + 1 = few-more number given few (omega (arith, r.counts)) in
      ap (λ (h : RecordHeader). entry-after number h r.body) (head-same number given entry rest bytes r)
      ∙ ap (λ (n : ℕ). numbered_entry n format.nanos format.link
      (head-of (ordered_number_at format.order 0 4 bytes) (ordered_number_at format.order 4 4 bytes) (length r.body)
      (ordered_number_at format.order 12 4 bytes)) r.body) next
      ∙ sym r.stands

  all-passed : (entries : List RecordParts) (number given : ℕ) (job : V) (bytes : List ℕ) → number ≤ given → HasRecords format number given bytes entries None
      → ArePassed work job entries (onward given (here number job) bytes)
  all-passed [] number given job bytes few none =
      subst (λ (bs : List ℕ). ArePassed work job [] (onward given (here number job) bs)) (sym none) (record { refusal = refl; deeds = refl })
  all-passed (entry ∷ entries) number given job bytes few (rest, r, more) =
      let size : length entry.bytes ≡ length r.body = ap (λ (e : RecordParts). length e.bytes) r.stands in
      let whole : length bytes ≡ length (r.header ++ (r.body ++ rest)) = ap length r.whole in
      let joined = length-append r.header (r.body ++ rest) in
      let following : drop 16 bytes ≡ r.body ++ rest = ap (drop 16) r.whole ∙ drop_at r.header (r.body ++ rest) 16 r.header_length in
      let captured : (record_header format.order (take 16 bytes)).captured ≡ length r.body =
      ap (λ (h : RecordHeader). h.captured) (head-same number given entry rest bytes r) in
      let further : given + (16 + length entry.bytes) ≡ given + (16 + length r.body) = ap (λ (k : ℕ). given + (16 + k)) size in
      let next : number + 1 ≡ one_more number = sym (few-more number given few (omega (arith, r.counts))) in
      let after : V = (work.passed job entry).next in
      let later : ArePassed work after entries (onward (given + (16 + length entry.bytes)) (here (number + 1) after) rest) =
      all-passed entries (number + 1) (given + (16 + length entry.bytes)) after rest (omega (arith, few)) more in
      let others : ArePassed work after entries (onward (given + (16 + length r.body)) (here (one_more number) after) rest) =
      subst (λ (n : ℕ). ArePassed work after entries (onward (given + (16 + length r.body)) (here n after) rest)) next
      (subst (λ (g : ℕ). ArePassed work after entries (onward g (here (number + 1) after) rest)) further later) in
      subst (ArePassed work job (entry ∷ entries))
      (sym (record-piece number given job bytes r.body rest (omega (arith, whole, joined, r.header_length)) following captured r.fits r.counts
      ∙ ap (λ (e : RecordParts). passing number job e (given + (16 + length r.body)) rest) (entry-same number given entry rest bytes r few)))
      (record { refusal = others.refusal; deeds = ap (λ (deeds : List P). deeds_of (work.passed job entry).deed ++ deeds) others.deeds })

  -- the file header begins the capture
  start-judged : (first : V) (piece : List ℕ) → classic_format piece ≡ Ok format → (ordered_number_at Big 0 4 piece == section_block) ≡ false
      → by_judged work (first_reading first) piece (by_start first_file piece) ≡ Goes (work.begun first format.nanos).deed
      (here 0 (work.begun first format.nanos).next)
  start-judged first piece taken other =
      ap (λ (is : Bool). by_judged work (first_reading first) piece
      (if is then by_section first_file piece (section_order piece) else by_format first_file (classic_format piece))) other
      ∙ ap (λ (r : Result Format FormatFault). by_judged work (first_reading first) piece (by_format first_file r)) taken

  input-begun : (first : V) (input : List ℕ) → IsTaken input format
      → records_of work first input ≡ in_front (deeds_of (work.begun first format.nanos).deed)
      (onward 24 (here 0 (work.begun first format.nanos).next) (drop 24 input))
  input-begun first input is =
      let one : 1 ≤ 24 = omega arith in
      let start : RecordsState V = first_reading first in
      pieces-cut pieces start 0 input (omega (arith, is.long)) one
      ∙ ap (λ (p : PieceNext). taken_by start 0 (by_next_piece pieces start p) (λ (next : RecordsState V). onward 24 next (drop 24 input)))
      (piece-there pieces start 24 0 input start refl is.long (omega arith) one)
      ∙ ap (λ (j : Judgement P (RecordsState V)). taken_by start 0 j (λ (next : RecordsState V). onward 24 next (drop 24 input)))
      (start-judged first (take 24 input) is.taken is.no_section)

  -- a whole capture without a fault
  begun-by : (first : V) (input : List ℕ) (records : List RecordParts) → opened input ≡ Ok format → IsCapture input records None
      → ((records_of work first input).refusal ≡ None) × ((records_of work first input).deeds ≡ deeds_from work first format.nanos records)
  begun-by first input records told_so (Refused why stops none ends) = cc ends
  begun-by first input records told_so (Opened other opens has) =
      let same : other ≡ format = cc (sym opens ∙ told_so) in
      let here_has : HasRecords format 0 24 (drop 24 input) records None = subst (λ (f : Format). HasRecords f 0 24 (drop 24 input) records None) same has in
      let are = all-passed records 0 24 (work.begun first format.nanos).next (drop 24 input) (omega arith) here_has in
      let begun = input-begun first input (header-taken input format told_so) in (
        ap (λ (t : PiecesResult P (RecordsState V)). t.refusal) begun ∙ are.refusal,
        ap (λ (t : PiecesResult P (RecordsState V)). t.deeds) begun ∙ ap (λ (deeds : List P). deeds_of (work.begun first format.nanos).deed ++ deeds) are.deeds,
      )

-- Of a capture that a reader of captures takes, which has no fault, each record that it finds is handed to the job, in
-- their order, and nothing else is.
pub records-passed : {P V : Type 0} (work : RecordWork P V) (first : V) (input : List ℕ) (format : Format) → opened input ≡ Ok format
    → (captured input).end ≡ None
    → ((records_of work first input).refusal ≡ None) × ((records_of work first input).deeds ≡ deeds_from work first format.nanos (captured input).records)
records-passed work first input format told_so whole =
    begun-by work format first input (captured input).records told_so
    (subst (λ (end : Option CaptureFault). IsCapture input (captured input).records end) whole
    (read-capture input (captured input).records (captured input).end refl))
