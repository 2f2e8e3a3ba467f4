-- What a reader of captures shows of itself, and what its calls do (own).
use Rattle.std.specs.Prelude.{◌≡◌, ◌≢◌, ℕ, ◌+◌, ◌≤◌, ◌⊎◌, ◌-◌, ◌||◌, Bool, true, is_some, List, [], length, drop, Option, Some, None, IfSome, Result, Ok, Err, option_map, ⊤}
use Rattle.std.specs.Io.KnownBytes.{prepend_known}
use Rattle.dccp_io.specs.Counts.{Rose}
use Rattle.capture_reader.specs.declared.fault.CaptureFault.{CaptureFault}
use Rattle.capture_reader.specs.declared.fault.CaptureFault.TheVariants.{BadMagic, BadVersion, BadLink, CutShort, RecordTooLong, ReadFault, NoMemory, TooLarge}
use Rattle.capture_reader.specs.declared.format.Format.{Format}
use Rattle.capture_reader.specs.declared.record.Record.{Record}
use Rattle.capture_reader.specs.declared.record.RecordHeader.{RecordHeader}
use Rattle.capture_reader.specs.Format.{opened}
use Rattle.capture_reader.specs.Records.{RecordParts, entry_of, next_of, entry_with, is_record_settled, most_bytes}

-- The source, the bytes that were read and not given, the format, how many bytes of the input were passed and how many
-- records were given, and the fault that ended the capture.
pub record CapturesState (S : Type 0) : Type 0 where
  pub source : S
  pub pending : List ℕ
  pub lent : List ℕ
  pub format : Format
  pub given : ℕ
  pub number : ℕ
  pub fault : Option CaptureFault

-- what is left of the input, if the source's bytes are known
abbrev pub rest : {S : Type 0} → (S → Option (List ℕ)) → CapturesState S → Option (List ℕ)
rest left c = prepend_known c.pending (left c.source)

-- The next call reads nothing: what is pending settles its answer, or a fault ended the capture.
abbrev pub holds_record : {S : Type 0} → CapturesState S → Bool
holds_record c = is_some c.fault || is_record_settled c.format.order (most_bytes - c.given) c.pending

-- at most that many bytes were taken from what was known
abbrev pub Passed : ℕ → Option (List ℕ) → Option (List ℕ) → Type 0
Passed most before after = (n : ℕ) × (n ≤ most) × (after ≡ option_map (drop n) before)

-- the faults that records can have
abbrev pub IsOfRecords : CaptureFault → Type 0
IsOfRecords BadMagic = ⊥
IsOfRecords BadVersion = ⊥
IsOfRecords BadLink = ⊥
IsOfRecords CutShort = ⊤
IsOfRecords RecordTooLong = ⊤
IsOfRecords ReadFault = ⊤
IsOfRecords NoMemory = ⊥
IsOfRecords TooLarge = ⊤

-- a record was given: the one that comes next, of which nothing is left
pub record Gives {S : Type 0} (left : S → Option (List ℕ)) (old new : CapturesState S) (entry : RecordParts) : Type 0 where
  pub was_open : old.fault ≡ None
  pub is_open : new.fault ≡ None
  pub number : entry.number ≡ old.number + 1
  pub counted : new.number ≡ entry.number
  pub given : new.given ≡ old.given + (16 + length entry.bytes)
  pub next : IfSome (rest left old) (λ bytes. (next_of old.format old.number old.given bytes ≡ Ok (Some entry))
      × (rest left new ≡ Some (drop (16 + length entry.bytes) bytes)))

-- the input ended between two records
pub record Ends {S : Type 0} (left : S → Option (List ℕ)) (old new : CapturesState S) : Type 0 where
  pub was_open : old.fault ≡ None
  pub is_open : new.fault ≡ None
  pub counted : new.number ≡ old.number
  pub given : new.given ≡ old.given
  pub next : IfSome (rest left old) (λ bytes. (bytes ≡ []) × (rest left new ≡ Some []))

-- why it ended: the source failed, or this fault comes next
abbrev pub Blames : {S : Type 0} → (S → Option (List ℕ)) → (S → ℕ) → CapturesState S → CapturesState S → CaptureFault → Type 0
Blames left faults old new why =
    ((why ≡ ReadFault) × Rose (faults old.source) (faults new.source))
    ⊎ ((why ≢ ReadFault) × IfSome (rest left old) (λ bytes. next_of old.format old.number old.given bytes ≡ Err why))

-- the capture ended with a fault, in this call or before, and then nothing was done
pub record Refuses {S : Type 0} (left : S → Option (List ℕ)) (faults : S → ℕ) (old new : CapturesState S) (why : CaptureFault) : Type 0 where
  pub of_records : IsOfRecords why
  pub kept : new.fault ≡ Some why
  pub counted : new.number ≡ old.number
  pub cause : ((old.fault ≡ Some why) × (new ≡ old)) ⊎ ((old.fault ≡ None) × Blames left faults old new why)

-- a record was asked for: one is given, the input has ended, or the capture is refused
abbrev pub Reads : {S : Type 0} → (S → Option (List ℕ)) → (S → ℕ) → CapturesState S → CapturesState S → Result (Option RecordParts) CaptureFault → Type 0
Reads left faults old new (Ok (Some entry)) = Gives left old new entry
Reads left faults old new (Ok None) = Ends left old new
Reads left faults old new (Err why) = Refuses left faults old new why

-- A call of `next`. At most 262,160 bytes were read of what was left, which are a header of 16 and a block, and none if what was pending settled
-- the answer.
pub record Advances {S : Type 0} (left : S → Option (List ℕ)) (faults lender : S → ℕ) (old new : CapturesState S)
    (read : Result (Option RecordParts) CaptureFault) : Type 0 where
  pub never_falls : faults old.source ≤ faults new.source
  pub same_lender : lender new.source ≡ lender old.source
  pub same_format : new.format ≡ old.format
  pub within : new.given ≤ most_bytes
  pub block : length new.pending ≤ 262144
  pub past : Passed 262160 (rest left old) (left new.source)
  pub unread : holds_record old ≡ true → new.source ≡ old.source
  pub answer : Reads left faults old new read

-- the record that was found, whose bytes the reader then shows as lent
abbrev pub found : {S : Type 0} → CapturesState S → Result (Option RecordHeader) CaptureFault → Result (Option RecordParts) CaptureFault
found new (Ok (Some header)) = Ok (Some (entry_with new.format new.number header new.lent))
found new (Ok None) = Ok None
found new (Err why) = Err why

-- the answer, without the place of a record's bytes
abbrev pub read_of : Result (Option Record) CaptureFault → Result (Option RecordParts) CaptureFault
read_of (Ok (Some r)) = Ok (Some (entry_of r))
read_of (Ok None) = Ok None
read_of (Err why) = Err why

-- a reader was made, after the file header
pub record Opens {S : Type 0} (left : S → Option (List ℕ)) (faults lender : S → ℕ) (source : S) (made : CapturesState S) : Type 0 where
  pub never_falls : faults source ≤ faults made.source
  pub same_lender : lender made.source ≡ lender source
  pub block : length made.pending ≤ 262120
  pub given : made.given ≡ 24
  pub number : made.number ≡ 0
  pub is_open : made.fault ≡ None
  pub opened : IfSome (left source) (λ bytes. (opened bytes ≡ Ok made.format) × (rest left made ≡ Some (drop 24 bytes)))

-- why no reader was made: no memory, the source failed, or the file header has this fault
abbrev pub RefusesHeader : {S : Type 0} → (S → Option (List ℕ)) → (S → ℕ) → S → S → CaptureFault → Type 0
RefusesHeader left faults source handed ReadFault = Rose (faults source) (faults handed)
RefusesHeader left faults source handed NoMemory = handed ≡ source
RefusesHeader left faults source handed why = IfSome (left source) (λ bytes. opened bytes ≡ Err why)

-- no reader was made, and the source is handed back in its present state, with at most one block taken
pub record Declines {S : Type 0} (left : S → Option (List ℕ)) (faults lender : S → ℕ) (source handed : S) (why : CaptureFault) : Type 0 where
  pub never_falls : faults source ≤ faults handed
  pub same_lender : lender handed ≡ lender source
  pub past : Passed 262144 (left source) (left handed)
  pub cause : RefusesHeader left faults source handed why
