-- What the steps of a reader do with its source and its block (own).
use Rattle.std.specs.Prelude.{◌≡◌, ◌≢◌, ℕ, ◌+◌, ◌≤◌, ◌⊎◌, List, [], length, drop, Option, Some, None, IfSome, Result, Ok, Err, option_map}
use Rattle.dccp_io.specs.Counts.{Rose}
use Rattle.dccp_io.specs.Ahead.{BytesAhead, ahead_of}
use Rattle.capture_reader.specs.declared.fault.CaptureFault.{CaptureFault}
use Rattle.capture_reader.specs.declared.fault.CaptureFault.TheVariants.{ReadFault}
use Rattle.capture_reader.specs.declared.format.Order.{Order}
use Rattle.capture_reader.specs.declared.format.Format.{Format}
use Rattle.capture_reader.specs.declared.record.RecordHeader.{RecordHeader}
use Rattle.capture_reader.specs.Format.{opened}
use Rattle.capture_reader.specs.Records.{header_in, body_fault, found_in}
use Rattle.capture_reader.specs.State.{IsOfRecords, RefusesHeader}

-- what no step changes
pub record KeepsTheSource {S : Type 0} (faults lender : S → ℕ) (old new : BytesAhead) (before after : S) : Type 0 where
  pub same_size : new.size ≡ old.size
  pub fits : length new.pending ≤ new.size
  pub never_falls : faults before ≤ faults after
  pub same_lender : lender after ≡ lender before

-- the source failed, or the bytes that come next are wrong
abbrev pub IsCause : CaptureFault → ℕ → ℕ → Type 0 → Type 0
IsCause why before after Wrong = ((why ≡ ReadFault) × Rose before after) ⊎ ((why ≢ ReadFault) × Wrong)

-- a record's header was read and is no longer pending, or there was none, or it is wrong
abbrev pub HeaderRead : {S : Type 0} → (S → Option (List ℕ)) → (S → ℕ) → Order → ℕ → BytesAhead → BytesAhead → S → S
    → Result (Option RecordHeader) CaptureFault → Type 0
HeaderRead left faults order room old new before after (Ok (Some header)) =
    (16 ≤ room) × (ahead_of new (left after) ≡ option_map (drop 16) (ahead_of old (left before)))
    × IfSome (ahead_of old (left before)) (λ bytes. header_in order room bytes ≡ Ok (Some header))
HeaderRead left faults order room old new before after (Ok None) =
    (ahead_of new (left after) ≡ ahead_of old (left before))
    × IfSome (ahead_of old (left before)) (λ bytes. (bytes ≡ []) × (header_in order room bytes ≡ Ok None))
HeaderRead left faults order room old new before after (Err why) =
    IsOfRecords why × (ahead_of new (left after) ≡ ahead_of old (left before))
    × IsCause why (faults before) (faults after) (IfSome (ahead_of old (left before)) (λ bytes. header_in order room bytes ≡ Err why))

-- a record's bytes are pending, or they are wrong
abbrev pub BodyRead : {S : Type 0} → (S → Option (List ℕ)) → (S → ℕ) → ℕ → ℕ → BytesAhead → BytesAhead → S → S
    → Result ℕ CaptureFault → Type 0
BodyRead left faults captured room old new before after (Ok count) =
    (count ≡ captured) × (captured ≤ room) × (captured ≤ length new.pending)
    × IfSome (ahead_of old (left before)) (λ bytes. body_fault captured room (length bytes) ≡ None)
BodyRead left faults captured room old new before after (Err why) =
    IsOfRecords why
    × IsCause why (faults before) (faults after) (IfSome (ahead_of old (left before)) (λ bytes. body_fault captured room (length bytes) ≡ Some why))

-- a record's header was read, and its bytes are pending, or there was no record, or it is wrong
abbrev pub RecordRead : {S : Type 0} → (S → Option (List ℕ)) → (S → ℕ) → Order → ℕ → BytesAhead → BytesAhead → S → S
    → Result (Option RecordHeader) CaptureFault → Type 0
RecordRead left faults order room old new before after (Ok (Some header)) =
    (16 + header.captured ≤ room) × (header.captured ≤ length new.pending)
    × (ahead_of new (left after) ≡ option_map (drop 16) (ahead_of old (left before)))
    × IfSome (ahead_of old (left before)) (λ bytes. found_in order room bytes ≡ Ok (Some header))
RecordRead left faults order room old new before after (Ok None) =
    (ahead_of new (left after) ≡ ahead_of old (left before))
    × IfSome (ahead_of old (left before)) (λ bytes. bytes ≡ [])
RecordRead left faults order room old new before after (Err why) =
    IsOfRecords why
    × ((n : ℕ) × (n ≤ 16) × (ahead_of new (left after) ≡ option_map (drop n) (ahead_of old (left before))))
    × IsCause why (faults before) (faults after) (IfSome (ahead_of old (left before)) (λ bytes. found_in order room bytes ≡ Err why))

-- the file header was read and is no longer pending, or it is wrong
abbrev pub FileRead : {S : Type 0} → (S → Option (List ℕ)) → (S → ℕ) → BytesAhead → S → S → Result Format CaptureFault → Type 0
FileRead left faults new before after (Ok format) =
    (length new.pending ≤ 262120) × (ahead_of new (left after) ≡ option_map (drop 24) (left before))
    × IfSome (left before) (λ bytes. opened bytes ≡ Ok format)
FileRead left faults new before after (Err why) =
    (ahead_of new (left after) ≡ left before) × RefusesHeader left faults before after why
