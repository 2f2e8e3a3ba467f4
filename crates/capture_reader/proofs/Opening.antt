-- Reading a file header.
use Rattle.std.proofs.Common.{arith, ◌≡◌, ◌≢◌, ◌≤◌, ℕ, List, ◌++◌, length, length-append, take, drop, Option, Some, None, Result, IfSome, Err, refl, sym, ap, subst, false, nat_lt}
use Rattle.std.proofs.lemmas.List.{take-append-le, drop-append-le}
use Rattle.std.proofs.Math.Seq.{drop-append_seam}
use Rattle.std.proofs.lemmas.Bool.{le-ltb}
use Rattle.std.specs.Prelude.{option_map}
use Rattle.std.specs.Io.KnownBytes.{prepend_known}
use Rattle.capture_reader.specs.declared.fault.CaptureFault.{CaptureFault}
use Rattle.capture_reader.specs.declared.fault.CaptureFault.TheVariants.{BadMagic, BadVersion, BadLink, CutShort, RecordTooLong, ReadFault, NoMemory, TooLarge}
use Rattle.capture_reader.specs.declared.fault.FormatFault.{FormatFault}
use Rattle.capture_reader.specs.declared.fault.FormatFault.TheVariants as fault
use Rattle.capture_reader.specs.declared.format.Format.{Format}
use Rattle.capture_reader.specs.Format.{opened, format_of, header_fault, or_fault, shown_links}
use Rattle.capture_reader.specs.State.{RefusesHeader, Passed}

-- the first bytes of what is still to come tell the same as all of it
pub opened-ahead : (told : Result Format CaptureFault) (pending : List ℕ) (known : Option (List ℕ)) → 24 ≤ length pending → or_fault (format_of shown_links (take 24 pending)) ≡ told
    → IfSome (prepend_known pending known) (λ bytes. opened bytes ≡ told)
opened-ahead told pending None enough is = tt
opened-ahead told pending (Some more) enough is =
    let there : nat_lt (length (pending ++ more)) 24 ≡ false = le-ltb (length (pending ++ more)) 24 (rw (length-append pending more) (omega (arith, enough))) in
    rw (there, take-append-le 24 pending more enough) is

-- the first bytes of what is still to come, let go
pub ahead-passed : (n : ℕ) (pending : List ℕ) (known : Option (List ℕ)) → n ≤ length pending
    → prepend_known (drop n pending) known ≡ option_map (drop n) (prepend_known pending known)
ahead-passed n pending None enough = refl
ahead-passed n pending (Some more) enough = ap (λ (xs : List ℕ). Some xs) (sym (drop-append-le n pending more enough))

-- what is pending was taken from what the source had
pub passed-ahead : (most : ℕ) (pending : List ℕ) (known all : Option (List ℕ)) → length pending ≤ most → prepend_known pending known ≡ all
    → Passed most all known
passed-ahead most pending None all fits same = (length pending, fits, subst (λ (o : Option (List ℕ)). None ≡ option_map (drop (length pending)) o) same refl)
passed-ahead most pending (Some more) all fits same = (
  length pending,
  fits,
  subst (λ (o : Option (List ℕ)). Some more ≡ option_map (drop (length pending)) o) same (ap (λ (xs : List ℕ). Some xs) (sym (drop-append_seam pending more))),
)

-- a fault of a file header is neither of the source nor of memory
pub header-not-read : (fault : FormatFault) → header_fault fault ≢ ReadFault
header-not-read fault.BadMagic is = cc is
header-not-read fault.BadVersion is = cc is
header-not-read fault.BadLink is = cc is

pub header-not-memory : (fault : FormatFault) → header_fault fault ≢ NoMemory
header-not-memory fault.BadMagic is = cc is
header-not-memory fault.BadVersion is = cc is
header-not-memory fault.BadLink is = cc is

-- a fault that is neither of the source nor of memory is what the bytes say
pub refuses_header : {S : Type 0} (left : S → Option (List ℕ)) (faults : S → ℕ) (source handed : S) (why : CaptureFault) → why ≢ ReadFault → why ≢ NoMemory
    → IfSome (left source) (λ bytes. opened bytes ≡ Err why) → RefusesHeader left faults source handed why
refuses_header left faults source handed BadMagic read memory wrong = wrong
refuses_header left faults source handed BadVersion read memory wrong = wrong
refuses_header left faults source handed BadLink read memory wrong = wrong
refuses_header left faults source handed CutShort read memory wrong = wrong
refuses_header left faults source handed RecordTooLong read memory wrong = wrong
refuses_header left faults source handed ReadFault read memory wrong = absurd (read refl)
refuses_header left faults source handed NoMemory read memory wrong = absurd (memory refl)
refuses_header left faults source handed TooLarge read memory wrong = wrong

-- a whole file header, right or wrong
pub header-told : {S : Type 0} (left : S → Option (List ℕ)) (told : Result Format CaptureFault) (pending : List ℕ) (before after : S) → 24 ≤ length pending
    → prepend_known pending (left after) ≡ left before → or_fault (format_of shown_links (take 24 pending)) ≡ told → IfSome (left before) (λ bytes. opened bytes ≡ told)
header-told left told pending before after enough same is =
    subst (λ (o : Option (List ℕ)). IfSome o (λ bytes. opened bytes ≡ told)) same (opened-ahead told pending (left after) enough is)
