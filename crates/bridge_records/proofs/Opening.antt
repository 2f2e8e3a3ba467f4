-- A file header that a reader of captures takes is taken here, and is none of a section.
use Rattle.std.proofs.Common.{arith, ◌≡◌, refl, sym, ap, ◌∙◌, ℕ, ◌≤◌, ◌%◌, ◌==◌, List, [], ◌∷◌, length, take, Bool, true, false, nat_lt, Option, Some, None, Result, Ok, Err}
use Rattle.std.proofs.lemmas.Bool.{ltb-false}
use Rattle.std.proofs.lemmas.Bool.Decides.{nat_tests}
use Rattle.std.proofs.lemmas.List.{length-take-le}
use Rattle.capture_reader.specs.Format.{format_by, format_in, format_of, is_link, is_version, magic_in, magic_of, microseconds, nanoseconds, opened, or_fault, ordered_number_at, shown_links}
use Rattle.capture_reader.specs.declared.fault.CaptureFault.TheVariants as why
use Rattle.capture_reader.specs.declared.fault.FormatFault.{FormatFault}
use Rattle.capture_reader.specs.declared.fault.FormatFault.TheVariants as fault
use Rattle.capture_reader.specs.declared.format.Format.{Format}
use Rattle.capture_reader.specs.declared.format.Order.{Order}
use Rattle.capture_reader.specs.declared.format.Order.TheVariants.{Big, Little}
use Rattle.bridge_records.specs.Blocks.{section_block}
use Rattle.bridge_records.specs.Links.{by_link, classic_format, either_link, known_links}

-- the link types of `show` are known
known-link : (link : ℕ) → is_link shown_links link ≡ true → is_link known_links link ≡ true
known-link link is = grind (arith, nat_tests)

-- and have no more than 16 bits
low-link : (link : ℕ) → is_link shown_links link ≡ true → link % 65536 ≡ link
low-link link is = grind (arith, nat_tests)

-- what is there in the header's own byte order is one of both
either-is : (order : Order) (bytes : List ℕ) → is_link (either_link bytes) (ordered_number_at order 20 4 bytes) ≡ true
either-is Big bytes = grind (arith, nat_tests)
either-is Little bytes = grind (arith, nat_tests)

-- a link type that has no more bits stays
link-stays : (order : Order) (nanos : Bool) (link : ℕ) → is_link known_links link ≡ true → link % 65536 ≡ link
    → by_link (Ok (record { order = order; nanos = nanos; link = link })) ≡ Ok (record { order = order; nanos = nanos; link = link })
link-stays order nanos link known low = rw (low, known) refl

-- what these say
abbrev format-with : Order → Bool → List ℕ → Format
format-with order nanos bytes = record { order = order; nanos = nanos; link = ordered_number_at order 20 4 bytes }

-- a version and link type that are taken
taken-in : (order : Order) (nanos : Bool) (bytes : List ℕ) (format : Format) (version link : Bool) → is_version order bytes ≡ version
    → is_link shown_links (ordered_number_at order 20 4 bytes) ≡ link → format_in shown_links order nanos bytes ≡ Ok format
    → by_link (format_in (either_link bytes) order nanos bytes) ≡ Ok format
taken-in order nanos bytes format false link v l told =
    let stops : format_in shown_links order nanos bytes ≡ Err fault.BadVersion = rw v refl in cc (sym stops ∙ told)
taken-in order nanos bytes format true false v l told =
    let stops : format_in shown_links order nanos bytes ≡ Err fault.BadLink = rw (v, l) refl in cc (sym stops ∙ told)
taken-in order nanos bytes format true true v l told =
    let link : ℕ = ordered_number_at order 20 4 bytes in
    let one = either-is order bytes in
    let theirs : format_in shown_links order nanos bytes ≡ Ok (format-with order nanos bytes) = rw (v, l) refl in
    let ours : format_in (either_link bytes) order nanos bytes ≡ Ok (format-with order nanos bytes) = rw (v, one) refl in
    let same : format-with order nanos bytes ≡ format = cc (sym theirs ∙ told) in
    ap by_link ours ∙ link-stays order nanos link (known-link link l) (low-link link l) ∙ ap (λ (f : Format). Ok f) same

-- the same by the magic number
taken-by : (magic : Option (Order × Bool)) (bytes : List ℕ) (format : Format) → format_by shown_links magic bytes ≡ Ok format
    → by_link (format_by (either_link bytes) magic bytes) ≡ Ok format
taken-by None bytes format told = cc told
taken-by (Some (order, nanos)) bytes format told =
    taken-in order nanos bytes format (is_version order bytes) (is_link shown_links (ordered_number_at order 20 4 bytes)) refl refl told

-- a header of a section has none of them, in either byte order
no-section-in : (bytes : List ℕ) (format : Format) (a b c d : Bool) → 4 ≤ length bytes → (magic_in Big bytes == microseconds) ≡ a
    → (magic_in Big bytes == nanoseconds) ≡ b
    → (magic_in Little bytes == microseconds) ≡ c → (magic_in Little bytes == nanoseconds) ≡ d → format_of shown_links bytes ≡ Ok format
    → (ordered_number_at Big 0 4 bytes == section_block) ≡ false
no-section-in [] format a b c d long p q r s told = absurd (omega (arith, long))
no-section-in (w ∷ []) format a b c d long p q r s told = absurd (omega (arith, long))
no-section-in (w ∷ x ∷ []) format a b c d long p q r s told = absurd (omega (arith, long))
no-section-in (w ∷ x ∷ y ∷ []) format a b c d long p q r s told = absurd (omega (arith, long))
no-section-in (w ∷ x ∷ y ∷ z ∷ bytes) format true b c d long p q r s told = grind (arith, nat_tests)
no-section-in (w ∷ x ∷ y ∷ z ∷ bytes) format false true c d long p q r s told = grind (arith, nat_tests)
no-section-in (w ∷ x ∷ y ∷ z ∷ bytes) format false false true d long p q r s told = grind (arith, nat_tests)
no-section-in (w ∷ x ∷ y ∷ z ∷ bytes) format false false false true long p q r s told = grind (arith, nat_tests)
no-section-in (w ∷ x ∷ y ∷ z ∷ bytes) format false false false false long p q r s told =
    let stops : format_of shown_links (w ∷ x ∷ y ∷ z ∷ bytes) ≡ Err fault.BadMagic = rw (p, q, r, s) refl in cc (sym stops ∙ told)

-- a whole file header
pub record IsTaken (input : List ℕ) (format : Format) : Type 0 where
  pub long : 24 ≤ length input
  pub taken : classic_format (take 24 input) ≡ Ok format
  pub no_section : (ordered_number_at Big 0 4 (take 24 input) == section_block) ≡ false

-- a format that an input opens with is that of its file header
without-fault : (read : Result Format FormatFault) (format : Format) → or_fault read ≡ Ok format → read ≡ Ok format
without-fault (Ok other) format told =
    let same : other ≡ format = cc told in
    ap (λ (f : Format). Ok f) same
without-fault (Err why) format told = cc told

taken-of : (input : List ℕ) (format : Format) (short : Bool) → nat_lt (length input) 24 ≡ short → opened input ≡ Ok format → IsTaken input format
taken-of input format true short told =
    let stops : opened input ≡ Err why.CutShort = rw short refl in cc (sym stops ∙ told)
taken-of input format false short told =
    let there : 24 ≤ length input = omega (arith, ltb-false (length input) 24 short) in
    let bytes : List ℕ = take 24 input in
    let size : length bytes ≡ 24 = length-take-le 24 input there in
    let theirs : opened input ≡ or_fault (format_of shown_links bytes) = rw short refl in
    let told_here : format_of shown_links bytes ≡ Ok format = without-fault (format_of shown_links bytes) format (sym theirs ∙ told) in
    record {
      long = there;
      taken = taken-by (magic_of bytes) bytes format told_here;
      no_section = no-section-in bytes format (magic_in Big bytes == microseconds) (magic_in Big bytes == nanoseconds) (magic_in Little bytes == microseconds)
          (magic_in Little bytes == nanoseconds) (omega (arith, size)) refl refl refl refl told_here;
    }

pub header-taken : (input : List ℕ) (format : Format) → opened input ≡ Ok format → IsTaken input format
header-taken input format told = taken-of input format (nat_lt (length input) 24) refl told
