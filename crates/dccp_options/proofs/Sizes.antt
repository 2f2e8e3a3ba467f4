-- The Ack Vectors of an area have no more bytes than the area.
use Rattle.std.proofs.Common.{◌≡◌, ℕ, zero, suc, ◌+◌, ◌-◌, ◌≤◌, Bool, true, false, not, List, [], ◌∷◌, ◌++◌, length, filter, Option, Some, None, Result, Ok, if◌then◌else◌, refl, arith, length-append}
use Rattle.std.specs.List.{concat}
use Rattle.std.proofs.lemmas.Grind.{common_steps}
use Rattle.dccp_options.specs.declared.option.OptFault.{OptFault}
use Rattle.dccp_options.specs.Grammar.{Entry, RawOption, raw_options, raw_then, option_body, bytes_after, counted_options, is_ignored_on_data, marked_entries, entry_then, part_of, Part}
use Rattle.dccp_options.specs.Grammar.Part.{Padding, Mandatory, Listed}
use Rattle.dccp_options.specs.Vectors.{ack_vectors, vector_bytes, is_ack_vector}

-- the bytes of data that options have in all
abbrev pub data_count : List RawOption → ℕ
data_count [] = 0
data_count (raw ∷ rest) = length raw.body + data_count rest

-- an option's data is among the bytes that follow its type
pub body-fits : (kind : ℕ) (rest body : List ℕ) → option_body kind rest ≡ Some body
    → (length body ≤ bytes_after kind body) × (bytes_after kind body ≤ length rest)
body-fits kind [] body found = grind (arith, common_steps)
body-fits kind (count ∷ rest) body found = grind (arith, common_steps)

-- so options have no more data than there are bytes
pub data_count-raw_then : (place kind : ℕ) (rest : List ℕ) (found : Option (List ℕ)) → option_body kind rest ≡ found
    → ((skip : ℕ) → data_count (raw_options (place + 1) skip rest) ≤ length rest - skip)
    → data_count (raw_then place kind found (λ skip. raw_options (place + 1) skip rest)) ≤ length rest
data_count-raw_then place kind rest None _ _ = omega arith
data_count-raw_then place kind rest (Some body) found following =
    let fits = body-fits kind rest body found in
    omega (arith, fits.0, fits.1, following (bytes_after kind body))

pub data_count-raw_options : (place skip : ℕ) (bytes : List ℕ)
    → data_count (raw_options place skip bytes) ≤ length bytes - skip
data_count-raw_options place skip [] = omega arith
data_count-raw_options place (suc skip) (byte ∷ rest) = omega (arith, data_count-raw_options (place + 1) skip rest)
data_count-raw_options place zero (kind ∷ rest) =
    omega (arith, data_count-raw_then place kind rest (option_body kind rest) refl (λ skip. data_count-raw_options (place + 1) skip rest))

pub data_count-if : (b : Bool) (raw : RawOption) (kept rest : List RawOption) → data_count kept ≤ data_count rest
    → data_count (if b then raw ∷ kept else kept) ≤ length raw.body + data_count rest
data_count-if true raw kept rest h = omega (arith, h)
data_count-if false raw kept rest h = omega (arith, h)

pub data_count-filter : (p : RawOption → Bool) (raws : List RawOption) → data_count (filter p raws) ≤ data_count raws
data_count-filter p [] = omega arith
data_count-filter p (raw ∷ rest) = data_count-if (p raw) raw (filter p rest) rest (data_count-filter p rest)

pub data_count-counted : (on_data : Bool) (raws : List RawOption) → data_count (counted_options on_data raws) ≤ data_count raws
data_count-counted false raws = omega arith
data_count-counted true raws = data_count-filter (λ raw. not (is_ignored_on_data raw.kind)) raws

pub length-if : (b : Bool) (body : List ℕ) (others : List (List ℕ))
    → length (concat ((if b then body ∷ [] else []) ++ others)) ≤ length body + length (concat others)
length-if true body others = omega (arith, length-append body (concat others))
length-if false body others = omega arith

-- the bytes of the vectors of an item and those after it
pub length-vector_bytes : (entry : Entry) (rest : List (Result Entry OptFault))
    → length (vector_bytes (Ok entry ∷ rest)) ≤ length entry.body + length (vector_bytes rest)
length-vector_bytes entry rest = length-if (is_ack_vector entry.kind) entry.body (ack_vectors rest)

pub length-entry_then : (part : Part) (marked : Bool) (raw : RawOption) (following : Bool → List (Result Entry OptFault)) (most : ℕ)
    → ((next : Bool) → length (vector_bytes (following next)) ≤ most)
    → length (vector_bytes (entry_then part marked raw following)) ≤ length raw.body + most
length-entry_then Padding marked raw following most h = omega (arith, h false)
length-entry_then Mandatory false raw following most h = omega (arith, h true)
length-entry_then Mandatory true raw following most h = omega arith
length-entry_then Listed marked raw following most h =
    omega (arith, h false, length-vector_bytes (record { place = raw.place; mandatory = marked; kind = raw.kind; body = raw.body }) (following false))

pub length-entries : (marked : Bool) (raws : List RawOption) → length (vector_bytes (marked_entries marked raws)) ≤ data_count raws
length-entries false [] = omega arith
length-entries true [] = omega arith
length-entries marked (raw ∷ rest) =
    length-entry_then (part_of raw.kind) marked raw (λ next. marked_entries next rest) (data_count rest) (λ next. length-entries next rest)

pub vector_bytes_fit : (marked on_data : Bool) (place : ℕ) (area : List ℕ)
    → length (vector_bytes (marked_entries marked (counted_options on_data (raw_options place 0 area)))) ≤ length area
vector_bytes_fit marked on_data place area =
    let raws = raw_options place 0 area in
    omega (arith, length-entries marked (counted_options on_data raws), data_count-counted on_data raws, data_count-raw_options place 0 area)
