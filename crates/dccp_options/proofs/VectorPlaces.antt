-- The Ack Vectors of an area are the same wherever the area lies, and a Data packet has none.
use Rattle.std.proofs.Common.{◌≡◌, ◌∙◌, ℕ, zero, suc, ◌+◌, Bool, true, false, not, List, [], ◌∷◌, ◌++◌, filter, map, Option, Some, None, Result, if◌then◌else◌, refl, ap, sym, rules}
use Rattle.dccp_options.specs.declared.option.OptFault.{OptFault}
use Rattle.dccp_options.specs.Grammar.{Entry, RawOption, raw_options, raw_then, option_body, bytes_after, counted_options, is_ignored_on_data, marked_entries, entry_then, part_of, options_of, Part}
use Rattle.dccp_options.specs.Grammar.Part.{Padding, Mandatory, Listed}
use Rattle.dccp_options.specs.Vectors.{ack_vectors, is_ack_vector}

abbrev unplaced : RawOption → RawOption
unplaced raw = record { place = 0; kind = raw.kind; body = raw.body }

then-unplaced : (p q kind : ℕ) (rest : List ℕ) (found : Option (List ℕ))
    → ((skip : ℕ) → map unplaced (raw_options (p + 1) skip rest) ≡ map unplaced (raw_options (q + 1) skip rest))
    → map unplaced (raw_then p kind found (λ skip. raw_options (p + 1) skip rest))
    ≡ map unplaced (raw_then q kind found (λ skip. raw_options (q + 1) skip rest))
then-unplaced p q kind rest None following = refl
then-unplaced p q kind rest (Some body) following =
    ap (λ (raws : List RawOption). record { place = 0; kind = kind; body = body } ∷ raws) (following (bytes_after kind body))

raws-unplaced : (p q skip : ℕ) (bytes : List ℕ) → map unplaced (raw_options p skip bytes) ≡ map unplaced (raw_options q skip bytes)
raws-unplaced p q skip [] = refl
raws-unplaced p q (suc skip) (byte ∷ rest) = raws-unplaced (p + 1) (q + 1) skip rest
raws-unplaced p q zero (kind ∷ rest) =
    then-unplaced p q kind rest (option_body kind rest) (λ skip. raws-unplaced (p + 1) (q + 1) skip rest)

entry-unplaced : (part : Part) (marked : Bool) (raw : RawOption) (placed following : Bool → List (Result Entry OptFault))
    → ((next : Bool) → ack_vectors (placed next) ≡ ack_vectors (following next))
    → ack_vectors (entry_then part marked (unplaced raw) placed) ≡ ack_vectors (entry_then part marked raw following)
entry-unplaced Padding marked raw placed following same = same false
entry-unplaced Mandatory false raw placed following same = same true
entry-unplaced Mandatory true raw placed following same = refl
entry-unplaced Listed marked raw placed following same =
    ap (λ (others : List (List ℕ)). (if is_ack_vector raw.kind then raw.body ∷ [] else []) ++ others) (same false)

vectors-unplaced : (marked : Bool) (raws : List RawOption)
    → ack_vectors (marked_entries marked (map unplaced raws)) ≡ ack_vectors (marked_entries marked raws)
vectors-unplaced marked [] = refl
vectors-unplaced marked (raw ∷ rest) =
    entry-unplaced (part_of raw.kind) marked raw (λ next. marked_entries next (map unplaced rest)) (λ next. marked_entries next rest)
    (λ next. vectors-unplaced next rest)

-- whatever the place of the area
vectors-placed : (p q : ℕ) (area : List ℕ) → ack_vectors (marked_entries false (raw_options p 0 area)) ≡ ack_vectors (marked_entries false (raw_options q 0 area))
vectors-placed p q area =
    sym (vectors-unplaced false (raw_options p 0 area))
    ∙ ap (λ (raws : List RawOption). ack_vectors (marked_entries false raws)) (raws-unplaced p q 0 area)
    ∙ vectors-unplaced false (raw_options q 0 area)

pub vectors_anywhere : (on_data : Bool) (place : ℕ) (area : List ℕ) → on_data ≡ false
    → ack_vectors (options_of area false) ≡ ack_vectors (marked_entries false (counted_options on_data (raw_options place 0 area)))
vectors_anywhere false place area is = vectors-placed 0 place area
vectors_anywhere true place area is = cc is

-- what Data packets do not ignore is no Ack Vector
no-vector : (kind : ℕ) (others : List (List ℕ)) → is_ignored_on_data kind ≡ false → (body : List ℕ)
    → (if is_ack_vector kind then body ∷ [] else []) ++ others ≡ others
no-vector kind others counts body = let none : is_ack_vector kind ≡ false = search rules in rw none refl

entry-none : (part : Part) (marked : Bool) (raw : RawOption) (following : Bool → List (Result Entry OptFault)) → is_ignored_on_data raw.kind ≡ false
    → ((next : Bool) → ack_vectors (following next) ≡ []) → ack_vectors (entry_then part marked raw following) ≡ []
entry-none Padding marked raw following counts none = none false
entry-none Mandatory false raw following counts none = none true
entry-none Mandatory true raw following counts none = refl
entry-none Listed marked raw following counts none = no-vector raw.kind (ack_vectors (following false)) counts raw.body ∙ none false

kept-none : (ignored : Bool) (marked : Bool) (raw : RawOption) (kept : List RawOption) → is_ignored_on_data raw.kind ≡ ignored
    → ((next : Bool) → ack_vectors (marked_entries next kept) ≡ [])
    → ack_vectors (marked_entries marked (if not ignored then raw ∷ kept else kept)) ≡ []
kept-none true marked raw kept is none = none marked
kept-none false marked raw kept is none = entry-none (part_of raw.kind) marked raw (λ next. marked_entries next kept) is none

vectors-none : (marked : Bool) (raws : List RawOption)
    → ack_vectors (marked_entries marked (filter (λ raw. not (is_ignored_on_data raw.kind)) raws)) ≡ []
vectors-none false [] = refl
vectors-none true [] = refl
vectors-none marked (raw ∷ rest) =
    kept-none (is_ignored_on_data raw.kind) marked raw (filter (λ raw. not (is_ignored_on_data raw.kind)) rest) refl (λ next. vectors-none next rest)

pub none_on_data : (on_data : Bool) (raws : List RawOption) → on_data ≡ true → [] ≡ ack_vectors (marked_entries false (counted_options on_data raws))
none_on_data true raws is = sym (vectors-none false raws)
none_on_data false raws is = cc is
