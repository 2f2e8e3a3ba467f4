-- What a writer of options writes, the list of options reads.
use Rattle.std.proofs.Common.{◌≡◌, ℕ, zero, suc, ◌+◌, ◌-◌, ◌≤◌, Bool, true, false, nat_le, List, [], ◌∷◌, ◌++◌, length, take, drop, map, replicate, Some, None, Ok, inl, inr, refl, ap, sym, ◌∙◌, arith, append_assoc, append-nil, length-append, All}
use Rattle.std.proofs.lemmas.Grind.{common_steps}
use Rattle.std.proofs.lemmas.List.Elements.{All-tail}
use Rattle.std.proofs.Math.Seq.{take-append_seam, drop-append_seam}
use Rattle.dccp_options.specs.Grammar.{Entry, RawOption, raw_options, raw_then, counted_body, option_body, bytes_after, is_one_byte, marked_entries, entry_then, part_of, options_of}
use Rattle.dccp_options.specs.Grammar.Part.{Listed}
use Rattle.dccp_options.specs.Listing.{IsCut}
use Rattle.dccp_options.specs.Written.{Item, IsWritable, mark, spelled, written, entries_at, item_at}
use Rattle.dccp_options.proofs.RawOptions.{raw_options-first}

-- a type from 32 on has a length
pub has_length : (kind : ℕ) → 32 ≤ kind → is_one_byte kind ≡ false
has_length kind h = grind (arith, common_steps)

-- the data of an option as it is written, whatever follows it
pub option_body-long : (kind : ℕ) (body more : List ℕ) → 32 ≤ kind
    → option_body kind ((length body + 2) ∷ (body ++ more)) ≡ Some body
option_body-long kind body more h =
    let one : is_one_byte kind ≡ false = has_length kind h in
    let e : length body + 2 - 2 ≡ length body = omega arith in
    let fits : nat_le (length body) (length (body ++ more)) ≡ true = grind (arith, length-append body more) in
    let front : take (length body) (body ++ more) ≡ body = take-append_seam body more in
    let two : nat_le 2 (length body + 2) ≡ true = grind arith in
    rw (one, two, e, fits, front) refl

pub bytes_after-long : (kind : ℕ) (body : List ℕ) → 32 ≤ kind → bytes_after kind body ≡ length body + 1
bytes_after-long kind body h = let one : is_one_byte kind ≡ false = has_length kind h in rw one refl

pub part-listed : (kind : ℕ) → 32 ≤ kind → part_of kind ≡ Listed
part-listed kind h = grind (arith, common_steps)

-- the option that is there, and those after it
pub raw_options-long : (place kind : ℕ) (body more : List ℕ) → 32 ≤ kind
    → raw_options place 0 (kind ∷ (length body + 2) ∷ (body ++ more))
    ≡ record { place = place; kind = kind; body = body } ∷ raw_options (place + (length body + 2)) 0 more
raw_options-long place kind body more h =
    let after = bytes_after-long kind body h in
    let fits : bytes_after kind body ≤ length ((length body + 2) ∷ (body ++ more)) =
    grind (arith, common_steps, after, length-append body more) in
    let first = raw_options-first place kind ((length body + 2) ∷ (body ++ more)) body (option_body-long kind body more h) fits in
    let n : place + 1 + bytes_after kind body ≡ place + (length body + 2) = omega (arith, after) in
    let d : drop (bytes_after kind body) ((length body + 2) ∷ (body ++ more)) ≡ more =
    let n : bytes_after kind body ≡ suc (length body) = omega (arith, after) in
    ap (λ k. drop k ((length body + 2) ∷ (body ++ more))) n ∙ drop-append_seam body more in
    first ∙ ap (λ p. record { place = place; kind = kind; body = body }
    ∷ raw_options p 0 (drop (bytes_after kind body) ((length body + 2) ∷ (body ++ more)))) n
    ∙ ap (λ b. record { place = place; kind = kind; body = body } ∷ raw_options (place + (length body + 2)) 0 b) d

-- an option with a length is listed, with its mark
pub entries-listed : (marked : Bool) (place kind : ℕ) (body : List ℕ) (rest : List RawOption) → 32 ≤ kind
    → marked_entries marked (record { place = place; kind = kind; body = body } ∷ rest)
    ≡ Ok (record { place = place; mandatory = marked; kind = kind; body = body }) ∷ marked_entries false rest
entries-listed marked place kind body rest h =
    ap (λ part. entry_then part marked (record { place = place; kind = kind; body = body }) (λ next. marked_entries next rest))
    (part-listed kind h)

-- zeros after the options list nothing
pub entries-padding : (place pads : ℕ) → marked_entries false (raw_options place 0 (replicate pads 0)) ≡ []
entries-padding place zero = refl
entries-padding place (suc pads) = entries-padding (place + 1) pads

-- one option, in front of what is listed after it
pub entries-spelled : (place kind : ℕ) (mandatory : Bool) (body more : List ℕ) → 32 ≤ kind
    → marked_entries false (raw_options place 0 (spelled mandatory kind body ++ more))
    ≡ Ok (record { place = place + length (mark mandatory); mandatory = mandatory; kind = kind; body = body })
    ∷ marked_entries false (raw_options (place + length (spelled mandatory kind body)) 0 more)
entries-spelled place kind false body more h =
    let long = raw_options-long place kind body more h in
    let n : place + (length body + 2) ≡ place + length (spelled false kind body) = omega arith in
    let p : place ≡ place + 0 = omega arith in
    ap (marked_entries false) long ∙ entries-listed false place kind body (raw_options (place + (length body + 2)) 0 more) h
    ∙ ap (λ at. Ok (record { place = at; mandatory = false; kind = kind; body = body })
    ∷ marked_entries false (raw_options (place + (length body + 2)) 0 more)) p
    ∙ ap (λ at. Ok (record { place = place + 0; mandatory = false; kind = kind; body = body })
    ∷ marked_entries false (raw_options at 0 more)) n
entries-spelled place kind true body more h =
    let long = raw_options-long (place + 1) kind body more h in
    let n : place + 1 + (length body + 2) ≡ place + length (spelled true kind body) = omega arith in
    ap (marked_entries true) long ∙ entries-listed true (place + 1) kind body (raw_options (place + 1 + (length body + 2)) 0 more) h
    ∙ ap (λ at. Ok (record { place = place + 1; mandatory = true; kind = kind; body = body })
    ∷ marked_entries false (raw_options at 0 more)) n

-- the options that were written, and zeros after them, are listed place by place
pub entries-written : (place pads : ℕ) (items : List Item) → All (λ item. IsWritable item) items
    → marked_entries false (raw_options place 0 (written items ++ replicate pads 0)) ≡ map Ok (entries_at place items)
entries-written place pads [] _ = entries-padding place pads
entries-written place pads (item ∷ rest) all =
    let following = written rest ++ replicate pads 0 in
    let first : IsWritable item = all 0 item (omega arith) in
    let others = All-tail (λ i. IsWritable i) item rest all in
    let joined = append_assoc (spelled item.mandatory item.kind item.body) (written rest) (replicate pads 0) in
    let here = entries-spelled place item.kind item.mandatory item.body following first.has_length in
    let later = entries-written (place + length (spelled item.mandatory item.kind item.body)) pads rest others in
    ap (λ b. marked_entries false (raw_options place 0 b)) joined
    ∙ here
    ∙ ap (λ xs. Ok (record { place = place + length (mark item.mandatory); mandatory = item.mandatory; kind = item.kind; body = item.body }) ∷ xs) later

pub options_of-written : (items : List Item) (pads : ℕ) → All IsWritable items
    → options_of (written items ++ replicate pads 0) false ≡ map Ok (entries_at 0 items)
options_of-written items pads all = entries-written 0 pads items all

-- one more option follows the others
pub written-more : (items : List Item) (item : Item)
    → written (items ++ item ∷ []) ≡ written items ++ spelled item.mandatory item.kind item.body
written-more [] item = append-nil (spelled item.mandatory item.kind item.body)
written-more (first ∷ rest) item =
    let bytes = spelled first.mandatory first.kind first.body in
    ap (λ xs. bytes ++ xs) (written-more rest item)
    ∙ sym (append_assoc bytes (written rest) (spelled item.mandatory item.kind item.body))

-- the entries of options are the options, in their order
pub items-entries_at : (place : ℕ) (items : List Item) → map item_at (entries_at place items) ≡ items
items-entries_at place [] = refl
items-entries_at place (item ∷ rest) =
    ap (λ items. item ∷ items) (items-entries_at (place + length (spelled item.mandatory item.kind item.body)) rest)

pub said-entries_at : (place : ℕ) (items : List Item)
    → map {B = ℕ × List ℕ} (λ (entry : Entry). (entry.kind, entry.body)) (entries_at place items) ≡ map {B = ℕ × List ℕ}
    (λ (item : Item). (item.kind, item.body)) items
said-entries_at place [] = refl
said-entries_at place (item ∷ rest) =
    ap (λ said. (item.kind, item.body) ∷ said) (said-entries_at (place + length (spelled item.mandatory item.kind item.body)) rest)

-- an option whose length is wrong is none
pub option_body-cut : (kind : ℕ) (rest : List ℕ) → 32 ≤ kind → IsCut rest → option_body kind rest ≡ None
option_body-cut kind [] h cut = let one : is_one_byte kind ≡ false = has_length kind h in rw one refl
option_body-cut kind (count ∷ rest) h cut =
    let one : is_one_byte kind ≡ false = has_length kind h in
    rw one (counted_body-cut count rest cut)
  where
    counted_body-cut : (count : ℕ) (rest : List ℕ) → IsCut (count ∷ rest) → counted_body (count ∷ rest) ≡ None
    counted_body-cut count rest (inl short) = let two : nat_le 2 count ≡ false = grind arith in rw two refl
    counted_body-cut count rest (inr beyond) =
        let two : nat_le 2 count ≡ true = grind arith in
        let fits : nat_le (count - 2) (length rest) ≡ false = grind arith in
        rw (two, fits) refl

-- the options that were written are listed, whatever follows them
pub entries-before : (place : ℕ) (items : List Item) (more : List ℕ) → All (λ item. IsWritable item) items
    → marked_entries false (raw_options place 0 (written items ++ more))
    ≡ map Ok (entries_at place items) ++ marked_entries false (raw_options (place + length (written items)) 0 more)
entries-before place [] more _ = ap (λ at. marked_entries false (raw_options at 0 more)) (omega arith)
entries-before place (item ∷ rest) more all =
    let here = spelled item.mandatory item.kind item.body in
    let first : IsWritable item = all 0 item (omega arith) in
    let others = All-tail (λ i. IsWritable i) item rest all in
    let at : place + length here + length (written rest) ≡ place + length (here ++ written rest) =
    omega (arith, length-append here (written rest)) in
    ap (λ b. marked_entries false (raw_options place 0 b)) (append_assoc here (written rest) more)
    ∙ entries-spelled place item.kind item.mandatory item.body (written rest ++ more) first.has_length
    ∙ ap (λ xs. Ok (record { place = place + length (mark item.mandatory); mandatory = item.mandatory; kind = item.kind; body = item.body }) ∷ xs)
    (entries-before (place + length here) rest more others
    ∙ ap (λ p. map Ok (entries_at (place + length here) rest) ++ marked_entries false (raw_options p 0 more)) at)

-- one whose length is wrong ends the list as the area's end does
pub options_of-cut : (items : List Item) (kind : ℕ) (rest : List ℕ) → All IsWritable items → 32 ≤ kind → IsCut rest
    → options_of (written items ++ kind ∷ rest) false ≡ options_of (written items) false
options_of-cut items kind rest all h cut =
    let none = option_body-cut kind rest h cut in
    let place = length (written items) in
    let ends : raw_options (0 + place) 0 (kind ∷ rest) ≡ [] =
    ap (λ found. raw_then (0 + place) kind found (λ skip. raw_options (0 + place + 1) skip rest)) none in
    entries-before 0 items (kind ∷ rest) all
    ∙ ap (λ raws. map Ok (entries_at 0 items) ++ marked_entries false raws) ends
    ∙ sym (ap (λ b. options_of b false) (sym (append-nil (written items))) ∙ entries-before 0 items [] all)
