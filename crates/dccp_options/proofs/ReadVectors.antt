-- Which Ack Vectors are among the options that were written.
use Rattle.std.proofs.Common.{◌≡◌, ℕ, ◌+◌, true, false, List, [], ◌∷◌, ◌++◌, length, map, replicate, Ok, Some, None, if◌then◌else◌, refl, ap, ◌∙◌, arith, All, append-nil}
use Rattle.std.specs.List.{concat}
use Rattle.std.proofs.lemmas.List.Elements.{All-tail}
use Rattle.dccp_options.specs.Grammar.{options_of}
use Rattle.dccp_options.specs.Vectors.{is_ack_vector, ack_vectors, reported, report_of, joined_report, state_at}
use Rattle.dccp_options.specs.Written.{Item, IsWritable, spelled, written, entries_at, item_vectors}
use Rattle.dccp_options.proofs.ReadBack.{options_of-written}

pub ack_vectors-written : (place : ℕ) (items : List Item) → ack_vectors (map Ok (entries_at place items)) ≡ item_vectors items
ack_vectors-written place [] = refl
ack_vectors-written place (item ∷ rest) =
    ap (λ vectors. (if is_ack_vector item.kind then item.body ∷ [] else []) ++ vectors)
    (ack_vectors-written (place + length (spelled item.mandatory item.kind item.body)) rest)

-- options of other types have none
pub item_vectors-none : (items : List Item) → All (λ item. is_ack_vector item.kind ≡ false) items → item_vectors items ≡ []
item_vectors-none [] _ = refl
item_vectors-none (item ∷ rest) all =
    let other : is_ack_vector item.kind ≡ false = all 0 item (omega arith) in
    rw other (item_vectors-none rest (All-tail (λ i. is_ack_vector i.kind ≡ false) item rest all))

pub item_vectors-first : (vector : Item) (others : List Item) → is_ack_vector vector.kind ≡ true
    → All (λ item. is_ack_vector item.kind ≡ false) others → item_vectors (vector ∷ others) ≡ vector.body ∷ []
item_vectors-first vector others is_vector none =
    rw is_vector (ap (λ vectors. vector.body ∷ vectors) (item_vectors-none others none))

-- where one vector was written, and options of other types after it, a packet with these options reports what the
-- vector's bytes give
pub reported-written : (ack n pads : ℕ) (vector : Item) (others : List Item) → All IsWritable (vector ∷ others)
    → is_ack_vector vector.kind ≡ true → All (λ item. is_ack_vector item.kind ≡ false) others
    → reported ack (options_of (written (vector ∷ others) ++ replicate pads 0) false) n ≡ state_at ack vector.body n
reported-written ack n pads vector others all is_vector none =
    let vectors = ack_vectors-written 0 (vector ∷ others) ∙ item_vectors-first vector others is_vector none in
    ap (λ items. reported ack items n) (options_of-written (vector ∷ others) pads all)
    ∙ ap (λ found. state_at ack (concat found) n) vectors
    ∙ ap (λ bytes. state_at ack bytes n) (append-nil vector.body)

-- whatever was written, the report is that of the vectors among it
pub report-written : (ack pads : ℕ) (items : List Item) → All IsWritable items
    → report_of ack (options_of (written items ++ replicate pads 0) false) ≡ joined_report ack (item_vectors items)
report-written ack pads items all =
    ap (report_of ack) (options_of-written items pads all) ∙ ap (joined_report ack) (ack_vectors-written 0 items)

-- of one vector, and options of other types after it
pub report-first : (ack pads : ℕ) (vector : Item) (others : List Item) → All IsWritable (vector ∷ others)
    → is_ack_vector vector.kind ≡ true → All (λ item. is_ack_vector item.kind ≡ false) others
    → report_of ack (options_of (written (vector ∷ others) ++ replicate pads 0) false)
    ≡ Some (record { ack = ack; bytes = vector.body })
report-first ack pads vector others all is_vector none =
    report-written ack pads (vector ∷ others) all
    ∙ ap (joined_report ack) (item_vectors-first vector others is_vector none)
    ∙ ap (λ bytes. Some (record { ack = ack; bytes = bytes })) (append-nil vector.body)

-- and of options of other types alone
pub report-none : (ack pads : ℕ) (items : List Item) → All IsWritable items
    → All (λ item. is_ack_vector item.kind ≡ false) items
    → report_of ack (options_of (written items ++ replicate pads 0) false) ≡ None
report-none ack pads items all none =
    report-written ack pads items all ∙ ap (joined_report ack) (item_vectors-none items none)
