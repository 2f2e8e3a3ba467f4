-- The Data Dropped options after those that an end wrote.
use Rattle.std.proofs.Common.{◌≡◌, ℕ, ◌+◌, ◌-◌, ◌%◌, ◌==◌, Bool, true, false, List, [], ◌∷◌, ◌++◌, length, map, replicate, Result, Ok, if◌then◌else◌, refl, ap, sym, subst, ◌∙◌, inl, inr, arith, append_assoc, All}
use Rattle.std.proofs.lemmas.Bool.{cases_eq, eq-eqb, ne_eqb}
use Rattle.std.proofs.lemmas.List.Elements.{All-cons, All-head, All-nil, All-tail}
use Rattle.dccp_options.specs.Grammar.{Entry, marked_entries, options_of}
use Rattle.dccp_options.specs.Kinds.{data_dropped}
use Rattle.dccp_options.specs.Written.{Item, IsWritable, entries_at, listed_from, spelled, written}
use Rattle.dccp_options.specs.declared.option.OptFault.{OptFault}
use Rattle.dccp_options.proofs.AfterZeros.{options_after_zeros}
use Rattle.dccp_options.proofs.Listings.{raws-one_byte}
use Rattle.dccp_options.proofs.ReadBack.{entries-padding, entries-spelled}
use Rattle.dccp_packets.specs.Grammar.{padded}
use Rattle.data_dropped.specs.Drops.{drop_bytes}
use Rattle.data_dropped.specs.Frames.{drops_said, said, slow_said}
use Rattle.data_dropped.specs.Inbox.{InboxState, is_slow}
use Rattle.data_dropped.specs.Reports.{drop_options, dropped_in}
use Rattle.data_dropped.specs.Telling.{IsPassedOver, one_option}

pub drop_options-append : (front following : List (Result Entry OptFault)) → drop_options (front ++ following) ≡ drop_options front ++ drop_options following
drop_options-append [] following = refl
drop_options-append (item ∷ front) following =
    ap (λ (rest : List (List ℕ)). dropped_in item ++ rest) (drop_options-append front following)
    ∙ sym (append_assoc (dropped_in item) (drop_options front) (drop_options following))

-- options of other types report nothing
abbrev pub IsOther : Item → Type 0
IsOther item = (item.kind == data_dropped) ≡ false

pub others-tell_nothing : (place : ℕ) (items : List Item) → All IsOther items → drop_options (map Ok (entries_at place items)) ≡ []
others-tell_nothing place [] others = refl
others-tell_nothing place (item ∷ items) others =
    let other : (item.kind == data_dropped) ≡ false = All-head IsOther item items others in
    ap (λ (b : Bool). (if b then item.body ∷ [] else []) ++ drop_options
    (map Ok (entries_at (place + length (spelled item.mandatory item.kind item.body)) items))) other
    ∙ others-tell_nothing (place + length (spelled item.mandatory item.kind item.body)) items (All-tail IsOther item items others)

zeros-tell_nothing : (place zeros : ℕ) → drop_options (listed_from place (replicate zeros 0)) ≡ []
zeros-tell_nothing place zeros = ap drop_options (entries-padding place zeros)

slow-tells_nothing : (place zeros : ℕ) (slow : Bool) → drop_options (listed_from place (slow_said slow ++ replicate zeros 0)) ≡ []
slow-tells_nothing place zeros false = zeros-tell_nothing place zeros
slow-tells_nothing place zeros true =
    ap (λ (raws : List _). drop_options (marked_entries false raws)) (raws-one_byte place 2 (replicate zeros 0) (omega arith))
    ∙ zeros-tell_nothing (place + 1) zeros

drops-told : (place zeros : ℕ) (bytes : List ℕ) (slow : Bool)
    → drop_options (listed_from place (spelled false data_dropped bytes ++ (slow_said slow ++ replicate zeros 0))) ≡ bytes ∷ []
drops-told place zeros bytes slow =
    ap drop_options (entries-spelled place data_dropped false bytes (slow_said slow ++ replicate zeros 0) (omega arith))
    ∙ ap (λ (rest : List (List ℕ)). bytes ∷ rest) (slow-tells_nothing (place + length (spelled false data_dropped bytes)) zeros slow)

-- what is said is the report
said-tells : (place zeros : ℕ) (bytes : List ℕ) (slow : Bool)
    → drop_options (listed_from place ((drops_said bytes ++ slow_said slow) ++ replicate zeros 0)) ≡ one_option bytes
said-tells place zeros bytes slow =
    elim (cases_eq (length bytes) 0) [
      | inl none ↦ rw (eq-eqb (length bytes) 0 none) (slow-tells_nothing place zeros slow)
      | inr some ↦ rw (ne_eqb (length bytes) 0 some)
          (ap (λ (all : List ℕ). drop_options (listed_from place all)) (append_assoc (spelled false data_dropped bytes) (slow_said slow) (replicate zeros 0))
          ∙ drops-told place zeros bytes slow)
    ]

-- and an end passes over all of it
zeros-passed : (place zeros : ℕ) → All IsPassedOver (listed_from place (replicate zeros 0))
zeros-passed place zeros = subst (λ (all : List (Result Entry OptFault)). All IsPassedOver all) (sym (entries-padding place zeros)) (All-nil IsPassedOver)

slow-passed : (place zeros : ℕ) (slow : Bool) → All IsPassedOver (listed_from place (slow_said slow ++ replicate zeros 0))
slow-passed place zeros false = zeros-passed place zeros
slow-passed place zeros true =
    subst (λ (raws : List _). All IsPassedOver (marked_entries false raws)) (sym (raws-one_byte place 2 (replicate zeros 0) (omega arith)))
    (All-cons IsPassedOver _ (listed_from (place + 1) (replicate zeros 0)) (inr (refl, refl)) (zeros-passed (place + 1) zeros))

drops-passed : (place zeros : ℕ) (bytes : List ℕ) (slow : Bool)
    → All IsPassedOver (listed_from place (spelled false data_dropped bytes ++ (slow_said slow ++ replicate zeros 0)))
drops-passed place zeros bytes slow =
    subst (λ (all : List (Result Entry OptFault)). All IsPassedOver all)
    (sym (entries-spelled place data_dropped false bytes (slow_said slow ++ replicate zeros 0) (omega arith)))
    (All-cons IsPassedOver _ (listed_from (place + length (spelled false data_dropped bytes)) (slow_said slow ++ replicate zeros 0)) (inl refl)
    (slow-passed (place + length (spelled false data_dropped bytes)) zeros slow))

said-passed : (place zeros : ℕ) (bytes : List ℕ) (slow : Bool)
    → All IsPassedOver (listed_from place ((drops_said bytes ++ slow_said slow) ++ replicate zeros 0))
said-passed place zeros bytes slow =
    elim (cases_eq (length bytes) 0) [
      | inl none ↦ rw (eq-eqb (length bytes) 0 none) (slow-passed place zeros slow)
      | inr some ↦ rw (ne_eqb (length bytes) 0 some)
          (subst (λ (all : List ℕ). All IsPassedOver (listed_from place all))
          (sym (append_assoc (spelled false data_dropped bytes) (slow_said slow) (replicate zeros 0)))
          (drops-passed place zeros bytes slow))
    ]

-- what follows an end's own options in a longer area
abbrev pub listed-after : List Item → ℕ → InboxState → ℕ → List (Result Entry OptFault)
listed-after items zeros held ack =
    listed_from (length (written items) + zeros)
    (said held ack ++ replicate ((4 - length ((written items ++ replicate zeros 0) ++ said held ack) % 4) % 4) 0)

pub after-passed : (items : List Item) (zeros : ℕ) (held : InboxState) (ack : ℕ) → All IsPassedOver (listed-after items zeros held ack)
after-passed items zeros held ack =
    said-passed (length (written items) + zeros) ((4 - length ((written items ++ replicate zeros 0) ++ said held ack) % 4) % 4)
    (drop_bytes held.drops ack) (is_slow held)

pub area-lists : (items : List Item) (zeros : ℕ) (held : InboxState) (ack : ℕ) → All IsWritable items
    → options_of (padded ((written items ++ replicate zeros 0) ++ said held ack)) false ≡ map Ok (entries_at 0 items) ++ listed-after items zeros held ack
area-lists items zeros held ack writable =
    let more : ℕ = (4 - length ((written items ++ replicate zeros 0) ++ said held ack) % 4) % 4 in
    ap (λ (all : List ℕ). options_of all false) (append_assoc (written items ++ replicate zeros 0) (said held ack) (replicate more 0))
    ∙ options_after_zeros items zeros (said held ack ++ replicate more 0) writable

-- after an end's own options, which are filled up with zeros
after-tells : (items : List Item) (zeros more : ℕ) (held : InboxState) (ack : ℕ) → All IsWritable items → All IsOther items
    → drop_options (options_of (((written items ++ replicate zeros 0) ++ said held ack) ++ replicate more 0) false) ≡ one_option (drop_bytes held.drops ack)
after-tells items zeros more held ack writable others =
    let place : ℕ = length (written items) + zeros in
    ap (λ (all : List ℕ). drop_options (options_of all false)) (append_assoc (written items ++ replicate zeros 0) (said held ack) (replicate more 0))
    ∙ ap drop_options (options_after_zeros items zeros (said held ack ++ replicate more 0) writable)
    ∙ drop_options-append (map Ok (entries_at 0 items)) (listed_from place (said held ack ++ replicate more 0))
    ∙ ap (λ (front : List (List ℕ)). front ++ drop_options (listed_from place (said held ack ++ replicate more 0))) (others-tell_nothing 0 items others)
    ∙ said-tells place more (drop_bytes held.drops ack) (is_slow held)

pub area-tells : (items : List Item) (zeros : ℕ) (held : InboxState) (ack : ℕ) → All IsWritable items → All IsOther items
    → drop_options (options_of (padded ((written items ++ replicate zeros 0) ++ said held ack)) false) ≡ one_option (drop_bytes held.drops ack)
area-tells items zeros held ack writable others =
    after-tells items zeros ((4 - length ((written items ++ replicate zeros 0) ++ said held ack) % 4) % 4) held ack writable others
