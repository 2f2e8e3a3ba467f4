-- The list that is computed is the one list of its area.
use Rattle.std.proofs.Common.{◌≡◌, ℕ, zero, suc, ◌+◌, ◌-◌, ◌≤◌, ◌<◌, ◌⊎◌, inl, inr, Bool, true, false, List, [], ◌∷◌, ◌++◌, length, take, drop, None, Result, Ok, refl, ap, sym, ◌∙◌, subst, arith, length-append, nat_le}
use Rattle.std.proofs.lemmas.List.{length-take-le, take-append-drop}
use Rattle.std.proofs.lemmas.Grind.{common_steps}
use Rattle.dccp_options.specs.declared.option.OptFault.{OptFault}
use Rattle.dccp_options.specs.Grammar.{Entry, RawOption, raw_options, option_body, is_one_byte, counted_options, is_ignored_on_data, marked_entries, part_of, options_of, at_end}
use Rattle.dccp_options.specs.Grammar.Part.{Listed}
use Rattle.dccp_options.specs.Listing.{IsCut, IsListed}
use Rattle.dccp_options.specs.Listing.IsListed.{at_the_end, cut, padding, mandatory, twice, mandatory_on_data, one_byte, with_length, ignored}
use Rattle.dccp_options.proofs.ReadBack.{raw_options-long, part-listed, has_length}

-- the list that Grammar computes
abbrev pub listing : Bool → Bool → ℕ → List ℕ → List (Result Entry OptFault)
listing on_data marked place area = marked_entries marked (counted_options on_data (raw_options place 0 area))

pub listing-padding : (on_data marked : Bool) (place : ℕ) (rest : List ℕ)
    → listing on_data marked place (0 ∷ rest) ≡ listing on_data false (place + 1) rest
listing-padding false marked place rest = refl
listing-padding true marked place rest = refl

-- an option of this type that is not ignored on the packet is listed
pub listed-first : (on_data marked : Bool) (place kind : ℕ) (body : List ℕ) (rest : List RawOption) → part_of kind ≡ Listed
    → (on_data ≡ true → is_ignored_on_data kind ≡ false)
    → marked_entries marked (counted_options on_data (record { place = place; kind = kind; body = body } ∷ rest))
    ≡ Ok (record { place = place; mandatory = marked; kind = kind; body = body }) ∷ marked_entries false (counted_options on_data rest)
listed-first false marked place kind body rest part counts = rw part refl
listed-first true marked place kind body rest part counts =
    let read : is_ignored_on_data kind ≡ false = counts refl in rw (read, part) refl

pub ignored-first : (marked : Bool) (place kind : ℕ) (body : List ℕ) (rest : List RawOption) → is_ignored_on_data kind ≡ true
    → marked_entries marked (counted_options true (record { place = place; kind = kind; body = body } ∷ rest))
    ≡ marked_entries marked (counted_options true rest)
ignored-first marked place kind body rest ignores = rw ignores refl

pub part-one_byte : (kind : ℕ) → 2 ≤ kind → part_of kind ≡ Listed
part-one_byte kind h = grind (arith, common_steps)

pub read-one_byte : (kind : ℕ) → 2 ≤ kind → kind < 32 → is_ignored_on_data kind ≡ false
read-one_byte kind h k = grind (arith, common_steps)

pub raws-one_byte : (place kind : ℕ) (rest : List ℕ) → kind < 32
    → raw_options place 0 (kind ∷ rest) ≡ record { place = place; kind = kind; body = [] } ∷ raw_options (place + 1) 0 rest
raws-one_byte place kind rest h =
    let one : is_one_byte kind ≡ true = grind (arith, common_steps) in simp one

pub body-cut : (kind : ℕ) (rest : List ℕ) → 32 ≤ kind → IsCut rest → option_body kind rest ≡ None
body-cut kind [] h _ = let long = has_length kind h in rw long refl
body-cut kind (count ∷ rest) h (inl short) = grind (arith, common_steps)
body-cut kind (count ∷ rest) h (inr beyond) = grind (arith, common_steps)

pub listing-cut : (on_data marked : Bool) (place kind : ℕ) (rest : List ℕ) → 32 ≤ kind → IsCut rest
    → listing on_data marked place (kind ∷ rest) ≡ at_end marked
listing-cut false marked place kind rest h is_cut = rw (body-cut kind rest h is_cut) refl
listing-cut true marked place kind rest h is_cut = rw (body-cut kind rest h is_cut) refl

-- each list of an area is the one that is computed
pub listing-only : {on_data marked : Bool} {place : ℕ} {area : List ℕ} {items : List (Result Entry OptFault)}
    → IsListed on_data marked place area items → items ≡ listing on_data marked place area
listing-only {on_data = false} at_the_end = refl
listing-only {on_data = true} at_the_end = refl
listing-only {on_data} (cut {marked = m} {place = p} {kind = k} {rest = r} h c) = sym (listing-cut on_data m p k r h c)
listing-only {on_data} (padding {marked = m} {place = p} {rest = r} later) = listing-only later ∙ sym (listing-padding on_data m p r)
listing-only {on_data = false} (mandatory off later) = listing-only later
listing-only {on_data = true} (mandatory off later) = cc
listing-only {on_data = false} (twice off) = refl
listing-only {on_data = true} (twice off) = cc
listing-only {on_data = false} (mandatory_on_data on later) = cc
listing-only {on_data = true} (mandatory_on_data on later) = listing-only later
listing-only {on_data} (one_byte {marked = m} {place = p} {kind = k} {rest = r} low high later) =
    ap (λ xs. Ok (record { place = p; mandatory = m; kind = k; body = [] }) ∷ xs) (listing-only later)
    ∙ sym (ap (λ raws. marked_entries m (counted_options on_data raws)) (raws-one_byte p k r high)
    ∙ listed-first on_data m p k [] (raw_options (p + 1) 0 r) (part-one_byte k low) (λ _. read-one_byte k low high))
listing-only {on_data} (with_length {marked = m} {place = p} {kind = k} b r h counts later) =
    ap (λ xs. Ok (record { place = p; mandatory = m; kind = k; body = b }) ∷ xs) (listing-only later)
    ∙ sym (ap (λ raws. marked_entries m (counted_options on_data raws)) (raw_options-long p k b r h)
    ∙ listed-first on_data m p k b (raw_options (p + (length b + 2)) 0 r) (part-listed k h) counts)
listing-only {on_data = false} (ignored {marked = m} {place = p} {kind = k} b r h on ignores later) = cc
listing-only {on_data = true} (ignored {marked = m} {place = p} {kind = k} b r h on ignores later) =
    listing-only later
    ∙ sym (ap (λ raws. marked_entries m (counted_options true raws)) (raw_options-long p k b r h)
    ∙ ignored-first m p k b (raw_options (p + (length b + 2)) 0 r) ignores)

-- what follows a type byte is cut, or is a length and as many bytes as it counts
pub record Counts (rest : List ℕ) : Type 0 where
  pub body : List ℕ
  pub following : List ℕ
  pub is : rest ≡ (length body + 2) ∷ (body ++ following)

-- a test is true or false
pub either : (b : Bool) → (b ≡ true) ⊎ (b ≡ false)
either true = inl refl
either false = inr refl

pub at_least_or_below : (a b : ℕ) → (a ≤ b) ⊎ (b < a)
at_least_or_below a b = elim (either (nat_le a b)) [ inl h ↦ inl (grind (arith, common_steps, h)) | inr h ↦ inr (grind (arith, common_steps, h)) ]

pub counts-from : (count : ℕ) (rest : List ℕ) → 2 ≤ count → count ≤ length rest + 2 → Counts (count ∷ rest)
counts-from count rest low high =
    let n : count - 2 ≤ length rest = omega arith in
    let long = length-take-le (count - 2) rest n in
    let whole = take-append-drop (count - 2) rest in
    let counted : count ≡ length (take (count - 2) rest) + 2 = omega (arith, long) in
    record {
      body = take (count - 2) rest;
      following = drop (count - 2) rest;
      is = ap (λ c. c ∷ rest) counted ∙ ap (λ xs. (length (take (count - 2) rest) + 2) ∷ xs) (sym whole);
    }

pub cut_or_counts : (rest : List ℕ) → IsCut rest ⊎ Counts rest
cut_or_counts [] = inl tt
cut_or_counts (count ∷ rest) =
    elim (at_least_or_below 2 count) [
      | inr short ↦ inl (inl short)
      | inl low ↦ elim (at_least_or_below count (length rest + 2)) [
        | inr beyond ↦ inl (inr beyond)
        | inl high ↦ inr (counts-from count rest low high)
      ]
    ]

-- an option with a length, where what follows it has its list
pub long-is : (on_data marked : Bool) (place kind : ℕ) (body following : List ℕ) → 32 ≤ kind
    → ((next : Bool) → IsListed on_data next (place + (length body + 2)) following (listing on_data next (place + (length body + 2)) following))
    → IsListed on_data marked place (kind ∷ (length body + 2) ∷ (body ++ following))
    (listing on_data marked place (kind ∷ (length body + 2) ∷ (body ++ following)))
long-is false marked place kind body following h later =
    let area = kind ∷ (length body + 2) ∷ (body ++ following) in
    let long = ap (λ raws. marked_entries marked (counted_options false raws)) (raw_options-long place kind body following h) in
    let first = listed-first false marked place kind body (raw_options (place + (length body + 2)) 0 following) (part-listed kind h) (λ off. cc) in
    subst (λ items. IsListed false marked place area items) (sym (long ∙ first)) (with_length body following h (λ off. cc) (later false))
long-is true marked place kind body following h later =
    let area = kind ∷ (length body + 2) ∷ (body ++ following) in
    let raws = raw_options (place + (length body + 2)) 0 following in
    let long = ap (λ all. marked_entries marked (counted_options true all)) (raw_options-long place kind body following h) in
    elim (either (is_ignored_on_data kind)) [
      | inl ignores ↦ subst (λ items. IsListed true marked place area items)
          (sym (long ∙ ignored-first marked place kind body raws ignores)) (ignored body following h refl ignores (later marked))
      | inr reads ↦ subst (λ items. IsListed true marked place area items)
          (sym (long ∙ listed-first true marked place kind body raws (part-listed kind h) (λ _. reads)))
          (with_length body following h (λ _. reads) (later false))
    ]

-- the computed list is one of its area
pub listing-is : (most : ℕ) (on_data marked : Bool) (place : ℕ) (area : List ℕ) → length area ≤ most
    → IsListed on_data marked place area (listing on_data marked place area)
listing-is most false marked place [] h = at_the_end
listing-is most true marked place [] h = at_the_end
listing-is zero on_data marked place (kind ∷ rest) h = absurd (omega arith)
listing-is (suc most) on_data marked place (zero ∷ rest) h =
    subst (λ items. IsListed on_data marked place (0 ∷ rest) items) (sym (listing-padding on_data marked place rest))
    (padding (listing-is most on_data false (place + 1) rest (omega arith)))
listing-is (suc most) false false place (suc zero ∷ rest) h = mandatory refl (listing-is most false true (place + 1) rest (omega arith))
listing-is (suc most) false true place (suc zero ∷ rest) h = twice refl
listing-is (suc most) true marked place (suc zero ∷ rest) h =
    mandatory_on_data refl (listing-is most true marked (place + 1) rest (omega arith))
listing-is (suc most) on_data marked place (suc (suc k) ∷ rest) h =
    let kind = suc (suc k) in
    let raws = raw_options (place + 1) 0 rest in
    elim (at_least_or_below 32 kind) [
      | inr low ↦
          let here = ap (λ all. marked_entries marked (counted_options on_data all)) (raws-one_byte place kind rest low)
          ∙ listed-first on_data marked place kind [] raws (part-one_byte kind (omega arith)) (λ _. read-one_byte kind (omega arith) low) in
          subst (λ items. IsListed on_data marked place (kind ∷ rest) items) (sym here)
          (one_byte (omega arith) low (listing-is most on_data false (place + 1) rest (omega arith)))
      | inl long ↦ elim (cut_or_counts rest) [
        | inl is_cut ↦ subst (λ items. IsListed on_data marked place (kind ∷ rest) items)
            (sym (listing-cut on_data marked place kind rest long is_cut)) (cut long is_cut)
        | inr counted ↦
            let shorter : length counted.following ≤ most =
            omega (arith, ap length counted.is, length-append counted.body counted.following) in
            subst (λ r. IsListed on_data marked place (kind ∷ r) (listing on_data marked place (kind ∷ r))) (sym counted.is)
            (long-is on_data marked place kind counted.body counted.following long
            (λ next. listing-is most on_data next (place + (length counted.body + 2)) counted.following shorter))
      ]
    ]

-- the list of an area, and no other
pub options_of-is_listed : (area : List ℕ) (on_data : Bool) → IsListed on_data false 0 area (options_of area on_data)
options_of-is_listed area on_data = listing-is (length area) on_data false 0 area (omega arith)

pub options_of-only : (area : List ℕ) (on_data : Bool) (items : List (Result Entry OptFault))
    → IsListed on_data false 0 area items → items ≡ options_of area on_data
options_of-only area on_data items listed = listing-only listed
