-- Reading stops at the first item that goes wrong, for its fault. The state of reading represents the items that were read: which features they
-- spoke for, and how many Changes there were.
use Rattle.std.proofs.Common.{◌≡◌, ◌≢◌, ◌==◌, ◌&&◌, ◌||◌, ◌<◌, ◌≤◌, not, refl, sym, ap, ◌∙◌, subst, arith, ℕ, ◌+◌, Bool, true, false, List, [], ◌∷◌, ◌++◌, length, Option, Result, Ok, Err, length-set, get_or-set_same, get_or-set_other, eqb-true}
use Rattle.std.specs.Prelude.{if◌then◌else◌, filter, nat_lt, slice_index_or, slice_set}
use Rattle.std.specs.List.{All, list_any}
use Rattle.std.proofs.lemmas.Bool.{and_from, and_left, and_parts, and_right, eq-eqb, false≢true, lt-ltb}
use Rattle.std.proofs.lemmas.List.{append-nil, append_assoc, get_or-replicate, length-append, length-replicate}
use Rattle.std.proofs.lemmas.List.Elements.{All-cons, All-head, All-nil, All-tail, filter-append}
use Rattle.std.proofs.lemmas.List.Folds.{list_any-append}
use Rattle.dccp_options.specs.Grammar.{Entry}
use Rattle.dccp_options.specs.Kinds.{is_understood}
use Rattle.dccp_options.specs.declared.option.OptFault.{OptFault}
use Rattle.dccp_packets.specs.declared.reset_code.ResetCode.TheVariants as codes
use Rattle.feature_machine.specs.Answers.{answered, settling_of}
use Rattle.feature_machine.specs.Negotiating.{changes, confirmed}
use Rattle.feature_machine.specs.Rows.{RowAnswer, Confirms, Ignored, Settled, Fatal, Opens, Waits, Quiet}
use Rattle.feature_machine.specs.declared.row.Row.{Row}
use Rattle.dccp_endpoint.specs.Faults.{mandatory_fault}
use Rattle.dccp_endpoint.specs.FirstFault.{BeginsWithByte, ChangeFails, ConfirmFails, GoesWrong, HasFirstFault, IsFirstFor, ItemFits, MandatoryMisplaced, NotUnderstood, ReadingGoesThrough, ReadingStopsAtTheFirstFault, is_same_letter, speaks_for}
use Rattle.dccp_endpoint.specs.Heeding.{DueConfirm, ReadingState, by_answered, by_settling, counted, fault_of, heeds, heeds_body, heeds_change, heeds_entry, heeds_feature, heeds_first, heeds_item, heeds_then, is_change, is_left, is_of_negotiation, met, misunderstood, place_in_used, unheeded}
use Rattle.dccp_endpoint.specs.Saying.{begins_with_number, changes_among, has_feature_number, is_change_item, negotiates_by, once_if}
use Rattle.dccp_states.specs.declared.outcome.Fault.{Fault}

abbrev pub ListItem : Type 0
ListItem = Result Entry OptFault

-- An option that counts, with its feature number and what follows it.
record Spoken (count : Bool) (entry : Entry) (number : ℕ) (list : List ℕ) : Type 0 where
  on : count ≡ true
  understood : is_understood entry.kind (length entry.body) ≡ true
  its : is_of_negotiation entry.kind ≡ true
  body : entry.body ≡ number ∷ list

-- whether one for the feature, by the letter, was met
abbrev was_met : ReadingState → Entry → ℕ → Bool
was_met h entry number = slice_index_or h.used (place_in_used (is_left entry.kind) number) false

-- The ways of one item.
data Way (count : Bool) (ack : Option ℕ) (h : ReadingState) : ListItem → Result ReadingState Fault → Type 0 where
  Misplaced : (fault : OptFault) → Way count ack h (Err fault) (Err mandatory_fault)
  Unknown : (entry : Entry) → is_understood entry.kind (length entry.body) ≡ false → entry.mandatory ≡ true
      → Way count ack h (Ok entry) (Err (fault_of codes.MandatoryError entry))
  Says : (entry : Entry) → (count && negotiates_by entry) ≡ false → Way count ack h (Ok entry) (Ok h)
  Again : (entry : Entry) (number : ℕ) (list : List ℕ) → Spoken count entry number list → was_met h entry number ≡ true
      → Way count ack h (Ok entry) (Ok (record h { changes = counted h.changes (is_change entry.kind) }))
  Meets : (entry : Entry) (number : ℕ) (list : List ℕ) (rows : List Row) (confirms : List DueConfirm) (change : Bool) → is_change entry.kind ≡ change
      → Spoken count entry number list → Way count ack h (Ok entry) (Ok (met h (place_in_used (is_left entry.kind) number) change rows confirms))
  ChangeWrong : (entry : Entry) (number : ℕ) (list : List ℕ) (code : ℕ) → Spoken count entry number list → is_change entry.kind ≡ true
      → was_met h entry number ≡ false → nat_lt h.changes 64 ≡ true
      → (changes h.rows (is_left entry.kind) number list entry.mandatory).answer ≡ Fatal code
      → Way count ack h (Ok entry) (Err (fault_of codes.MandatoryError entry))
  ConfirmWrong : (entry : Entry) (number : ℕ) (list : List ℕ) (code : ℕ) → Spoken count entry number list → is_change entry.kind ≡ false
      → was_met h entry number ≡ false → (confirmed h.rows (is_left entry.kind) number list ack).answer ≡ Fatal code
      → Way count ack h (Ok entry) (Err (fault_of codes.OptionError entry))

module _ (count : Bool) (ack : Option ℕ) (h : ReadingState) where
  module _ (entry : Entry) (number : ℕ) (list : List ℕ) (spoken : Spoken count entry number list) where
    abbrev place : ℕ
    place = place_in_used (is_left entry.kind) number

    abbrev Goes : Result ReadingState Fault → Type 0
    Goes r = Way count ack h (Ok entry) r

    change-way : is_change entry.kind ≡ true → was_met h entry number ≡ false → nat_lt h.changes 64 ≡ true → (rows : List Row) (x : RowAnswer)
        → (changes h.rows (is_left entry.kind) number list entry.mandatory).answer ≡ x
        → Goes (by_answered h place rows entry (answered (is_left entry.kind) number x))
    change-way change first few rows (Confirms body) is =
        Meets entry number list rows (h.confirms ++ record { left = not (is_left entry.kind); number = number; body = body } ∷ []) true change spoken
    change-way change first few rows (Fatal code) is = ChangeWrong entry number list code spoken change first few is
    change-way change first few rows _ is = Meets entry number list rows h.confirms true change spoken

    confirm-way : is_change entry.kind ≡ false → was_met h entry number ≡ false → (rows : List Row) (x : RowAnswer)
        → (confirmed h.rows (is_left entry.kind) number list ack).answer ≡ x → Goes (by_settling h place rows entry (settling_of x))
    confirm-way other first rows (Fatal code) is = ConfirmWrong entry number list code spoken other first is
    confirm-way other first rows _ is = Meets entry number list rows h.confirms false other spoken

    first-way : (change : Bool) → is_change entry.kind ≡ change → was_met h entry number ≡ false
        → Goes (heeds_first ack h entry change (is_left entry.kind) number list)
    first-way true is first = by (nat_lt h.changes 64) refl where
      by : (few : Bool) → nat_lt h.changes 64 ≡ few
          → Goes (if few then by_answered h place (changes h.rows (is_left entry.kind) number list entry.mandatory).rows entry
          (answered (is_left entry.kind) number (changes h.rows (is_left entry.kind) number list entry.mandatory).answer)
          else Ok (met h place true h.rows h.confirms))
      by true few = change-way is first few _ _ refl
      by false many = Meets entry number list h.rows h.confirms true is spoken
    first-way false is first = confirm-way is first _ _ refl

    feature-way : Goes (heeds_feature ack h entry (is_change entry.kind) (is_left entry.kind) number list)
    feature-way = by (was_met h entry number) refl where
      by : (was : Bool) → was_met h entry number ≡ was
          → Goes (if was then Ok (record h { changes = counted h.changes (is_change entry.kind) })
          else heeds_first ack h entry (is_change entry.kind) (is_left entry.kind) number list)
      by true is = Again entry number list spoken is
      by false is = first-way (is_change entry.kind) refl is

  body-way : (entry : Entry) → count ≡ true → is_understood entry.kind (length entry.body) ≡ true → is_of_negotiation entry.kind ≡ true
      → (body : List ℕ) → entry.body ≡ body → Way count ack h (Ok entry) (heeds_body ack h entry body)
  body-way entry on understood its [] is =
      Says entry
      (and_right count (negotiates_by entry)
      (and_right (is_understood entry.kind (length entry.body)) (is_of_negotiation entry.kind && has_feature_number entry.body)
      (and_right (is_of_negotiation entry.kind) (has_feature_number entry.body) (ap has_feature_number is))))
  body-way entry on understood its (number ∷ list) is =
      feature-way entry number list (record { on = on; understood = understood; its = its; body = is })

  entry-way : (entry : Entry) → Way count ack h (Ok entry) (heeds_entry count ack h entry)
  entry-way entry = by (is_understood entry.kind (length entry.body)) refl (count && is_of_negotiation entry.kind) refl where
    wrong : (mandatory : Bool) → entry.mandatory ≡ mandatory → is_understood entry.kind (length entry.body) ≡ false
        → Way count ack h (Ok entry) (if mandatory then Err (fault_of codes.MandatoryError entry) else Ok h)
    wrong true is unknown = Unknown entry unknown is
    wrong false is unknown =
        Says entry (and_right count (negotiates_by entry)
        (and_left (is_understood entry.kind (length entry.body)) (is_of_negotiation entry.kind && has_feature_number entry.body) unknown))

    by : (known : Bool) → is_understood entry.kind (length entry.body) ≡ known → (counts : Bool) → (count && is_of_negotiation entry.kind) ≡ counts
        → Way count ack h (Ok entry) (if not known then misunderstood h entry else if counts then heeds_body ack h entry entry.body else Ok h)
    by false unknown counts is = wrong entry.mandatory refl unknown
    by true known true is =
        body-way entry (and_parts count (is_of_negotiation entry.kind) is).0 known (and_parts count (is_of_negotiation entry.kind) is).1 entry.body refl
    by true known false is = Says entry (silent count is) where
      silent : (c : Bool) → (c && is_of_negotiation entry.kind) ≡ false → (c && negotiates_by entry) ≡ false
      silent false so = refl
      silent true so =
          and_right (is_understood entry.kind (length entry.body)) (is_of_negotiation entry.kind && has_feature_number entry.body)
          (and_left (is_of_negotiation entry.kind) (has_feature_number entry.body) so)

  item-way : (item : ListItem) → Way count ack h item (heeds_item count ack h item)
  item-way (Ok entry) = entry-way entry
  item-way (Err fault) = Misplaced fault

-- How an item goes that has a fault.
unknown-goes : (count : Bool) (ack : Option ℕ) (h : ReadingState) (entry : Entry) → is_understood entry.kind (length entry.body) ≡ false → entry.mandatory ≡ true
    → heeds_entry count ack h entry ≡ Err (fault_of codes.MandatoryError entry)
unknown-goes count ack h entry unknown mandatory =
    ap (λ (b : Bool).
    if not b then misunderstood h entry else if count && is_of_negotiation entry.kind then heeds_body ack h entry entry.body else Ok h)
    unknown
    ∙ ap (λ (b : Bool). if b then Err (fault_of codes.MandatoryError entry) else Ok h) mandatory

module _ (count : Bool) (ack : Option ℕ) (h : ReadingState) (entry : Entry) (number : ℕ) (list : List ℕ) (spoken : Spoken count entry number list) where
  abbrev letter : Bool
  letter = is_left entry.kind

  spoken-goes : heeds_entry count ack h entry ≡ heeds_feature ack h entry (is_change entry.kind) letter number list
  spoken-goes =
      ap (λ (b : Bool).
      if not b then misunderstood h entry else if count && is_of_negotiation entry.kind then heeds_body ack h entry entry.body else Ok h)
      spoken.understood
      ∙ ap (λ (b : Bool). if b then heeds_body ack h entry entry.body else Ok h) (and_from count (is_of_negotiation entry.kind) spoken.on spoken.its)
      ∙ ap (heeds_body ack h entry) spoken.body

  first-goes : was_met h entry number ≡ false → heeds_entry count ack h entry ≡ heeds_first ack h entry (is_change entry.kind) letter number list
  first-goes first =
      spoken-goes
      ∙ ap (λ (was : Bool).
      if was then Ok (record h { changes = counted h.changes (is_change entry.kind) }) else heeds_first ack h entry (is_change entry.kind) letter number list)
      first

  change-goes : is_change entry.kind ≡ true → was_met h entry number ≡ false → nat_lt h.changes 64 ≡ true → (code : ℕ)
      → (changes h.rows letter number list entry.mandatory).answer ≡ Fatal code → heeds_entry count ack h entry ≡ Err (fault_of codes.MandatoryError entry)
  change-goes change first few code is =
      first-goes first ∙ ap (λ (c : Bool). heeds_first ack h entry c letter number list) change
      ∙ ap (λ (b : Bool). if b then heeds_change h entry letter number list else Ok (met h (place_in_used letter number) true h.rows h.confirms)) few
      ∙ ap (λ (x : RowAnswer).
      by_answered h (place_in_used letter number) (changes h.rows letter number list entry.mandatory).rows entry (answered letter number x))
      is

  confirm-goes : is_change entry.kind ≡ false → was_met h entry number ≡ false → (code : ℕ) → (confirmed h.rows letter number list ack).answer ≡ Fatal code
      → heeds_entry count ack h entry ≡ Err (fault_of codes.OptionError entry)
  confirm-goes other first code is =
      first-goes first ∙ ap (λ (c : Bool). heeds_first ack h entry c letter number list) other
      ∙ ap (λ (x : RowAnswer).
      by_settling h (place_in_used letter number) (confirmed h.rows letter number list ack).rows entry (settling_of x))
      is

-- What was read represents the items: their Changes, up to 64, and which features they spoke for.
data Counts (n : ℕ) (changes : ℕ) : Type 0 where
  Exactly : changes ≡ n → changes ≤ 64 → Counts n changes
  Full : changes ≡ 64 → 64 ≤ n → Counts n changes

counts-more : (n changes : ℕ) (change : Bool) → Counts n changes → Counts (n + once_if change) (counted changes change)
counts-more n changes false (Exactly same few) = Exactly (omega (arith, same)) few
counts-more n changes false (Full same many) = Full same (omega (arith, many))
counts-more n changes true counts = by (nat_lt changes 64) refl counts where
  by : (few : Bool) → nat_lt changes 64 ≡ few → Counts n changes → Counts (n + 1) (if few then changes + 1 else changes)
  by true few (Exactly same most) = Exactly (omega (arith, same)) (grind (arith, few))
  by true few (Full same many) = absurd (grind (arith, few, same))
  by false all (Exactly same most) = Full (grind (arith, all, most)) (grind (arith, all, same))
  by false all (Full same many) = Full same (omega (arith, many))

counted-most : (changes : ℕ) (change : Bool) → counted changes change ≤ changes + once_if change
counted-most changes false = omega arith
counted-most changes true = by (nat_lt changes 64) where
  by : (few : Bool) → (if few then changes + 1 else changes) ≤ changes + 1
  by true = omega arith
  by false = omega arith

spoken-whole : (count : Bool) (entry : Entry) (number : ℕ) (list : List ℕ) → Spoken count entry number list → negotiates_by entry ≡ true
spoken-whole count entry number list spoken =
    and_from (is_understood entry.kind (length entry.body)) (is_of_negotiation entry.kind && has_feature_number entry.body) spoken.understood
    (and_from (is_of_negotiation entry.kind) (has_feature_number entry.body) spoken.its (ap has_feature_number spoken.body))

spoken-change : (count : Bool) (entry : Entry) (number : ℕ) (list : List ℕ) → Spoken count entry number list → is_change_item (Ok entry) ≡ is_change entry.kind
spoken-change count entry number list spoken = ap (λ (b : Bool). b && is_change entry.kind) (spoken-whole count entry number list spoken)

-- An option adds one to the Changes that were met, at most, and that where it is a Change.
pub item-counts : (count : Bool) (ack : Option ℕ) (h next : ReadingState) (entry : Entry) → heeds_entry count ack h entry ≡ Ok next
    → next.changes ≤ h.changes + once_if (is_change_item (Ok entry))
item-counts count ack h next entry step = by next (subst (Way count ack h (Ok entry)) step (entry-way count ack h entry)) where
  by : (next : ReadingState) → Way count ack h (Ok entry) (Ok next) → next.changes ≤ h.changes + once_if (is_change_item (Ok entry))
  by _ (Says _ none) = omega arith
  by _ (Again _ number list spoken was) =
      subst (λ (b : Bool). counted h.changes (is_change entry.kind) ≤ h.changes + once_if b) (sym (spoken-change count entry number list spoken))
      (counted-most h.changes (is_change entry.kind))
  by _ (Meets _ number list rows confirms change is spoken) =
      subst (λ (b : Bool). counted h.changes change ≤ h.changes + once_if b) (sym (spoken-change count entry number list spoken ∙ is))
      (counted-most h.changes change)

-- There are no more Changes than options.
pub changes-few : (options : List ListItem) → changes_among options ≤ length options
changes-few [] = omega arith
changes-few (item ∷ rest) = by (is_change_item item) (changes-few rest) where
  by : (change : Bool) → changes_among rest ≤ length rest
      → length (if change then item ∷ filter is_change_item rest else filter is_change_item rest) ≤ length (item ∷ rest)
  by true few = omega (arith, few)
  by false few = omega (arith, few)

record Sums (count : Bool) (done : List ListItem) (h : ReadingState) : Type 0 where
  size : length h.used ≡ 512
  used : count ≡ true → (left : Bool) (number : ℕ) → number < 256
      → slice_index_or h.used (place_in_used left number) false ≡ list_any (speaks_for left number) done
  changes : count ≡ true → Counts (changes_among done) h.changes

place-fits : (left : Bool) (number : ℕ) → number < 256 → place_in_used left number < 512
place-fits true number fits = omega (arith, fits)
place-fits false number fits = omega (arith, fits)

-- two features, or two letters, have two places
places-differ : (left other : Bool) (number its : ℕ) → ((its == number) && is_same_letter left other) ≡ false
    → place_in_used left number ≢ place_in_used other its
places-differ true true number its apart same = false≢true (sym apart ∙ and_from (its == number) true (eq-eqb its number (omega (arith, same))) refl)
places-differ false false number its apart same = false≢true (sym apart ∙ and_from (its == number) true (eq-eqb its number (omega (arith, same))) refl)
places-differ true false number its apart same = omega (arith, same)
places-differ false true number its apart same = omega (arith, same)

letters-so : (left other : Bool) → is_same_letter left other ≡ true → left ≡ other
letters-so true other is = sym is
letters-so false true is = cc is
letters-so false false is = refl

or-last : (a b : Bool) → (a || (b || false)) ≡ (a || b)
or-last a true = refl
or-last a false = refl

or-false : (a : Bool) → a ≡ (a || false)
or-false true = refl
or-false false = refl

or-true : (a : Bool) → true ≡ (a || true)
or-true true = refl
or-true false = refl

any-more : (left : Bool) (number : ℕ) (done : List ListItem) (item : ListItem)
    → list_any (speaks_for left number) (done ++ item ∷ []) ≡ (list_any (speaks_for left number) done || speaks_for left number item)
any-more left number done item =
    list_any-append (speaks_for left number) done (item ∷ []) ∙ or-last (list_any (speaks_for left number) done) (speaks_for left number item)

length-one : (change : Bool) (item : ListItem) → length (if change then item ∷ [] else []) ≡ once_if change
length-one true item = refl
length-one false item = refl

changes-more : (done : List ListItem) (item : ListItem) → changes_among (done ++ item ∷ []) ≡ changes_among done + once_if (is_change_item item)
changes-more done item =
    ap length (filter-append is_change_item done (item ∷ []))
    ∙ length-append (filter is_change_item done) (filter is_change_item (item ∷ []))
    ∙ ap (λ (n : ℕ). changes_among done + n) (length-one (is_change_item item) item)

-- what an option that counts is among the items
record Is (entry : Entry) (number : ℕ) : Type 0 where
  change : is_change_item (Ok entry) ≡ is_change entry.kind
  speaks : (left : Bool) (other : ℕ) → speaks_for left other (Ok entry) ≡ ((number == other) && is_same_letter left (is_left entry.kind))
  fits : number < 256

spoken-is : (count : Bool) (entry : Entry) (number : ℕ) (list : List ℕ) → BeginsWithByte entry.body → Spoken count entry number list → Is entry number
spoken-is count entry number list fits spoken =
    let whole : negotiates_by entry ≡ true = spoken-whole count entry number list spoken in
    record {
      change = ap (λ (b : Bool). b && is_change entry.kind) whole;
      speaks =
          λ left other.
          ap (λ (b : Bool). b && (begins_with_number other entry.body && is_same_letter left (is_left entry.kind))) whole
          ∙ ap (λ (body : List ℕ). begins_with_number other body && is_same_letter left (is_left entry.kind)) spoken.body;
      fits = subst BeginsWithByte spoken.body fits;
    }

-- an item that says nothing
silent-not : (entry : Entry) → negotiates_by entry ≡ false → (left : Bool) (number : ℕ) → speaks_for left number (Ok entry) ≡ false
silent-not entry none left number = and_left (negotiates_by entry) (begins_with_number number entry.body && is_same_letter left (is_left entry.kind)) none

on-so : (count b : Bool) → (count && b) ≡ false → count ≡ true → b ≡ false
on-so true b is on = is
on-so false b is on = cc on

module _ (count : Bool) (ack : Option ℕ) (done : List ListItem) (h : ReadingState) (sums : Sums count done h) where
  sums-more : (next : ReadingState) (item : ListItem) → ItemFits item → Way count ack h item (Ok next) → Sums count (done ++ item ∷ []) next
  sums-more _ _ fits (Says entry none) =
      record {
        size = sums.size;
        used =
            λ on left number small.
            sums.used on left number small ∙ or-false (list_any (speaks_for left number) done)
            ∙ ap (λ (b : Bool). list_any (speaks_for left number) done || b) (sym (silent-not entry (on-so count (negotiates_by entry) none on) left number))
            ∙ sym (any-more left number done (Ok entry));
        changes =
            λ on.
            subst (λ (n : ℕ). Counts n h.changes)
            (sym (changes-more done (Ok entry)
            ∙ ap (λ (b : Bool). changes_among done + once_if b)
            (and_left (negotiates_by entry) (is_change entry.kind) (on-so count (negotiates_by entry) none on))))
            (counts-more (changes_among done) h.changes false (sums.changes on));
      }
  sums-more _ _ fits (Again entry number list spoken was) =
      let its = spoken-is count entry number list fits spoken in
      record {
        size = sums.size;
        used =
            λ on left other small.
            sums.used on left other small ∙ again on left other its ∙ sym (any-more left other done (Ok entry));
        changes =
            λ on.
            subst (λ (n : ℕ). Counts n (counted h.changes (is_change entry.kind)))
            (sym (changes-more done (Ok entry) ∙ ap (λ (b : Bool). changes_among done + once_if b) its.change))
            (counts-more (changes_among done) h.changes (is_change entry.kind) (sums.changes on));
      }
    where
      again : count ≡ true → (left : Bool) (other : ℕ) → Is entry number
          → list_any (speaks_for left other) done ≡ (list_any (speaks_for left other) done || speaks_for left other (Ok entry))
      again on left other its = by ((number == other) && is_same_letter left (is_left entry.kind)) refl where
        by : (same : Bool) → ((number == other) && is_same_letter left (is_left entry.kind)) ≡ same
            → list_any (speaks_for left other) done ≡ (list_any (speaks_for left other) done || speaks_for left other (Ok entry))
        by true same =
            let both = and_parts (number == other) (is_same_letter left (is_left entry.kind)) same in
            let numbers : number ≡ other = eqb-true number other both.0 in
            let letters : left ≡ is_left entry.kind = letters-so left (is_left entry.kind) both.1 in
            let here : list_any (speaks_for left other) done ≡ true =
            rw (sym numbers, letters) (sym (sums.used on (is_left entry.kind) number its.fits) ∙ was) in
            here ∙ or-true (list_any (speaks_for left other) done)
            ∙ ap (λ (b : Bool). list_any (speaks_for left other) done || b) (sym (its.speaks left other ∙ same))
        by false same =
            or-false (list_any (speaks_for left other) done)
            ∙ ap (λ (b : Bool). list_any (speaks_for left other) done || b) (sym (its.speaks left other ∙ same))
  sums-more _ _ fits (Meets entry number list rows confirms change is spoken) =
      let its = spoken-is count entry number list fits spoken in
      record {
        size = length-set h.used (place_in_used (is_left entry.kind) number) true ∙ sums.size;
        used = λ on left other small. meets on left other small its ∙ sym (any-more left other done (Ok entry));
        changes =
            λ on.
            subst (λ (n : ℕ). Counts n (counted h.changes change))
            (sym (changes-more done (Ok entry) ∙ ap (λ (b : Bool). changes_among done + once_if b) (its.change ∙ is)))
            (counts-more (changes_among done) h.changes change (sums.changes on));
      }
    where
      meets : count ≡ true → (left : Bool) (other : ℕ) → other < 256 → Is entry number
          → slice_index_or (slice_set h.used (place_in_used (is_left entry.kind) number) true) (place_in_used left other) false
          ≡ (list_any (speaks_for left other) done || speaks_for left other (Ok entry))
      meets on left other small its = by ((number == other) && is_same_letter left (is_left entry.kind)) refl where
        by : (same : Bool) → ((number == other) && is_same_letter left (is_left entry.kind)) ≡ same
            → slice_index_or (slice_set h.used (place_in_used (is_left entry.kind) number) true) (place_in_used left other) false
            ≡ (list_any (speaks_for left other) done || speaks_for left other (Ok entry))
        by true same =
            let both = and_parts (number == other) (is_same_letter left (is_left entry.kind)) same in
            let numbers : number ≡ other = eqb-true number other both.0 in
            let letters : left ≡ is_left entry.kind = letters-so left (is_left entry.kind) both.1 in
            ap (λ (p : ℕ). slice_index_or (slice_set h.used (place_in_used (is_left entry.kind) number) true) p false)
            (ap (place_in_used left) (sym numbers) ∙ ap (λ (l : Bool). place_in_used l number) letters)
            ∙ get_or-set_same h.used (place_in_used (is_left entry.kind) number) true false
            (subst (λ (n : ℕ). (place_in_used (is_left entry.kind) number) < n) (sym sums.size) (place-fits (is_left entry.kind) number its.fits))
            ∙ or-true (list_any (speaks_for left other) done)
            ∙ ap (λ (b : Bool). list_any (speaks_for left other) done || b) (sym (its.speaks left other ∙ same))
        by false same =
            get_or-set_other h.used (place_in_used (is_left entry.kind) number) (place_in_used left other) true false
            (places-differ left (is_left entry.kind) other number same)
            ∙ sums.used on left other small
            ∙ or-false (list_any (speaks_for left other) done)
            ∙ ap (λ (b : Bool). list_any (speaks_for left other) done || b) (sym (its.speaks left other ∙ same))

  first-so : (entry : Entry) (number : ℕ) (list : List ℕ) → BeginsWithByte entry.body → Spoken count entry number list → was_met h entry number ≡ false
      → IsFirstFor (is_left entry.kind) number done
  first-so entry number list fits spoken first =
      sym (sums.used spoken.on (is_left entry.kind) number (subst BeginsWithByte spoken.body fits)) ∙ first

  first-back : (entry : Entry) (number : ℕ) (list : List ℕ) → BeginsWithByte entry.body → Spoken count entry number list
      → IsFirstFor (is_left entry.kind) number done → was_met h entry number ≡ false
  first-back entry number list fits spoken first = sums.used spoken.on (is_left entry.kind) number (subst BeginsWithByte spoken.body fits) ∙ first

  few-so : count ≡ true → nat_lt h.changes 64 ≡ true → changes_among done < 64
  few-so on few = by (sums.changes on) where
    by : Counts (changes_among done) h.changes → changes_among done < 64
    by (Exactly same most) = grind (arith, few, same)
    by (Full same many) = absurd (grind (arith, few, same))

  few-back : count ≡ true → changes_among done < 64 → nat_lt h.changes 64 ≡ true
  few-back on few = by (sums.changes on) where
    by : Counts (changes_among done) h.changes → nat_lt h.changes 64 ≡ true
    by (Exactly same most) = lt-ltb h.changes 64 (omega (arith, few, same))
    by (Full same many) = absurd (omega (arith, few, many))

  -- an item that has a fault goes wrong
  wrong-so : (item : ListItem) (fault : Fault) → ItemFits item → Way count ack h item (Err fault) → GoesWrong count ack done h.rows item fault
  wrong-so _ _ fits (Misplaced fault) = MandatoryMisplaced fault
  wrong-so _ _ fits (Unknown entry unknown mandatory) = NotUnderstood entry unknown mandatory
  wrong-so _ _ fits (ChangeWrong entry number list code spoken change first few is) =
      ChangeFails entry number list code spoken.on spoken.understood spoken.its change spoken.body (first-so entry number list fits spoken first)
      (few-so spoken.on few) is
  wrong-so _ _ fits (ConfirmWrong entry number list code spoken other first is) =
      ConfirmFails entry number list code spoken.on spoken.understood spoken.its other spoken.body (first-so entry number list fits spoken first) is

  -- and one that goes wrong has the fault
  wrong-back : (item : ListItem) (fault : Fault) → ItemFits item → GoesWrong count ack done h.rows item fault → heeds_item count ack h item ≡ Err fault
  wrong-back _ _ fits (MandatoryMisplaced fault) = refl
  wrong-back _ _ fits (NotUnderstood entry unknown mandatory) = unknown-goes count ack h entry unknown mandatory
  wrong-back _ _ fits (ChangeFails entry number list code on understood its change body first few is) =
      let spoken : Spoken count entry number list = record { on = on; understood = understood; its = its; body = body } in
      change-goes count ack h entry number list spoken change (first-back entry number list fits spoken first) (few-back on few) code is
  wrong-back _ _ fits (ConfirmFails entry number list code on understood its other body first is) =
      let spoken : Spoken count entry number list = record { on = on; understood = understood; its = its; body = body } in
      confirm-goes count ack h entry number list spoken other (first-back entry number list fits spoken first) code is

-- reading on after what was read
heeds-append : (count : Bool) (ack : Option ℕ) (h : ReadingState) (before items : List ListItem) (read : ReadingState) → heeds count ack h before ≡ Ok read
    → heeds count ack h (before ++ items) ≡ heeds count ack read items
heeds-append count ack h [] items read is = let same : h ≡ read = cc is in ap (λ (x : ReadingState). heeds count ack x items) same
heeds-append count ack h (item ∷ rest) items read is = joined (heeds_item count ack h item) (λ next so. heeds-append count ack next rest items read so) is where
  joined : (r : Result ReadingState Fault)
      → ((next : ReadingState) → heeds count ack next rest ≡ Ok read → heeds count ack next (rest ++ items) ≡ heeds count ack read items)
      → heeds_then r (λ next. heeds count ack next rest) ≡ Ok read → heeds_then r (λ next. heeds count ack next (rest ++ items)) ≡ heeds count ack read items
  joined (Ok next) more so = more next so
  joined (Err fault) more so = cc so

sums-heeded : (count : Bool) (ack : Option ℕ) (done : List ListItem) (h : ReadingState) (items : List ListItem) (read : ReadingState) → Sums count done h
    → All ItemFits items → heeds count ack h items ≡ Ok read → Sums count (done ++ items) read
sums-heeded count ack done h [] read sums fits is =
    let same : h ≡ read = cc is in
    subst (λ (xs : List ListItem). Sums count xs read) (sym (append-nil done)) (subst (Sums count done) same sums)
sums-heeded count ack done h (item ∷ rest) read sums fits is =
    joined (heeds_item count ack h item) (item-way count ack h item)
    (λ next more so. sums-heeded count ack (done ++ item ∷ []) next rest read more (All-tail ItemFits item rest fits) so) is where
      joined : (r : Result ReadingState Fault) → Way count ack h item r
          → ((next : ReadingState) → Sums count (done ++ item ∷ []) next → heeds count ack next rest ≡ Ok read → Sums count ((done ++ item ∷ []) ++ rest) read)
          → heeds_then r (λ next. heeds count ack next rest) ≡ Ok read → Sums count (done ++ item ∷ rest) read
      joined (Ok next) way onward so =
          subst (λ (xs : List ListItem). Sums count xs read) (append_assoc done (item ∷ []) rest)
          (onward next (sums-more count ack done h sums next item (All-head ItemFits item rest fits) way) so)
      joined (Err fault) way onward so = cc so

sums-start : (count : Bool) (rows : List Row) → Sums count [] (unheeded rows)
sums-start count rows =
    record {
      size = length-replicate 512 false;
      used = λ on left number small. get_or-replicate 512 (place_in_used left number) false false (place-fits left number small);
      changes = λ on. Exactly refl (omega arith);
    }

fits-front : (xs ys : List ListItem) → All ItemFits (xs ++ ys) → All ItemFits xs
fits-front [] ys all = All-nil ItemFits
fits-front (x ∷ xs) ys all = All-cons ItemFits x xs (All-head ItemFits x (xs ++ ys) all) (fits-front xs ys (All-tail ItemFits x (xs ++ ys) all))

fits-back : (xs ys : List ListItem) → All ItemFits (xs ++ ys) → All ItemFits ys
fits-back [] ys all = all
fits-back (x ∷ xs) ys all = fits-back xs ys (All-tail ItemFits x (xs ++ ys) all)

found : (count : Bool) (ack : Option ℕ) (rows : List Row) (fault : Fault) (done : List ListItem) (h : ReadingState) (items : List ListItem) → Sums count done h
    → All ItemFits items → heeds count ack (unheeded rows) done ≡ Ok h → heeds count ack h items ≡ Err fault
    → HasFirstFault count ack rows (done ++ items) fault
found count ack rows fault done h [] sums fits read is = cc is
found count ack rows fault done h (item ∷ rest) sums fits read is =
    joined (heeds_item count ack h item) refl (item-way count ack h item)
    (λ next more so here. found count ack rows fault (done ++ item ∷ []) next rest more (All-tail ItemFits item rest fits) so here) is where
      joined : (r : Result ReadingState Fault) → heeds_item count ack h item ≡ r → Way count ack h item r
          → ((next : ReadingState) → Sums count (done ++ item ∷ []) next → heeds count ack (unheeded rows) (done ++ item ∷ []) ≡ Ok next
          → heeds count ack next rest ≡ Err fault → HasFirstFault count ack rows ((done ++ item ∷ []) ++ rest) fault)
          → heeds_then r (λ next. heeds count ack next rest) ≡ Err fault → HasFirstFault count ack rows (done ++ item ∷ rest) fault
      joined (Ok next) same way onward so =
          subst (λ (xs : List ListItem). HasFirstFault count ack rows xs fault) (append_assoc done (item ∷ []) rest)
          (onward next (sums-more count ack done h sums next item (All-head ItemFits item rest fits) way)
          (heeds-append count ack (unheeded rows) done (item ∷ []) h read
          ∙ ap (λ (r : Result ReadingState Fault). heeds_then r (λ (x : ReadingState). heeds count ack x [])) same) so)
      joined (Err its) same way onward so =
          let one : its ≡ fault = cc so in
          record {
            before = done;
            item = item;
            following = rest;
            in_order = refl;
            read = h;
            no_fault = read;
            goes_wrong = subst (GoesWrong count ack done h.rows item) one (wrong-so count ack done h sums item its (All-head ItemFits item rest fits) way);
          }

answered-so : (count : Bool) (ack : Option ℕ) (rows : List Row) (options : List ListItem) (fault : Fault) → All ItemFits options
    → HasFirstFault count ack rows options fault → heeds count ack (unheeded rows) options ≡ Err fault
answered-so count ack rows options fault fits first =
    let all : All ItemFits (first.before ++ first.item ∷ first.following) = subst (All ItemFits) first.in_order fits in
    let sums : Sums count first.before first.read =
    sums-heeded count ack [] (unheeded rows) first.before first.read (sums-start count rows)
    (fits-front first.before (first.item ∷ first.following) all) first.no_fault in
    ap (heeds count ack (unheeded rows)) first.in_order
    ∙ heeds-append count ack (unheeded rows) first.before (first.item ∷ first.following) first.read first.no_fault
    ∙ ap (λ (r : Result ReadingState Fault). heeds_then r (λ (x : ReadingState). heeds count ack x first.following))
    (wrong-back count ack first.before first.read sums first.item fault
    (All-head ItemFits first.item first.following (fits-back first.before (first.item ∷ first.following) all)) first.goes_wrong)

fault-found : (count : Bool) (ack : Option ℕ) (rows : List Row) (options : List ListItem) (fault : Fault) → All ItemFits options
    → heeds count ack (unheeded rows) options ≡ Err fault → HasFirstFault count ack rows options fault
fault-found count ack rows options fault fits is = found count ack rows fault [] (unheeded rows) options (sums-start count rows) fits refl is

-- for every list of items
pub stops_at_the_first_fault : ReadingStopsAtTheFirstFault
stops_at_the_first_fault count ack rows options fault fits =
    (fault-found count ack rows options fault fits, answered-so count ack rows options fault fits)

-- and where no item goes wrong, all are read
pub goes_through : ReadingGoesThrough
goes_through count ack rows options fits = (whole (heeds count ack (unheeded rows) options) refl, faultless) where
  whole : (r : Result ReadingState Fault) → heeds count ack (unheeded rows) options ≡ r → ((fault : Fault) → HasFirstFault count ack rows options fault → ⊥)
      → (h : ReadingState) × (heeds count ack (unheeded rows) options ≡ Ok h)
  whole (Ok h) is none = (h, is)
  whole (Err fault) is none = absurd (none fault (fault-found count ack rows options fault fits is))

  faultless : (h : ReadingState) × (heeds count ack (unheeded rows) options ≡ Ok h) → (fault : Fault) → HasFirstFault count ack rows options fault → ⊥
  faultless read fault first =
      let stops = answered-so count ack rows options fault fits first in
      let goes = read.1 in
      cc (stops, goes)
