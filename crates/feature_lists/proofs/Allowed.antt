-- What the tests of a list of values say.
use Rattle.std.proofs.Common.{◌↔◌, ◌≡◌, ◌≢◌, ℕ, suc, zero, ◌<◌, ◌==◌, ◌&&◌, ◌||◌, nat_lt, nat_le, Bool, true, false, not, List, [], ◌∷◌, length, AllPairs, get_or, refl, sym, arith, eqb-true, eq-eqb, leb-true, le-leb}
use Rattle.std.specs.List.{list_all}
use Rattle.std.proofs.lemmas.List.Folds.{list_any_at}
use Rattle.std.proofs.lemmas.List.Sums.{AllPass-from_list_all, list_all-from_AllPass}
use Rattle.feature_lists.proofs.FirstShared.{not_entry}
use Rattle.std.proofs.lemmas.Bool.{and_parts, and_from}
use Rattle.feature_lists.specs.Features.{described, is_permitted}
use Rattle.feature_lists.specs.Lists.{has_entry, is_distinct}
use Rattle.feature_lists.specs.Wishes.{is_counted, is_allowed, IsAllowed}
use Rattle.feature_lists.specs.declared.features.Feature.{Feature}
use Rattle.feature_lists.specs.declared.features.Feature.TheVariants as f
use Rattle.feature_lists.specs.declared.features.Place.{Place}
use Rattle.feature_lists.specs.declared.features.Place.TheVariants as place

-- a permitted value of a server-priority feature is a byte
pub permitted_byte : (feature : Feature) (p : Place) (value : ℕ) → (described feature).is_server_priority ≡ true → is_permitted feature p value ≡ true
    → nat_lt value 256 ≡ true
permitted_byte f.Ccid place.Here value s h = grind arith
permitted_byte f.Ccid place.There value s h = grind arith
permitted_byte f.ShortSeqnos place.Here value s h = grind arith
permitted_byte f.ShortSeqnos place.There value s h = grind arith
permitted_byte f.SequenceWindow p value s h = cc
permitted_byte f.EcnIncapable place.Here value s h = grind arith
permitted_byte f.EcnIncapable place.There value s h = grind arith
permitted_byte f.AckRatio p value s h = cc
permitted_byte f.SendAckVector place.Here value s h = grind arith
permitted_byte f.SendAckVector place.There value s h = grind arith
permitted_byte f.SendNdpCount place.Here value s h = grind arith
permitted_byte f.SendNdpCount place.There value s h = grind arith
permitted_byte f.MinCsCov place.Here value s h = grind arith
permitted_byte f.MinCsCov place.There value s h = grind arith
permitted_byte f.CheckDataChecksum place.Here value s h = grind arith
permitted_byte f.CheckDataChecksum place.There value s h = grind arith

pub permitted_bytes : (feature : Feature) (p : Place) (values : List ℕ) → (described feature).is_server_priority ≡ true
    → list_all (is_permitted feature p) values ≡ true → list_all (λ value. nat_lt value 256) values ≡ true
permitted_bytes feature p [] s h = refl
permitted_bytes feature p (value ∷ values) s h =
    let parts : (is_permitted feature p value ≡ true) × (list_all (is_permitted feature p) values ≡ true) =
    and_parts (is_permitted feature p value) (list_all (is_permitted feature p) values) h in
    and_from (nat_lt value 256) (list_all (λ value. nat_lt value 256) values) (permitted_byte feature p value s parts.0)
    (permitted_bytes feature p values s parts.1)

pub allowed_bytes : (feature : Feature) (p : Place) (values : List ℕ) → (described feature).is_server_priority ≡ true → is_allowed feature p values ≡ true
    → list_all (λ value. nat_lt value 256) values ≡ true
allowed_bytes feature p values s h =
    permitted_bytes feature p values s
    (and_parts (is_counted feature (length values)) (list_all (is_permitted feature p) values)
    (and_parts (is_counted feature (length values) && list_all (is_permitted feature p) values) (is_distinct values) h).0).1

-- no entry is another one
pub entries_differ : (xs : List ℕ) → is_distinct xs ≡ true → (i j d : ℕ) → i < j → j < length xs → get_or xs i d ≡ get_or xs j d → ⊥
entries_differ [] h i j d below inside same = absurd (omega arith)
entries_differ (x ∷ xs) h i zero d below inside same = absurd (omega arith)
entries_differ (x ∷ xs) h zero (suc j) d below inside same =
    let entry : has_entry xs x ≡ true = list_any_at (λ other. other == x) xs j d (omega arith) (eq-eqb (get_or xs j d) x (sym same)) in
    cc (h, entry)
entries_differ (x ∷ xs) h (suc i) (suc j) d below inside same =
    entries_differ xs (and_parts (not (has_entry xs x)) (is_distinct xs) h).1 i j d (omega arith) (omega arith) same

pub distinct_entries : (xs : List ℕ) → AllPairs (λ one other. one ≢ other) xs → is_distinct xs ≡ true
distinct_entries [] differ = refl
distinct_entries (x ∷ xs) differ =
    let rest : is_distinct xs ≡ true = distinct_entries xs (λ i j d below inside. differ (suc i) (suc j) d (omega arith) (omega arith)) in
    let new : has_entry xs x ≡ false = not_entry xs x (λ c. differ 0 (suc c.0) x (omega arith) (let inside : c.0 < length xs = c.1 in omega arith) (sym c.2)) in
    cc

single_if : (s : Bool) (n : ℕ) → (s || n == 1) ≡ true → s ≡ false → n ≡ 1
single_if true n h negotiable = cc
single_if false n h negotiable = eqb-true n 1 h

single_or : (s : Bool) (n : ℕ) → (s ≡ false → n ≡ 1) → (s || n == 1) ≡ true
single_or true n h = refl
single_or false n h = eq-eqb n 1 (h refl)

pub allowed_says : (feature : Feature) (p : Place) (values : List ℕ) → (is_allowed feature p values ≡ true) ↔ IsAllowed feature p values
allowed_says feature p values =
    let n : ℕ = length values in
    let s : Bool = (described feature).is_server_priority in (
      λ h.
          let whole = and_parts (is_counted feature n && list_all (is_permitted feature p) values) (is_distinct values) h in
          let front = and_parts (is_counted feature n) (list_all (is_permitted feature p) values) whole.0 in
          let counted = and_parts (nat_le 1 n && nat_le n 8) (s || n == 1) front.0 in
          let sizes = and_parts (nat_le 1 n) (nat_le n 8) counted.0 in
          record {
            some = leb-true 1 n sizes.0;
            few = leb-true n 8 sizes.1;
            permitted = AllPass-from_list_all (is_permitted feature p) values front.1;
            distinct = entries_differ values whole.1;
            single = single_if s n counted.1;
          },
      λ h.
          and_from (is_counted feature n && list_all (is_permitted feature p) values) (is_distinct values)
          (and_from (is_counted feature n) (list_all (is_permitted feature p) values)
          (and_from (nat_le 1 n && nat_le n 8) (s || n == 1)
          (and_from (nat_le 1 n) (nat_le n 8) (le-leb 1 n h.some) (le-leb n 8 h.few)) (single_or s n h.single))
          (list_all-from_AllPass (is_permitted feature p) values h.permitted))
          (distinct_entries values h.distinct),
    )
