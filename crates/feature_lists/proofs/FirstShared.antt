-- What reconciliation finds, by membership and place.
use Rattle.std.proofs.Common.{◌≡◌, ℕ, suc, zero, ◌<◌, ◌==◌, Bool, true, false, List, [], ◌∷◌, length, Some, None, Contains, find, slice_get, get_or, refl, ◌↔◌, arith, eqb-true, eq-eqb}
use Rattle.std.proofs.lemmas.List.Folds.{list_any_at}
use Rattle.feature_lists.specs.Lists.{has_entry, reconciled, IsFirstShared, SharesNothing}

-- the test of membership says what it should
pub has_entry-from_Contains : (list : List ℕ) (value : ℕ) → Contains list value → has_entry list value ≡ true
has_entry-from_Contains list value c = list_any_at (λ entry. entry == value) list c.0 value c.1 (eq-eqb (get_or list c.0 value) value c.2)

pub Contains-from_has_entry : (list : List ℕ) (value : ℕ) → has_entry list value ≡ true → Contains list value
Contains-from_has_entry [] value h = cc
Contains-from_has_entry (x ∷ list) value h =
    elim (x == value) as (λ b. (x == value) ≡ b → Contains (x ∷ list) value) [
      | true ↦ λ e. (0, grind arith, eqb-true x value e)
      | false ↦ λ e. let c : Contains list value = Contains-from_has_entry list value (cc (h, e)) in (suc c.0, grind arith, c.2)
    ] refl

-- the first place that passes a test
pub record FirstPassing (p : ℕ → Bool) (xs : List ℕ) (value : ℕ) : Type 0 where
  pub place : ℕ
  pub stands : slice_get xs place ≡ Some value
  pub passes : p value ≡ true
  pub first : (earlier other : ℕ) → earlier < place → slice_get xs earlier ≡ Some other → p other ≡ false

earlier_fails : (p : ℕ → Bool) (x : ℕ) (xs : List ℕ) (place : ℕ) → p x ≡ false
    → ((earlier other : ℕ) → earlier < place → slice_get xs earlier ≡ Some other → p other ≡ false)
    → (earlier other : ℕ) → earlier < suc place → slice_get (x ∷ xs) earlier ≡ Some other → p other ≡ false
earlier_fails p x xs place fails first zero other below is = cc
earlier_fails p x xs place fails first (suc earlier) other below is = first earlier other (omega arith) is

pub find_passing : (p : ℕ → Bool) (xs : List ℕ) (value : ℕ) → find p xs ≡ Some value → FirstPassing p xs value
find_passing p [] value h = cc
find_passing p (x ∷ xs) value h =
    elim (p x) as (λ b. p x ≡ b → FirstPassing p (x ∷ xs) value) [
      | true ↦ λ e. record { place = 0; stands = cc (h, e); passes = cc (h, e); first = λ earlier other below is. absurd (omega arith) }
      | false ↦ λ e. let rest : FirstPassing p xs value = find_passing p xs value (cc (h, e)) in
          record { place = suc rest.place; stands = rest.stands; passes = rest.passes; first = earlier_fails p x xs rest.place e rest.first }
    ] refl

pub passing_found : (p : ℕ → Bool) (xs : List ℕ) (value place : ℕ) → slice_get xs place ≡ Some value → p value ≡ true
    → ((earlier other : ℕ) → earlier < place → slice_get xs earlier ≡ Some other → p other ≡ false) → find p xs ≡ Some value
passing_found p [] value place stands passes first = cc
passing_found p (x ∷ xs) value zero stands passes first = cc
passing_found p (x ∷ xs) value (suc place) stands passes first =
    let fails : p x ≡ false = first 0 x (omega arith) refl in
    let rest : find p xs ≡ Some value = passing_found p xs value place stands passes (λ earlier other below is. first (suc earlier) other (omega arith) is) in
    cc

head_fails : (p : ℕ → Bool) (x : ℕ) (xs : List ℕ) → find p (x ∷ xs) ≡ None → (p x ≡ false) × (find p xs ≡ None)
head_fails p x xs h =
    elim (p x) as (λ b. p x ≡ b → (p x ≡ false) × (find p xs ≡ None))
    [ true ↦ λ e. cc (h, e) | false ↦ λ e. (e, cc (h, e)) ] refl

pub none_passing : (p : ℕ → Bool) (xs : List ℕ) → find p xs ≡ None → (value place : ℕ) → place < length xs → get_or xs place value ≡ value → p value ≡ false
none_passing p [] h value place inside is = absurd (omega arith)
none_passing p (x ∷ xs) h value zero inside is = let fails : p x ≡ false = (head_fails p x xs h).0 in cc
none_passing p (x ∷ xs) h value (suc place) inside is = none_passing p xs (head_fails p x xs h).1 value place (omega arith) is

pub none_found : (p : ℕ → Bool) (xs : List ℕ) → ((value : ℕ) → Contains xs value → p value ≡ false) → find p xs ≡ None
none_found p [] fails = refl
none_found p (x ∷ xs) fails =
    let here : p x ≡ false = fails x (0, grind arith, refl) in
    let rest : find p xs ≡ None = none_found p xs (λ value c. fails value (suc c.0, grind arith, c.2)) in
    cc

pub not_entry : (list : List ℕ) (value : ℕ) → ¬ Contains list value → has_entry list value ≡ false
not_entry list value none =
    elim (has_entry list value) as (λ b. has_entry list value ≡ b → has_entry list value ≡ false)
    [ true ↦ λ e. absurd (none (Contains-from_has_entry list value e)) | false ↦ λ e. e ] refl

pub no_entry : (list : List ℕ) (value : ℕ) → has_entry list value ≡ false → ¬ Contains list value
no_entry list value h c = let e : has_entry list value ≡ true = has_entry-from_Contains list value c in cc

pub found_is_first : (server client : List ℕ) (value : ℕ) → (reconciled server client ≡ Some value) ↔ IsFirstShared server client value
found_is_first server client value = (
  λ h. let at : FirstPassing (has_entry client) server value = find_passing (has_entry client) server value h in
      record {
        place = at.place;
        stands = at.stands;
        shared = Contains-from_has_entry client value at.passes;
        first = λ earlier other below is. no_entry client other (at.first earlier other below is);
      },
  λ s. passing_found (has_entry client) server value s.place s.stands (has_entry-from_Contains client value s.shared)
      (λ earlier other below is. not_entry client other (s.first earlier other below is)),
)

pub none_is_shared : (server client : List ℕ) → (reconciled server client ≡ None) ↔ SharesNothing server client
none_is_shared server client = (
  λ h value c. no_entry client value (none_passing (has_entry client) server h value c.0 c.1 c.2),
  λ s. none_found (has_entry client) server (λ value c. not_entry client value (s value c)),
)
