-- Which rows are due.
use Rattle.std.proofs.Common.{◌≡◌, ◌≢◌, ◌↔◌, ℕ, zero, suc, ◌+◌, ◌<◌, Bool, true, false, List, [], ◌∷◌, length, map, get_or, cond, refl, sym, ap, ◌∙◌, subst, arith}
use Rattle.std.specs.Prelude.{filter, Contains, AllPairs}
use Rattle.std.proofs.lemmas.List.{get_or-map, get_or_default, same_lists}
use Rattle.std.proofs.lemmas.List.Elements.{All-contains, filter_passes, Contains-append_right}
use Rattle.std.proofs.lemmas.List.Kept.{AllPairs-filter}
use Rattle.feature_lists.specs.declared.features.Feature.{Feature}
use Rattle.feature_lists.specs.declared.features.Feature.TheVariants as f
use Rattle.feature_lists.specs.declared.features.Place.{Place}
use Rattle.feature_lists.specs.declared.features.Place.TheVariants as located
use Rattle.feature_machine.specs.declared.row.Row.{Row}
use Rattle.feature_machine.specs.declared.stands.Role2.TheVariants as role
use Rattle.feature_machine.specs.Lists.{index_of, usual_listed}
use Rattle.feature_machine.specs.Negotiating.{first_row, row_at, is_due, due_keys, every_place, IsNegotiation}
use Rattle.feature_machine.proofs.Places.{index_below}

-- the row of a pair
abbrev read : List Row → Feature × Place → Row
read rows at = row_at rows at.0 at.1

abbrev is_due_at : List Row → Feature × Place → Bool
is_due_at rows at = is_due (read rows at)

-- these are at the places of rows from this one on
abbrev AreFrom : ℕ → List (Feature × Place) → Type 0
AreFrom start [] = Unit {0}
AreFrom start (at ∷ rest) = (index_of at.0 at.1 ≡ start) × AreFrom (suc start) rest

all_from : AreFrom 0 every_place
all_from = (refl, (refl, (refl, (refl, (refl, (refl, (refl, (refl, (refl, (refl, (refl, (refl, (refl, (refl, (refl, (refl, (refl, (refl, tt))))))))))))))))))

from-index : (start : ℕ) (places : List (Feature × Place)) (k : ℕ) (default : Feature × Place) → AreFrom start places → k < length places
    → index_of (get_or places k default).0 (get_or places k default).1 ≡ start + k
from-index start [] k default are inside = absurd (omega arith)
from-index start (at ∷ rest) zero default are inside = are.0 ∙ omega arith
from-index start (at ∷ rest) (suc k) default are inside =
    from-index (suc start) rest k default are.1 (omega arith) ∙ omega arith

index_at : (k : ℕ) (default : Feature × Place) → k < 18 → index_of (get_or every_place k default).0 (get_or every_place k default).1 ≡ k
index_at k default inside = from-index 0 every_place k default all_from inside ∙ omega arith

-- the rows are those of every place
rows_spread : (rows : List Row) → length rows ≡ 18 → map (read rows) every_place ≡ rows
rows_spread rows size = same_lists (map (read rows) every_place) rows (sym size) (λ k default inside. one k default inside)
  where
    first : Feature × Place
    first = (f.Ccid, located.Here)

    nowhere : Row
    nowhere = first_row role.Client (usual_listed f.Ccid located.Here)

    one : (k : ℕ) (default : Row) → k < 18 → get_or (map (read rows) every_place) k default ≡ get_or rows k default
    one k default inside =
        get_or-map (read rows) every_place k first default inside
        ∙ ap (λ index. get_or rows index nowhere) (index_at k first inside)
        ∙ get_or_default rows k nowhere default (omega arith)

keys_kept : (rows : List Row) → IsNegotiation rows → (places : List (Feature × Place))
    → due_keys (map (read rows) places) ≡ filter (is_due_at rows) places
keys_kept rows its [] = refl
keys_kept rows its (at ∷ rest) = by_due (is_due_at rows at) (keys_kept rows its rest)
  where
    key_is : ((read rows at).feature, (read rows at).place) ≡ at
    key_is = let row = its.each at.0 at.1 in ap (λ feature. (feature, (read rows at).place)) row.feature_is ∙ ap (λ place. (at.0, place)) row.place_is

    by_due : (due : Bool) → due_keys (map (read rows) rest) ≡ filter (is_due_at rows) rest
        → map (λ row. (row.feature, row.place)) (cond due (read rows at ∷ filter is_due (map (read rows) rest)) (filter is_due (map (read rows) rest)))
        ≡ cond due (at ∷ filter (is_due_at rows) rest) (filter (is_due_at rows) rest)
    by_due true later = ap (λ key. key ∷ due_keys (map (read rows) rest)) key_is ∙ ap (λ keys. at ∷ keys) later
    by_due false later = later

pub due_order : (rows : List Row) → IsNegotiation rows → due_keys rows ≡ filter (is_due_at rows) every_place
due_order rows its = ap due_keys (sym (rows_spread rows its.size)) ∙ keys_kept rows its every_place

-- every row has its place among these
pub every_stands : (feature : Feature) (place : Place) → Contains every_place (feature, place)
every_stands feature place = (index_of feature place, index_below feature place, stands feature place)
  where
    stands : (feature : Feature) (place : Place) → get_or every_place (index_of feature place) (feature, place) ≡ (feature, place)
    stands f.Ccid located.Here = refl
    stands f.Ccid located.There = refl
    stands _ located.Here = refl
    stands _ located.There = refl

-- what passes the test is kept
kept_in : {X : Type 0} (test : X → Bool) (list : List X) (k : ℕ) (x : X) → k < length list → get_or list k x ≡ x → test x ≡ true
    → Contains (filter test list) x
kept_in test [] k x inside is passes = absurd (omega arith)
kept_in test (first ∷ rest) zero x inside is passes =
    subst (λ kept. Contains (cond kept (first ∷ filter test rest) (filter test rest)) x) (sym (ap test is ∙ passes))
    (0, omega arith, is)
kept_in test (first ∷ rest) (suc k) x inside is passes = by_first (test first) (kept_in test rest k x (omega arith) is passes)
  where
    by_first : (kept : Bool) → Contains (filter test rest) x → Contains (cond kept (first ∷ filter test rest) (filter test rest)) x
    by_first true later = Contains-append_right (first ∷ []) (filter test rest) x later
    by_first false later = later

pub due_asks : (rows : List Row) (feature : Feature) (place : Place) → IsNegotiation rows
    → Contains (due_keys rows) (feature, place) ↔ (is_due (row_at rows feature place) ≡ true)
due_asks rows feature place its = (
  λ has.
      All-contains (λ at. is_due_at rows at ≡ true) (filter (is_due_at rows) every_place) (feature, place) (filter_passes (is_due_at rows) every_place)
      (subst (λ keys. Contains keys (feature, place)) (due_order rows its) has),
  λ due.
      let stands = every_stands feature place in
      subst (λ keys. Contains keys (feature, place)) (sym (due_order rows its))
      (kept_in (is_due_at rows) every_place stands.0 (feature, place) stands.1 stands.2 due),
)

every_apart : AllPairs (λ one other. one ≢ other) every_place
every_apart i j default earlier inside same =
    let one = index_at i default (omega arith) in
    let other = index_at j default inside in
    let indices : i ≡ j = sym one ∙ ap (λ at. index_of at.0 at.1) same ∙ other in
    absurd (omega arith)

pub due_distinct : (rows : List Row) → IsNegotiation rows → AllPairs (λ one other. one ≢ other) (due_keys rows)
due_distinct rows its =
    subst (λ keys. AllPairs (λ one other. one ≢ other) keys) (sym (due_order rows its))
    (AllPairs-filter (λ one other. one ≢ other) (is_due_at rows) every_place every_apart)
