-- Rows by their places.
use Rattle.std.proofs.Common.{◌≡◌, ◌<◌, ◌≤◌, ◌==◌, true, false, List, length, Some, refl, sym, ap, ◌∙◌, subst, arith, get_or-set_other, get_or-set_same, length-set, eqb-true}
use Rattle.std.proofs.lemmas.Bool.{eqb-false}
use Rattle.feature_lists.specs.Features.{feature_number, feature_numbered}
use Rattle.feature_lists.specs.declared.features.Feature.{Feature}
use Rattle.feature_lists.specs.declared.features.Feature.TheVariants as f
use Rattle.feature_lists.specs.declared.features.Place.{Place}
use Rattle.feature_lists.specs.declared.features.Place.TheVariants as located
use Rattle.feature_machine.specs.declared.row.Row.{Row}
use Rattle.feature_machine.specs.Lists.{index_of}
use Rattle.feature_machine.specs.Negotiating.{row_at, put, RestStays, IsNegotiation}
use Rattle.feature_machine.specs.Sound.{IsRowOf}

number_below : (feature : Feature) → feature_number feature ≤ 9
number_below f.Ccid = omega arith
number_below _ = omega arith

pub index_below : (feature : Feature) (place : Place) → index_of feature place < 18
index_below feature located.Here = let n : feature_number feature ≤ 9 = number_below feature in omega arith
index_below feature located.There = let n : feature_number feature ≤ 9 = number_below feature in omega arith

-- a number finds its feature
pub numbered : (feature : Feature) → feature_numbered (feature_number feature) ≡ Some feature
numbered f.Ccid = refl
numbered _ = refl

number_above : (feature : Feature) → 1 ≤ feature_number feature
number_above f.Ccid = omega arith
number_above _ = omega arith

pub same_feature : (a b : Feature) → feature_number a ≡ feature_number b → a ≡ b
same_feature a b e = let found : feature_numbered (feature_number a) ≡ feature_numbered (feature_number b) = ap feature_numbered e in
    cc (found, numbered a, numbered b)

-- one place, one row
pub same_place : (a b : Feature) (here there : Place) → index_of a here ≡ index_of b there → here ≡ there
same_place a b located.Here located.Here e = refl
same_place a b located.There located.There e = refl
same_place a b located.Here located.There e = absurd (omega arith)
same_place a b located.There located.Here e = absurd (omega arith)

pub same_number : (a b : Feature) (here there : Place) → index_of a here ≡ index_of b there → feature_number a ≡ feature_number b
same_number a b located.Here located.Here e = let one = number_above a in let other = number_above b in omega arith
same_number a b located.There located.There e = let one = number_above a in let other = number_above b in omega arith
same_number a b located.Here located.There e = absurd (omega arith)
same_number a b located.There located.Here e = absurd (omega arith)

-- the row that was put, and the others
pub put_there : (rows : List Row) (feature : Feature) (place : Place) (row : Row) → length rows ≡ 18 → row_at (put rows feature place row) feature place ≡ row
put_there rows feature place row size = let inside : index_of feature place < length rows = (let n = index_below feature place in omega arith) in
    get_or-set_same rows (index_of feature place) row _ inside

pub put_others : (rows : List Row) (feature : Feature) (place : Place) (row : Row) → RestStays rows (put rows feature place row) feature place
put_others rows feature place row other there differs = get_or-set_other rows (index_of feature place) (index_of other there) row _ differs

pub put_negotiation : (rows : List Row) (feature : Feature) (place : Place) (row : Row) → IsNegotiation rows → IsRowOf feature place row
    → IsNegotiation (put rows feature place row)
put_negotiation rows feature place row n its =
    record {
      size = length-set rows (index_of feature place) row ∙ n.size;
      each = λ other there.
          elim (index_of other there == index_of feature place) as
          (λ b. (index_of other there == index_of feature place) ≡ b → IsRowOf other there (row_at (put rows feature place row) other there)) [
            | true ↦ λ e.
                let same : index_of other there ≡ index_of feature place = eqb-true (index_of other there) (index_of feature place) e in
                let features : feature ≡ other = sym (same_feature other feature (same_number other feature there place same)) in
                let places : place ≡ there = sym (same_place other feature there place same) in
                subst (λ x. IsRowOf x there (row_at (put rows feature place row) x there)) features
                (subst (λ y. IsRowOf feature y (row_at (put rows feature place row) feature y)) places
                (subst (λ r. IsRowOf feature place r) (sym (put_there rows feature place row n.size)) its))
            | false ↦ λ e.
                subst (λ r. IsRowOf other there r)
                (sym (put_others rows feature place row other there (eqb-false (index_of other there) (index_of feature place) e))) (n.each other there)
          ] refl;
    }
