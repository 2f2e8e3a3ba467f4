-- The wishes are those that some values give.
use Rattle.std.proofs.Common.{◌≡◌, ◌↔◌, ℕ, List, [], ◌∷◌, true, Ok, arith}
use Rattle.feature_lists.specs.Features.{is_permitted}
use Rattle.feature_lists.specs.Wishes.{is_allowed, wish_of, is_wish}
use Rattle.feature_lists.specs.declared.features.Feature.{Feature}
use Rattle.feature_lists.specs.declared.features.Place.{Place}
use Rattle.feature_lists.specs.declared.wishes.Wanted.{Wanted}
use Rattle.feature_lists.specs.declared.wishes.Wanted.TheVariants as w

-- one value is allowed where it is permitted
one_allowed : (feature : Feature) (p : Place) (value : ℕ) → is_permitted feature p value ≡ true → is_allowed feature p (value ∷ []) ≡ true
one_allowed feature p value h = grind arith

given_is : (feature : Feature) (p : Place) (wanted : Wanted) → is_wish feature p wanted ≡ true → (values : List ℕ) × (wish_of feature p values ≡ Ok wanted)
given_is feature p (w.List list) h = (list, grind arith)
given_is feature p (w.Number number) h = (number ∷ [], grind (arith, one_allowed))

is_given : (feature : Feature) (p : Place) (wanted : Wanted) (values : List ℕ) → wish_of feature p values ≡ Ok wanted → is_wish feature p wanted ≡ true
is_given feature p (w.List list) values h = grind arith
is_given feature p (w.Number number) [] h = cc
is_given feature p (w.Number number) (value ∷ rest) h = grind arith

pub given : (feature : Feature) (p : Place) (wanted : Wanted) → (is_wish feature p wanted ≡ true) ↔ ((values : List ℕ) × (wish_of feature p values ≡ Ok wanted))
given feature p wanted = (given_is feature p wanted, λ h. is_given feature p wanted h.0 h.1)
