-- Features and their numbers.
use Rattle.std.proofs.Common.{◌≡◌, ℕ, ◌-◌, Some, refl, arith}
use Rattle.std.specs.Prelude.{slice_get}
use Rattle.feature_lists.specs.Features.{feature_number, feature_numbered}
use Rattle.feature_lists.specs.declared.features.Feature.{Feature}
use Rattle.feature_lists.specs.declared.features.Feature.TheVariants as f
use Rattle.feature_lists.specs.declared.features.TheConstants.Feature.{ALL}

pub found : (feature : Feature) → feature_numbered (feature_number feature) ≡ Some feature
found f.Ccid = refl
found _ = refl

pub number_is : (number : ℕ) (feature : Feature) → feature_numbered number ≡ Some feature → feature_number feature ≡ number
number_is number feature is = grind arith

pub in_order : (feature : Feature) → slice_get ALL (feature_number feature - 1) ≡ Some feature
in_order f.Ccid = refl
in_order _ = refl
