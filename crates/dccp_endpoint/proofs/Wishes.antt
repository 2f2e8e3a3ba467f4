-- What a wish for a feature is.
use Rattle.std.proofs.Common.{◌≡◌, ℕ, ◌^◌, ◌<◌, ◌==◌, ◌&&◌, ◌||◌, not, Bool, true, false, refl}
use Rattle.std.proofs.lemmas.Bool.{not-true, or_right}
use Rattle.feature_lists.specs.Features.{described, initial_of, is_permitted}
use Rattle.feature_lists.specs.Wishes.{is_ours, is_wish}
use Rattle.feature_lists.specs.declared.features.Feature.{Feature}
use Rattle.feature_lists.specs.declared.features.Place.{Place}
use Rattle.feature_lists.specs.declared.wishes.Wanted.TheVariants as wanted
use Rattle.feature_machine.proofs.Soundness.{lawful_fits}

both : (a b c : Bool) → (a && b && c) ≡ true → (a ≡ true) × (c ≡ true)
both true true true e = (refl, refl)
both true true false e = cc e
both true false c e = cc e
both false b c e = cc e

-- a number is wished for a non-negotiable feature alone, and fits its bytes
pub number_wish : (feature : Feature) (place : Place) (number : ℕ) → is_wish feature place (wanted.Number number) ≡ true
    → ((described feature).is_server_priority ≡ false) × (number < 256 ^ (described feature).width)
number_wish feature place number is =
    let parts = both (not (described feature).is_server_priority) (is_ours feature place) (is_permitted feature place number) is in (
      not-true (described feature).is_server_priority parts.0,
      lawful_fits feature place number (or_right (number == initial_of feature) (is_permitted feature place number) parts.1),
    )
