-- Where nothing is shared, a move keeps the value.
use Rattle.std.proofs.Common.{◌≡◌, refl, ap, ◌∙◌, ℕ, ◌<◌, Bool, List, Option, Some, None}
use Rattle.std.specs.Prelude.{unwrap_or}
use Rattle.two_ends.specs.FeatureView.{FeatureNews, FeatureSide, carried_at, wish_carried}
use Rattle.two_ends.specs.FeatureMoves.{Move, Rule}
use Rattle.two_ends.specs.FeatureMoves.Move.{Passes, Settles, Answers, Waits, Opens, Sends, Sends_again}

pub value_stays : (rule : Rule) (opens : List ℕ → Bool) (there : List FeatureNews) (side after : FeatureSide) → Move rule opens there side after
    → ((count : ℕ) (wish : List ℕ) → side.greatest < count → wish_carried (carried_at there count) ≡ Some wish → rule side.active wish ≡ None)
    → after.value ≡ side.value
value_stays rule opens there side _ (Settles count acknowledged value wish newer carried changing answers is) none =
    is ∙ ap (λ (found : Option ℕ). unwrap_or found side.value) (none count wish newer (ap wish_carried carried))
value_stays rule opens there side _ (Answers count wish newer carried) none =
    ap (λ (found : Option ℕ). unwrap_or found side.value) (none count wish newer (ap wish_carried carried))
value_stays rule opens there side _ _ none = refl
