-- What the functions of an end keep.
use Rattle.std.proofs.Common.{◌≡◌, true, List, sym, subst}
use Rattle.feature_lists.specs.Wishes.{is_wish}
use Rattle.feature_lists.specs.declared.features.Feature.{Feature}
use Rattle.feature_lists.specs.declared.features.Place.{Place}
use Rattle.feature_lists.specs.declared.wishes.Wanted.{Wanted}
use Rattle.feature_machine.specs.Negotiating.{AreRowsOf, row_at, stepped}
use Rattle.feature_machine.specs.Rows.{Prefers}
use Rattle.feature_machine.specs.declared.row.Row.{Row}
use Rattle.feature_machine.specs.declared.stands.Role2.{Role2}
use Rattle.feature_machine.proofs.Turning.{stepped-role}

-- a wish leaves the rows those of the end
pub preferred_rows : (r : Role2) (rows : List Row) (feature : Feature) (place : Place) (wish : Wanted) → AreRowsOf r rows → is_wish feature place wish ≡ true
    → AreRowsOf r (stepped rows feature place (Prefers wish)).rows
preferred_rows r rows feature place wish its wished =
    let row = its.sound.each feature place in
    stepped-role r rows feature place (Prefers wish) its
    (subst (λ (one : Feature). is_wish one (row_at rows feature place).place wish ≡ true) (sym row.feature_is)
    (subst (λ (there : Place). is_wish feature there wish ≡ true) (sym row.place_is) wished))
