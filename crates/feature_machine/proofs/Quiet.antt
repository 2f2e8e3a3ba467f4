-- Rows that say nothing by themselves.
use Rattle.std.proofs.Common.{◌≡◌, Bool, true, false, List, [], ◌∷◌, length, refl, sym, ap, ◌∙◌, arith}
use Rattle.std.specs.Prelude.{not}
use Rattle.std.proofs.lemmas.Bool.{and_parts, not-true}
use Rattle.std.proofs.lemmas.List.Sums.{AllPass-from_list_all}
use Rattle.feature_lists.specs.declared.features.Feature.{Feature}
use Rattle.feature_lists.specs.declared.features.Place.{Place}
use Rattle.feature_machine.specs.declared.offers.Offer.{Offer}
use Rattle.feature_machine.specs.declared.offers.Offer.TheVariants.{Nothing, Plain, Mandatory}
use Rattle.feature_machine.specs.declared.row.Row.{Row}
use Rattle.feature_machine.specs.declared.stands.Stand.{Stand}
use Rattle.feature_machine.specs.declared.stands.Stand.TheVariants as stand
use Rattle.feature_machine.specs.Lists.{index_of}
use Rattle.feature_machine.specs.Negotiating.{are_quiet, due_keys, is_due, is_offerless, is_quiet, row_at, stepped}
use Rattle.feature_machine.specs.Rows.{Offered, Offers, row_line, row_step}
use Rattle.feature_machine.proofs.Places.{index_below}
use Rattle.feature_machine.proofs.Steps.{put_same}

-- an offer that was made comes up in vain
line_made : (row : Row) (s : Stand) (confirmed : Bool) → row.offer ≡ Nothing → (row_line row s (Offered confirmed Nothing)).row ≡ row
line_made row stand.Stable true made = ap (λ (left : Offer). record row { offer = left }) (sym made)
line_made row stand.Stable false made = ap (λ (left : Offer). record row { offer = left }) (sym made)
line_made row stand.Changing confirmed made = refl
line_made row stand.Unstable confirmed made = refl

made_by : (o : Offer) → is_offerless o ≡ true → o ≡ Nothing
made_by Nothing made = refl
made_by Plain made = absurd cc
made_by Mandatory made = absurd cc

pub nothing_comes_up : (rows : List Row) (feature : Feature) (place : Place) (confirmed : Bool) → length rows ≡ 18
    → are_quiet rows ≡ true → (stepped rows feature place (Offers confirmed)).rows ≡ rows
nothing_comes_up rows feature place confirmed size quiet =
    let row : Row = row_at rows feature place in
    let inside = index_below feature place in
    let says_nothing : is_quiet row ≡ true = AllPass-from_list_all is_quiet rows quiet (index_of feature place) _ (omega arith) in
    let made : row.offer ≡ Nothing = made_by row.offer (and_parts (is_offerless row.offer) (not (is_due row)) says_nothing).0 in
    put_same rows feature place row (row_step row (Offers confirmed)).row refl
    (ap (λ (left : Offer). (row_line row row.stand (Offered confirmed left)).row) made ∙ line_made row row.stand confirmed made)

pub nothing_due : (rows : List Row) → are_quiet rows ≡ true → due_keys rows ≡ []
nothing_due [] quiet = refl
nothing_due (row ∷ rest) quiet =
    let both = and_parts (is_quiet row) (are_quiet rest) quiet in
    rw (not-true (is_due row) (and_parts (is_offerless row.offer) (not (is_due row)) both.0).1) (nothing_due rest both.1)
