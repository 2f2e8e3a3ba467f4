-- A list of values with one more at its end.
use Rattle.std.proofs.Common.{◌≡◌, refl, ap, ◌∙◌, List, [], ◌∷◌, ◌++◌, map}
use Rattle.serde_json.specs.Data.{Data}
use Rattle.serde_json.specs.View.{view}
use Rattle.serde_json.specs.declared.value.Value.{Value}

map-end : (values : List Value) (value : Value) → map view (values ++ value ∷ []) ≡ map view values ++ view value ∷ []
map-end [] value = refl
map-end (first ∷ values) value = ap (λ (rest : List Data). view first ∷ rest) (map-end values value)

pub listed_so : (values longer : List Value) (value : Value) → longer ≡ values ++ value ∷ [] → map view longer ≡ map view values ++ view value ∷ []
listed_so values longer value is = ap (map view) is ∙ map-end values value
