-- What turns are to one row.
use Rattle.std.proofs.Common.{◌≡◌, refl, ap, ◌∙◌, Bool, cond, List, [], ◌∷◌, ◌++◌, length, length-set, map}
use Rattle.dccp_endpoint.proofs.Keys.{turn-key}
use Rattle.dccp_endpoint.specs.Saying.{is_key}
use Rattle.dccp_endpoint.specs.Turns.{Key, turn_of}
use Rattle.feature_machine.specs.Lists.{index_of}
use Rattle.feature_machine.specs.Negotiating.{stepped}
use Rattle.feature_machine.specs.Rows.{RowEvent, row_step}
use Rattle.feature_machine.specs.Turns.{Turn, events_of, row_turned, turned}
use Rattle.feature_machine.specs.declared.row.Row.{Row}

-- turns follow one another
pub turned-append : (row : Row) (a b : List RowEvent) → row_turned row (a ++ b) ≡ row_turned (row_turned row a) b
turned-append row [] b = refl
turned-append row (event ∷ a) b = turned-append (row_step row event).row a b

-- there are as many rows after turns
pub turned-size : (rows : List Row) (turns : List Turn) → length (turned rows turns) ≡ length rows
turned-size rows [] = refl
turned-size rows (first ∷ rest) =
    turned-size (stepped rows first.feature first.place first.event).rows rest ∙ length-set rows (index_of first.feature first.place) _

-- one turn, to a row
pub turn-events : (k other : Key) (event : RowEvent) (its : Bool) → is_key k other ≡ its
    → events_of k.0 k.1 (turn_of other event ∷ []) ≡ map (λ (given : Turn). given.event) (cond its (turn_of other event ∷ []) [])
turn-events k other event its is =
    ap (λ (b : Bool). map (λ (given : Turn). given.event) (cond b (turn_of other event ∷ []) [])) (turn-key k other ∙ is)
