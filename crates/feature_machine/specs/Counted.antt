-- The rows of an end give back how they are kept: beside a count of those that have something to say by themselves.
use Rattle.std.specs.Prelude.{◌≡◌, ℕ, List}
use Rattle.std.proofs.Common.{ap, sym}
use Rattle.feature_machine.specs.Negotiating.{IsNegotiation, loud_rows}
use Rattle.feature_machine.specs.declared.negotiation.Negotiation.TheInside.{Inside}
use Rattle.feature_machine.specs.declared.row.Row.{Row}

-- what is kept of rows: they themselves, and how many have something to say
abbrev pub kept_with : List Row → ℕ → Inside
kept_with rows loud = record { rows = rows; loud = loud }

-- rows are kept beside their count
pub counted_again : (a : Inside) → IsNegotiation a.rows × (a.loud ≡ loud_rows a.rows) → kept_with a.rows (loud_rows a.rows) ≡ a
counted_again a h = ap (λ loud. kept_with a.rows loud) (sym h.1)
