-- The bars of a chart (own; SVG 1.1).
use Rattle.std.specs.Prelude.{ℕ, ◌+◌, ◌*◌, List, [], ◌∷◌, codes, decimal}
use Rattle.std.specs.List.{concat}
use Rattle.bridge_pictures.specs.Svg.{escaped}

-- how far a column lies from the left edge
abbrev pub column_at : ℕ → ℕ
column_at column = 40 + 6 * column

-- how high this many packets are
abbrev pub packets_high : ℕ → ℕ
packets_high packets = 8 * packets

-- A bar in a column, which begins this far from its group's line and has this height, with a tooltip.
unfoldable pub bar : List ℕ → ℕ → ℕ → ℕ → List ℕ → List ℕ
bar class column start height words =
    concat (codes "<rect class='" ∷ class ∷ codes "' x='" ∷ decimal (column_at column) ∷ codes "' width='5' y='" ∷ decimal start
    ∷ codes "' height='" ∷ decimal height ∷ codes "'><title>" ∷ escaped words ∷ codes "</title></rect>\n" ∷ [])

-- a group of elements whose line lies this far below the top, and which grows upwards
unfoldable pub upward : ℕ → List ℕ → List ℕ
upward bottom elements =
    concat (codes "<g transform='translate(0," ∷ decimal bottom ∷ codes ") scale(1,-1)'>\n" ∷ elements ∷ codes "</g>\n" ∷ [])

-- a group of elements whose line lies this far below the top
unfoldable pub downward : ℕ → List ℕ → List ℕ
downward top elements = concat (codes "<g transform='translate(0," ∷ decimal top ∷ codes ")'>\n" ∷ elements ∷ codes "</g>\n" ∷ [])
