-- How far apart the numbers of a list are, so that a search among them can end early (own).
use Rattle.std.specs.Prelude.{ℕ, ◌^◌, ◌<◌, ◌≤◌, ⊤, List, [], ◌∷◌}
use Rattle.std.specs.List.{AllByRecursion}
use Rattle.seq_circle.specs.Circle.{distance}

-- from each number of the list, at most this many steps lead up to each later one
abbrev pub AreNear : ℕ → List ℕ → Type 0
AreNear span [] = ⊤
AreNear span (number ∷ later) =
    (number < 2 ^ 48) × AllByRecursion (λ other. distance number other ≤ span) later × AreNear span later
