-- How numbers came, each at the place of its remainder by 2,048: numbers less than 2,048 above one floor have different places.
use Rattle.std.specs.Prelude.{◌≡◌, ℕ, ◌%◌, ◌^◌, ◌<◌, ◌==◌, nat_lt, List, Option, Some, None, is_some, slice_index_or, if◌then◌else◌}
use Rattle.seq_circle.specs.Circle.{distance}
use Rattle.run_list.specs.MarkedSet.{MarkedSet, has}
use Rattle.dccp_ecn.specs.declared.arrived.Arrived.{Arrived}
use Rattle.dccp_ecn.specs.Arrivals.{known_or_marked}

-- what is at the place of a number
abbrev pub at_place : List (Option Arrived) → ℕ → Option Arrived
at_place ring n = slice_index_or ring (n % 2048) None

-- how a number came whose place is its own
abbrev pub how_at : List (Option Arrived) → ℕ → Arrived
how_at ring n = known_or_marked (at_place ring n)

-- the places of this many numbers from the floor up were emptied, at most all places, and the others are as before
abbrev pub IsEmptied : ℕ → ℕ → List (Option Arrived) → List (Option Arrived) → Type 0
IsEmptied floor rise old new = (n : ℕ) → n < 2 ^ 48 → at_place new n ≡ (if nat_lt (distance floor n % 2048) rise then None else at_place old n)

-- the place of this number says how it came, and the others are as before
abbrev pub IsPut : ℕ → Arrived → List (Option Arrived) → List (Option Arrived) → Type 0
IsPut n how old new = (m : ℕ) → at_place new m ≡ (if m % 2048 == n % 2048 then Some how else at_place old m)

-- the ring says how the numbers of the set came, and nothing about the others above its floor
abbrev pub IsMirror : MarkedSet → List (Option Arrived) → Type 0
IsMirror set ring = (n : ℕ) → n < 2 ^ 48 → distance set.floor n < 2048 → is_some (at_place ring n) ≡ has set.numbers n
