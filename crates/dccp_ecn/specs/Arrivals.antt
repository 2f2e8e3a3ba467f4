-- The packets that were received, and how each came first (own).
use Rattle.std.specs.Prelude.{ℕ, ◌==◌, List, [], ◌∷◌, Option, Some, None, if◌then◌else◌}
use Rattle.run_list.specs.declared.answers.Marked.{Marked}
use Rattle.run_list.specs.declared.answers.Marked.TheVariants as answer
use Rattle.run_list.specs.MarkedSet.{MarkedSet, answer_to, empty_from, marked}
use Rattle.dccp_ecn.specs.declared.arrived.Arrived.{Arrived}
use Rattle.dccp_ecn.specs.declared.arrived.Arrived.TheVariants as came

-- a packet's number, and how the packet came
pub record Receipt : Type 0 where
  pub number : ℕ
  pub how : Arrived

-- the arrival of this number
abbrev pub arrival_of : ℕ → Arrived → Receipt
arrival_of n how = record { number = n; how = how }

-- how a number came by its first arrival in a list, or none if the list has none
abbrev pub how_in : List Receipt → ℕ → Option Arrived
how_in [] n = None
how_in (a ∷ rest) n = if a.number == n then Some a.how else how_in rest n

-- these numbers, in their order, each with how it came
abbrev pub arrivals_by : (ℕ → Arrived) → List ℕ → List Receipt
arrivals_by how [] = []
arrivals_by how (n ∷ ns) = arrival_of n (how n) ∷ arrivals_by how ns

-- the set of received numbers with its floor, and how each of its numbers came first, in the set's order
pub record Arrivals : Type 0 where
  pub set : MarkedSet
  pub first : List Receipt

-- a set, and how its numbers came
abbrev pub arrivals : MarkedSet → List Receipt → Arrivals
arrivals set first = record { set = set; first = first }

-- nothing received, and a floor
abbrev pub none_arrived : ℕ → Arrivals
none_arrived floor = arrivals (empty_from floor) []

-- how a number came, as far as is known; "marked" if nothing is known, which is asked for no number of a set
abbrev pub known_or_marked : Option Arrived → Arrived
known_or_marked None = came.Marked
known_or_marked (Some how) = how

-- A number that is new is marked, and others may leave the set by that. It came as this arrival says, and the others as
-- before.
abbrev pub with_arrival : Arrivals → ℕ → Arrived → Arrivals
with_arrival e n how =
    arrivals (marked e.set n) (arrivals_by (λ m. known_or_marked (how_in (arrival_of n how ∷ e.first) m)) (marked e.set n).numbers)

-- only the first receipt of a number that is not below the floor changes anything (own)
abbrev pub taken_as : Marked → Arrivals → ℕ → Arrived → Arrivals
taken_as answer.New e n how = with_arrival e n how
taken_as answer.Again e n how = e
taken_as answer.BelowFloor e n how = e

-- what was received after one more packet
abbrev pub taken_in : Arrivals → ℕ → Arrived → Arrivals
taken_in e n how = taken_as (answer_to e.set n) e n how
