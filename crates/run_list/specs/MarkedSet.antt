-- A set of sequence numbers with a floor (own): its numbers are distinct and none lies below the floor.
use Rattle.std.specs.Prelude.{ℕ, ◌^◌, ◌<◌, ◌==◌, nat_lt, Bool, List, [], ◌∷◌, filter, if◌then◌else◌}
use Rattle.std.specs.List.{list_any}
use Rattle.seq_circle.specs.Circle.{distance, down, is_before}
pub use Rattle.seq_circle.specs.Circle.{IsFrom, is_from}
use Rattle.run_list.specs.declared.answers.Marked.{Marked}
use Rattle.run_list.specs.declared.answers.Marked.TheVariants.{New, Again, BelowFloor}

-- the numbers are listed from the newest down
pub record MarkedSet : Type 0 where
  pub floor : ℕ
  pub numbers : List ℕ

-- the list has the number
abbrev pub has : List ℕ → ℕ → Bool
has numbers n = list_any (λ m. m == n) numbers

-- the set's facts, from the newest number down: each lies at the floor or above it, and below the one before
abbrev pub AreFalling : ℕ → ℕ → List ℕ → Type 0
AreFalling floor bound [] = Unit {0}
AreFalling floor bound (n ∷ ns) = (n < 2 ^ 48) × (distance floor n < bound) × AreFalling floor (distance floor n) ns

-- the numbers of a set span at most 2,048 successive ones from the floor up (own)
pub record IsSound (set : MarkedSet) : Type 0 where
  pub floor_fits : set.floor < 2 ^ 48
  pub falling : AreFalling set.floor 2048 set.numbers

-- no number, and a floor
abbrev pub empty_from : ℕ → MarkedSet
empty_from floor = record { floor = floor; numbers = [] }

-- the floor rises to the given number if it is before that, and what lies below leaves the set (own)
abbrev pub raised : MarkedSet → ℕ → MarkedSet
raised set to =
    if is_before set.floor to then record { floor = to; numbers = filter (is_from to) set.numbers } else set

-- the lowest floor under which a number is kept: 2,047 below it (own)
abbrev pub floor_under : ℕ → ℕ
floor_under n = down n 2047

-- the numbers with one more, each at its place
abbrev pub with_number : ℕ → ℕ → List ℕ → List ℕ
with_number floor n [] = n ∷ []
with_number floor n (m ∷ ms) =
    if nat_lt (distance floor n) (distance floor m) then m ∷ with_number floor n ms else n ∷ m ∷ ms

-- what marking a number answers (own)
abbrev pub answer_to : MarkedSet → ℕ → Marked
answer_to set n =
    if is_from set.floor n then (if has set.numbers n then Again else New) else BelowFloor

-- the set with a number that is new to it: first the floor rises, then the number joins
abbrev pub joined_by : MarkedSet → ℕ → MarkedSet
joined_by set n = record { floor = set.floor; numbers = with_number set.floor n set.numbers }

-- the set after a mark: changed only if the answer is New (own)
abbrev pub marked : MarkedSet → ℕ → MarkedSet
marked set n =
    if is_from set.floor n
    then (if has set.numbers n then set else joined_by (raised set (floor_under n)) n)
    else set
