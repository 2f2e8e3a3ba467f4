-- What a list of calls makes of a set, however the set is kept.
use Rattle.std.specs.Prelude.{ℕ, ◌+◌, List, [], ◌∷◌}
use Rattle.run_list.specs.declared.answers.Marked.{Marked}
use Rattle.run_list.specs.declared.answers.Marked.TheVariants.{New, Again, BelowFloor}
use Rattle.run_list.specs.declared.runs.RunCall.{RunCall}
use Rattle.run_list.specs.declared.runs.RunCall.TheVariants.{Start, Mark, Raise}
use Rattle.run_list.specs.MarkedSet.{MarkedSet, empty_from, marked, raised, answer_to}

-- the set after a call
abbrev pub set_after : RunCall → MarkedSet → MarkedSet
set_after (Start first) set = empty_from first
set_after (Mark n) set = marked set n
set_after (Raise to) set = raised set to

-- the set after the calls
abbrev pub replayed : List RunCall → MarkedSet → MarkedSet
replayed [] set = set
replayed (call ∷ calls) set = replayed calls (set_after call set)

-- an answer counts as 1 if it is New
abbrev pub count_of_answer : Marked → ℕ
count_of_answer New = 1
count_of_answer Again = 0
count_of_answer BelowFloor = 0

-- a call counts as 1 if it is a mark whose answer is New
abbrev pub new_by : RunCall → MarkedSet → ℕ
new_by (Start first) set = 0
new_by (Mark n) set = count_of_answer (answer_to set n)
new_by (Raise to) set = 0

-- how many marks are New
abbrev pub count_of_new : List RunCall → MarkedSet → ℕ
count_of_new [] set = 0
count_of_new (call ∷ calls) set = new_by call set + count_of_new calls (set_after call set)
