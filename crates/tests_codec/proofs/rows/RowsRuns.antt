-- Worked lists of calls to a set of numbers, computed from the definitions. The values follow by hand from the description of a set; those of
-- the longer lists come from a separate model, a plain set of numbers with a floor.
use Rattle.std.specs.Prelude.{◌≡◌, refl, ℕ, ◌+◌, List, [], ◌∷◌, ◌++◌, zero, suc, map}
use Rattle.seq_circle.specs.Circle.{down, residue}
use Rattle.run_list.specs.MarkedSet.{MarkedSet, answer_to, empty_from, marked}
use Rattle.run_list.specs.Replay.{count_of_new, replayed}
use Rattle.run_list.specs.Stretches.{stretches}
use Rattle.run_list.specs.declared.answers.Marked.{Marked}
use Rattle.run_list.specs.declared.answers.Marked.TheVariants.{New, Again, BelowFloor}
use Rattle.run_list.specs.declared.runs.RunCall.{RunCall}
use Rattle.run_list.specs.declared.runs.RunCall.TheVariants.{Start, Mark, Raise}

-- this many calls, whose numbers go up by this many steps, and whose numbers go down
abbrev up : (ℕ → RunCall) → ℕ → ℕ → ℕ → List RunCall
up call n steps zero = []
up call n steps (suc times) = call n ∷ up call (residue (n + steps)) steps times

abbrev down_from : (ℕ → RunCall) → ℕ → ℕ → ℕ → List RunCall
down_from call n steps zero = []
down_from call n steps (suc times) = call n ∷ down_from call (down n steps) steps times

-- this many times two runs become one, and all starts anew
abbrev joins : ℕ → List RunCall
joins zero = []
joins (suc times) = Start 0 ∷ Mark 1 ∷ Mark 3 ∷ Mark 2 ∷ joins times

-- a new set after these calls
abbrev after : List RunCall → MarkedSet
after calls = replayed calls (empty_from 0)

-- the runs of a set, each by its greatest number and how many it has
abbrev runs : MarkedSet → List (ℕ × ℕ)
runs set = map (λ run. (run.hi, run.count)) (stretches set.numbers)

-- what is seen after calls, and what of a mark after them
abbrev state : List RunCall → ℕ × ℕ × List (ℕ × ℕ)
state calls = (count_of_new calls (empty_from 0), (after calls).floor, runs (after calls))

abbrev seen : List RunCall → ℕ → ℕ × Marked × ℕ × List (ℕ × ℕ)
seen calls n =
    (count_of_new calls (empty_from 0), answer_to (after calls) n, (marked (after calls) n).floor, runs (marked (after calls) n))

abbrev told : List RunCall → ℕ × ℕ
told calls = (count_of_new calls (empty_from 0), (after calls).floor)

-- A mark by what happens to the runs: how many marks before it are New, what it answers, and the floor and the runs after it.
marks_by_name :
    -- begins the first run
    (seen (Start 10 ∷ []) 12 ≡ (0, New, 10, (12, 1) ∷ []))
    -- extends the first run
    × (seen (Start 10 ∷ Mark 10 ∷ Mark 11 ∷ []) 12 ≡ (2, New, 10, (12, 3) ∷ []))
    -- extends a run downwards
    × (seen (Start 10 ∷ Mark 20 ∷ Mark 12 ∷ []) 19 ≡ (2, New, 10, (20, 2) ∷ (12, 1) ∷ []))
    -- joins two
    × (seen (Start 10 ∷ Mark 10 ∷ Mark 12 ∷ Mark 13 ∷ []) 11 ≡ (3, New, 10, (13, 4) ∷ []))
    -- links between
    × (seen (Start 10 ∷ Mark 10 ∷ Mark 20 ∷ []) 15 ≡ (2, New, 10, (20, 1) ∷ (15, 1) ∷ (10, 1) ∷ []))
    -- below the floor
    × (seen (Start 10 ∷ Mark 11 ∷ []) 9 ≡ (1, BelowFloor, 10, (11, 1) ∷ []))
    -- half the circle ahead
    × (seen (Start 10 ∷ Mark 11 ∷ []) 140737488355338 ≡ (1, BelowFloor, 10, (11, 1) ∷ []))
    -- again
    × (seen (Start 10 ∷ Mark 10 ∷ Mark 11 ∷ Mark 12 ∷ []) 11 ≡ (3, Again, 10, (12, 3) ∷ []))
    -- 2,047 above the floor
    × (seen (Start 10 ∷ Mark 10 ∷ Mark 11 ∷ []) 2057 ≡ (2, New, 10, (2057, 1) ∷ (11, 2) ∷ []))
    -- pushes the floor
    × (seen (Start 10 ∷ Mark 10 ∷ Mark 11 ∷ []) 2058 ≡ (2, New, 11, (2058, 1) ∷ (11, 1) ∷ []))
    -- over the wrap
    × (seen (Start 281474976710654 ∷ Mark 281474976710654 ∷ Mark 281474976710655 ∷ Mark 1 ∷ []) 0 ≡ (3, New, 281474976710654, (1, 4) ∷ []))
    -- more often than a set has nodes: 1,024 times
    × (state (joins 1025) ≡ (3075, 0, (3, 3) ∷ []))
marks_by_name = (refl, refl, refl, refl, refl, refl, refl, refl, refl, refl, refl, refl)

-- A floor that never falls, one that is raised into a run, one that is raised over all, and a new start: how many marks are New, the floor and the
-- runs.
a_raised_floor :
    -- raised to less
    (state (Start 10 ∷ Mark 10 ∷ Mark 11 ∷ Mark 12 ∷ Mark 20 ∷ Mark 21 ∷ Mark 22 ∷ Raise 5 ∷ []) ≡ (6, 10, (22, 3) ∷ (12, 3) ∷ []))
    -- raised into a run
    × (state (Start 10 ∷ Mark 10 ∷ Mark 11 ∷ Mark 12 ∷ Mark 20 ∷ Mark 21 ∷ Mark 22 ∷ Raise 5 ∷ Raise 21 ∷ []) ≡ (6, 21, (22, 2) ∷ []))
    -- raised over all
    × (state (Start 10 ∷ Mark 10 ∷ Mark 11 ∷ Mark 12 ∷ Mark 20 ∷ Mark 21 ∷ Mark 22 ∷ Raise 5 ∷ Raise 21 ∷ Raise 30 ∷ []) ≡ (6, 30, []))
    -- begun again
    × (state (Start 10 ∷ Mark 10 ∷ Mark 11 ∷ Mark 12 ∷ Mark 20 ∷ Mark 21 ∷ Mark 22 ∷ Raise 5 ∷ Raise 21 ∷ Raise 30 ∷ Start 7 ∷ []) ≡ (6, 7, []))
a_raised_floor = (refl, refl, refl, refl)

-- Marks of each answer, and a raise; a row of runs answers as linked runs do, since the contracts of both name one definition.
a_plain_row :
    (count_of_new (Start 10 ∷ Mark 10 ∷ Mark 12 ∷ Mark 13 ∷ Mark 11 ∷ []) (empty_from 0) ≡ 4)
    × (answer_to (after (Start 10 ∷ Mark 10 ∷ Mark 12 ∷ Mark 13 ∷ Mark 11 ∷ [])) 9 ≡ BelowFloor)
    × (answer_to (after (Start 10 ∷ Mark 10 ∷ Mark 12 ∷ Mark 13 ∷ Mark 11 ∷ Mark 9 ∷ [])) 11 ≡ Again)
    × (answer_to (after (Start 10 ∷ Mark 10 ∷ Mark 12 ∷ Mark 13 ∷ Mark 11 ∷ Mark 9 ∷ Mark 11 ∷ [])) 2058 ≡ New)
    × ((after (Start 10 ∷ Mark 10 ∷ Mark 12 ∷ Mark 13 ∷ Mark 11 ∷ Mark 9 ∷ Mark 11 ∷ Mark 2058 ∷ [])).floor ≡ 11)
    × ((after (Start 10 ∷ Mark 10 ∷ Mark 12 ∷ Mark 13 ∷ Mark 11 ∷ Mark 9 ∷ Mark 11 ∷ Mark 2058 ∷ Raise 12 ∷ [])).floor ≡ 12)
    × (answer_to (after (Start 10 ∷ Mark 10 ∷ Mark 12 ∷ Mark 13 ∷ Mark 11 ∷ Mark 9 ∷ Mark 11 ∷ Mark 2058 ∷ Raise 12 ∷ [])) 11 ≡ BelowFloor)
a_plain_row = (refl, refl, refl, refl, refl, refl, refl)

-- long lists, whose numbers were drawn
abbrev near_1000 : List RunCall
near_1000 =
    (Start 1000 ∷ Mark 1036 ∷ []) ++ up Mark 984 1 16 ++ up Mark 1040 2 11 ++ (Mark 1021 ∷ Mark 1033 ∷ Mark 1054 ∷ Mark 992 ∷ Mark 1058 ∷
    Mark 1020 ∷ Mark 1055 ∷ []) ++ down_from Mark 1011 3 24 ++ (Mark 1032 ∷ Mark 1025 ∷ Mark 1046 ∷ Mark 1049 ∷ Mark 1023 ∷ Mark 1027 ∷
    Mark 1048 ∷ Mark 1035 ∷ Raise 1003 ∷ Mark 1050 ∷ []) ++ down_from Mark 1026 1 22 ++ up Mark 1058 3 13 ++ (Mark 1000 ∷ [])

abbrev over_the_wrap : List RunCall
over_the_wrap =
    (Start 281474976710625 ∷ Mark 8 ∷ Mark 1 ∷ Mark 5 ∷ Raise 281474976710574 ∷ Mark 281474976710612 ∷ Mark 46 ∷ Mark 281474976710643 ∷
    Mark 281474976710605 ∷ []) ++ up Mark 0 3 9 ++ (Mark 281474976710652 ∷ Mark 17 ∷ Mark 281474976710621 ∷ Mark 23 ∷ Mark 26 ∷
    Mark 281474976710642 ∷ Mark 9 ∷ Mark 281474976710631 ∷ Mark 281474976710628 ∷ Mark 24 ∷ Mark 46 ∷ Mark 281474976710653 ∷ Mark 14 ∷
    Mark 7 ∷ Mark 16 ∷ [])

abbrev up_from_5000 : List RunCall
up_from_5000 =
    (Start 5000 ∷ Mark 6309 ∷ Mark 5068 ∷ []) ++ up Mark 5496 1 15 ++ down_from Mark 5270 1 35 ++ down_from Mark 6057 1 28 ++ (Mark 5211 ∷
    Mark 6571 ∷ []) ++ up Mark 7967 3 19 ++ (Mark 5881 ∷ Mark 5329 ∷ []) ++ up Mark 6120 1 2 ++ down_from Mark 6421 2 37 ++ (Raise 3940 ∷
    Raise 6245 ∷ Mark 5198 ∷ Mark 6920 ∷ Mark 7215 ∷ Mark 7281 ∷ Mark 7428 ∷ Mark 5138 ∷ Mark 7267 ∷ []) ++ down_from Mark 5185 2 16 ++
    (Raise 3605 ∷ []) ++ up Mark 6748 2 16

abbrev up_from_70000 : List RunCall
up_from_70000 =
    (Start 70000 ∷ Mark 73130 ∷ Mark 73388 ∷ []) ++ up Mark 71946 3 32 ++ down_from Mark 71716 3 30 ++ (Mark 71441 ∷ Mark 70018 ∷
    Mark 71085 ∷ Mark 72801 ∷ Mark 73567 ∷ []) ++ up Mark 72756 1 21 ++ (Mark 71474 ∷ Mark 72434 ∷ Mark 75149 ∷ Mark 71101 ∷ Mark 72728 ∷
    Mark 71876 ∷ Mark 75926 ∷ []) ++ down_from Mark 70191 3 25 ++ down_from Mark 74305 3 31 ++ (Mark 71432 ∷ Mark 73619 ∷ Mark 70061 ∷
    Mark 71916 ∷ Mark 70309 ∷ Mark 72622 ∷ []) ++ up Mark 71784 2 33 ++ (Mark 74970 ∷ []) ++ down_from Mark 73204 1 24 ++
    down_from Mark 70966 3 14 ++ down_from Mark 72183 1 39

-- Lists of calls: how many marks are New, and the floor in the end. The lists of thousands of marks are run by tests (full_linked_sets).
each_list_of_calls :
    (told (Start 10 ∷ []) ≡ (0, 10))
    × (told (Mark 0 ∷ []) ≡ (1, 0))
    × (told (Start 10 ∷ Mark 12 ∷ []) ≡ (1, 10))
    × (told ((Start 10 ∷ []) ++ up Mark 10 1 3) ≡ (3, 10))
    × (told ((Start 10 ∷ []) ++ down_from Mark 12 1 3) ≡ (3, 10))
    × (told (Start 10 ∷ Mark 10 ∷ Mark 12 ∷ Mark 11 ∷ []) ≡ (3, 10))
    × (told (Start 10 ∷ Mark 10 ∷ Mark 20 ∷ Mark 15 ∷ Mark 15 ∷ []) ≡ (3, 10))
    × (told (Start 10 ∷ Mark 9 ∷ Mark 10 ∷ []) ≡ (1, 10))
    × (told (Start 10 ∷ Mark 10 ∷ Mark 12 ∷ Mark 12 ∷ Mark 9 ∷ Raise 11 ∷ Mark 10 ∷ Mark 11 ∷ []) ≡ (3, 11))
    × (told (Start 10 ∷ Mark 140737488355338 ∷ []) ≡ (0, 10))
    × (told (Start 10 ∷ Mark 140737488355337 ∷ []) ≡ (1, 140737488353290))
    × (told (Start 10 ∷ Mark 2057 ∷ Mark 2058 ∷ Mark 10 ∷ Mark 11 ∷ []) ≡ (3, 11))
    × (told ((Start 10 ∷ []) ++ up Mark 10 1 2 ++ (Mark 2058 ∷ Mark 10 ∷ [])) ≡ (3, 11))
    × (told ((Start 281474976710654 ∷ []) ++ up Mark 281474976710654 1 4) ≡ (4, 281474976710654))
    × (told ((Start 281474976710654 ∷ []) ++ down_from Mark 1 1 4 ++ (Raise 0 ∷ Mark 281474976710655 ∷ [])) ≡ (4, 0))
    × (told ((Start 10 ∷ []) ++ up Mark 10 1 3 ++ up Mark 20 1 3 ++ (Raise 21 ∷ Mark 20 ∷ Mark 21 ∷ [])) ≡ (6, 21))
    × (told ((Start 10 ∷ []) ++ up Mark 10 1 3 ++ up Mark 20 1 3 ++ (Raise 30 ∷ Mark 29 ∷ Mark 30 ∷ [])) ≡ (7, 30))
    × (told ((Start 10 ∷ []) ++ up Mark 10 2 3 ++ (Raise 12 ∷ Mark 11 ∷ Mark 12 ∷ Mark 13 ∷ [])) ≡ (4, 12))
    × (told ((Start 10 ∷ []) ++ up Mark 10 2 3 ++ (Raise 13 ∷ Raise 11 ∷ Mark 12 ∷ Mark 13 ∷ [])) ≡ (4, 13))
    × (told ((Start 10 ∷ []) ++ up Mark 10 2 3 ++ (Raise 10 ∷ Raise 9 ∷ Mark 9 ∷ [])) ≡ (3, 10))
    × (told (Start 10 ∷ Mark 20 ∷ Raise 20 ∷ Mark 19 ∷ Mark 20 ∷ Mark 21 ∷ []) ≡ (2, 20))
    × (told ((Start 10 ∷ []) ++ up Mark 20 1 5 ++ (Raise 22 ∷ Mark 21 ∷ Mark 25 ∷ [])) ≡ (6, 22))
    × (told (up Mark 0 2047 20 ++ up Mark 0 2047 20) ≡ (20, 36846))
    × (told (up Mark 0 2048 20 ++ up Mark 1 2048 20) ≡ (22, 36866))
    × (told near_1000 ≡ (53, 1003))
    × (told over_the_wrap ≡ (25, 281474976710625))
    × (told up_from_5000 ≡ (161, 6245))
    × (told up_from_70000 ≡ (123, 73879))
each_list_of_calls = (refl, refl, refl, refl, refl, refl, refl, refl, refl, refl, refl, refl, refl, refl, refl, refl, refl, refl, refl, refl, refl, refl, refl, refl, refl, refl, refl, refl)
