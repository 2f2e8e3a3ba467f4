-- Worked Ack Vectors and records, computed from the definitions (RFC 4340, section 11.4; the floor, the records and their room are own). The bytes
-- are the standard's or follow by hand from its coding.
use Rattle.std.specs.Prelude.{◌≡◌, refl, ℕ, ◌+◌, ◌-◌, ◌%◌, ◌==◌, ◌||◌, nat_lt, zero, suc, Bool, true, false, List, [], ◌∷◌, ◌++◌, length, drop, map, is_some}
use Rattle.ack_vectors.specs.Kept.{ReceivedState, acked, fresh, marked_by, newest_whole, recorded}
use Rattle.ack_vectors.specs.Vector.{is_whole_under, vector_under}
use Rattle.ack_vectors.specs.declared.room.Vectors.{Vectors}
use Rattle.ack_vectors.specs.declared.room.Vectors.TheVariants.{One, Two}
use Rattle.run_list.specs.MarkedSet.{answer_to, has}
use Rattle.run_list.specs.Replay.{count_of_new}
use Rattle.run_list.specs.declared.answers.Marked.TheVariants.{New, Again, BelowFloor}
use Rattle.run_list.specs.declared.runs.RunCall.TheVariants.{Mark}

-- this many numbers, from one up
abbrev from : ℕ → ℕ → List ℕ
from zero n = []
from (suc count) n = n ∷ from count (n + 1)

-- these numbers are taken, in this order; how many of them are New
abbrev took : ReceivedState → List ℕ → ReceivedState
took old [] = old
took old (n ∷ ns) = took (marked_by old n) ns

abbrev news : ReceivedState → List ℕ → ℕ
news old numbers = count_of_new (map Mark numbers) old.set

-- a vector and whether it is whole: of a set that a test gives, and of the numbers that are kept
abbrev vector : (ℕ → Bool) → ℕ → ℕ → Vectors → List ℕ × Bool
vector set floor ack vectors = (vector_under set floor ack vectors, is_whole_under set floor ack vectors)

abbrev told : ReceivedState → ℕ → List ℕ × Bool
told old ack = vector (has old.set.numbers) old.set.floor ack One

-- whether a whole vector is recorded under the number
abbrev is_recorded : ReceivedState → ℕ → Bool
is_recorded old number = is_some (newest_whole number old.records)

-- 88 to 98 and 100 were taken: 0 for 100, 3 for 99, and 0 for eleven numbers. At the floor one number is reported, and below it none.
vector_of_received :
    (news (fresh 88) (from 11 88 ++ 100 ∷ []) ≡ 12)
    × (told (took (fresh 88) (from 11 88 ++ 100 ∷ [])) 100 ≡ (0 ∷ 192 ∷ 10 ∷ [], true))
    × (told (took (fresh 88) (from 11 88 ++ 100 ∷ [])) 88 ≡ (0 ∷ [], true))
    × (told (took (fresh 88) (from 11 88 ++ 100 ∷ [])) 87 ≡ ([], true))
vector_of_received = (refl, refl, refl, refl)

-- a run of 64 has one byte, and one more number a second
full_run_of_64 :
    (news (fresh 1) (from 65 1) ≡ 65)
    × (told (took (fresh 1) (from 64 1)) 64 ≡ (63 ∷ [], true))
    × (told (took (fresh 1) (from 65 1)) 65 ≡ (63 ∷ 0 ∷ [], true))
full_run_of_64 = (refl, refl, refl)

-- 12 is missing. The vector of 13 went out under the number 50, and the floor rises after it once 50 is acknowledged.
abbrev missing_12 : ReceivedState
missing_12 = took (fresh 10) (10 ∷ 11 ∷ 13 ∷ [])

abbrev vector_went_out : ReceivedState
vector_went_out = recorded missing_12 50 13 true

floor_rises_by_record :
    (news (fresh 10) (10 ∷ 11 ∷ 13 ∷ []) ≡ 3)
    × (answer_to missing_12.set 11 ≡ Again)
    × (told missing_12 13 ≡ (0 ∷ 192 ∷ 1 ∷ [], true))
    × (is_recorded vector_went_out 49 ≡ false)
    × ((acked vector_went_out 49).set.floor ≡ 10)
    × (is_recorded vector_went_out 50 ≡ true)
    × ((acked vector_went_out 50).set.floor ≡ 14)
    × (answer_to (acked vector_went_out 50).set 12 ≡ BelowFloor)
    × (answer_to (acked vector_went_out 50).set 15 ≡ New)
    × (told (took (acked vector_went_out 50) (15 ∷ [])) 15 ≡ (0 ∷ 192 ∷ [], true))
floor_rises_by_record = (refl, refl, refl, refl, refl, refl, refl, refl, refl, refl)

-- Every second number was received, so that each byte is one number's. Large sets are here as tests of a number: the even ones, and the odd.
abbrev even : ℕ → Bool
even n = n % 2 == 0

abbrev odd : ℕ → Bool
odd n = n % 2 == 1

-- this many bytes: received and not received in turn
abbrev in_turn : ℕ → List ℕ
in_turn zero = []
in_turn (suc zero) = 0 ∷ []
in_turn (suc (suc count)) = 0 ∷ 192 ∷ in_turn count

-- this many numbers, every second from one up
abbrev every_second : ℕ → ℕ → List ℕ
every_second zero n = []
every_second (suc count) n = n ∷ every_second count (n + 2)

-- one option has room for 253 bytes, and two for 506
vectors_at_the_edges :
    (news (fresh 0) (every_second 127 0) ≡ 127)
    × (told (took (fresh 0) (every_second 127 0)) 252 ≡ (in_turn 253, true))
    × (vector even 0 252 One ≡ (in_turn 253, true))
    × (vector even 0 252 Two ≡ (in_turn 253, true))
    × (vector odd 0 253 One ≡ (in_turn 253, false))
    × (vector odd 0 253 Two ≡ (in_turn 254, true))
    × (vector odd 0 503 One ≡ (in_turn 253, false))
    × (vector odd 0 503 Two ≡ (in_turn 504, true))
    × (vector odd 0 505 One ≡ (in_turn 253, false))
    × (vector odd 0 505 Two ≡ (in_turn 506, true))
    × (vector even 0 504 One ≡ (in_turn 253, false))
    × (vector even 0 504 Two ≡ (in_turn 505, true))
    × (vector even 0 506 One ≡ (in_turn 253, false))
    × (vector even 0 506 Two ≡ (in_turn 506, false))
vectors_at_the_edges = (refl, refl, refl, refl, refl, refl, refl, refl, refl, refl, refl, refl, refl, refl)

-- Of the even numbers up to 4,094 the first and the last are taken here, so the floor is 2,047: the vector of all is cut, and a record of it raises no floor.
abbrev cut_went_out : ReceivedState
cut_went_out = recorded (took (fresh 0) (0 ∷ 4094 ∷ [])) 9 4094 false

vector_cut_at_253 :
    ((took (fresh 0) (0 ∷ 4094 ∷ [])).set.floor ≡ 2047)
    × (vector even 2047 4094 One ≡ (in_turn 253, false))
    × (vector even 2047 4094 Two ≡ (in_turn 506, false))
    × (is_recorded cut_went_out 9 ≡ false)
    × ((acked cut_went_out 9).set.floor ≡ 2047)
    × (answer_to (acked cut_went_out 9).set 2046 ≡ BelowFloor)
    × (answer_to (acked cut_went_out 9).set 2047 ≡ New)
vector_cut_at_253 = (refl, refl, refl, refl, refl, refl, refl)

-- A run of 128 has two bytes. Below 504 others both have room, below 505 the first, and below 506 neither. What is seen: how many bytes there are,
-- the last ones, and whether they are all.
abbrev low_or_odd : ℕ → Bool
low_or_odd n = nat_lt n 128 || odd n

abbrev ends : ℕ → ℕ → ℕ × List ℕ × Bool
ends ack last =
    (length (vector_under low_or_odd 0 ack Two), drop (506 - last) (vector_under low_or_odd 0 ack Two), is_whole_under low_or_odd 0 ack Two)

run_cut_at_506 :
    (ends 631 4 ≡ (506, 0 ∷ 192 ∷ 63 ∷ 63 ∷ [], true))
    × (ends 632 3 ≡ (506, 0 ∷ 192 ∷ 63 ∷ [], false))
    × (ends 633 2 ≡ (506, 0 ∷ 192 ∷ [], false))
    × ((took (fresh 0) (0 ∷ 633 ∷ [])).set.floor ≡ 0)
run_cut_at_506 = (refl, refl, refl, refl)

-- what one option cuts raises no floor, and two options hold it whole
abbrev one_went_out : ReceivedState
one_went_out = recorded (fresh 0) 7 504 (is_whole_under even 0 504 One)

abbrev two_went_out : ReceivedState
two_went_out = recorded (acked one_went_out 7) 8 504 (is_whole_under even 0 504 Two)

floor_rises_by_two_options :
    (is_recorded one_went_out 7 ≡ false)
    × ((acked one_went_out 7).set.floor ≡ 0)
    × (is_recorded two_went_out 7 ≡ false)
    × (is_recorded two_went_out 8 ≡ true)
    × ((acked two_went_out 8).set.floor ≡ 505)
floor_rises_by_two_options = (refl, refl, refl, refl, refl)

-- Records over the wrap of numbers: a 65th drops the oldest, of two under one number the newer counts, and no record is kept over a start.
abbrev last_and_first : ReceivedState
last_and_first = took (fresh 281474976710655) (281474976710655 ∷ 0 ∷ [])

-- whole vectors at one number went out under each of these
abbrev all_recorded : ReceivedState → ℕ → List ℕ → ReceivedState
all_recorded old ack [] = old
all_recorded old ack (number ∷ numbers) = all_recorded (recorded old number ack true) ack numbers

abbrev full_ring : ReceivedState
full_ring = all_recorded last_and_first 281474976710655 (from 65 0)

abbrev newer_under_64 : ReceivedState
newer_under_64 = recorded (acked full_ring 1) 64 0 true

records_in_the_ring :
    (news (fresh 281474976710655) (281474976710655 ∷ 0 ∷ []) ≡ 2)
    × (told last_and_first 0 ≡ (1 ∷ [], true))
    × (is_recorded full_ring 0 ≡ false)
    × (is_recorded full_ring 1 ≡ true)
    × ((acked full_ring 1).set.floor ≡ 0)
    × (is_recorded newer_under_64 64 ≡ true)
    × ((acked newer_under_64 64).set.floor ≡ 1)
    × (is_recorded (fresh 7) 64 ≡ false)
records_in_the_ring = (refl, refl, refl, refl, refl, refl, refl, refl)
