-- Numbers on their circles of 48 and 24 bits (RFC 4340, sections 3.1, 7.1 and 7.6): what the short ones mean, and which of two is before the
-- other, computed from the definitions. The values were written by hand.
use Rattle.std.specs.Prelude.{◌≡◌, refl, ℕ, ◌+◌, ◌%◌, ◌^◌, ◌==◌, Bool, true, false, None, Some}
use Rattle.seq_circle.specs.Circle.{distance, down, extended, is_ack_far, is_before, is_far, is_from, is_within, later_of, open_end, residue}

-- this many steps up from a number, as many down, and one step up
abbrev pub steps : ℕ → ℕ → ℕ × ℕ × ℕ
steps number count = (residue (number + count), down number count, residue (number + 1))

-- the distance from a number to another, whether it is before that, and the later of both
abbrev pub order : ℕ → ℕ → ℕ × Bool × ℕ
order a b = (distance a b, is_before a b, later_of a b)

-- whether a number is from another on if there is no upper end, and what is in that end's place
abbrev pub from : ℕ → ℕ → Bool × ℕ
from number low = (is_from low number, open_end low)

-- whether a number lies far from a reference, and whether it is found from its low 24 bits
abbrev pub far : ℕ → ℕ → Bool × Bool
far number reference = (is_far number reference, extended (number % 2 ^ 24) reference == number)

numbers_on_their_circles :
    -- A short number near a reference, and the number that it means there
    (extended 5 33554416 ≡ 33554437)
    × (extended 16777200 33554437 ≡ 33554416)
    × (extended 7 0 ≡ 7)
    × (extended 16777215 0 ≡ 281474976710655)
    -- Just half the short circle away, on either side: neither is before the other, and the turn stays
    × (extended 8388608 16777216 ≡ 25165824)
    × (extended 0 25165824 ≡ 16777216)
    -- One step less on either side: the nearer turn
    × (extended 8388607 16777216 ≡ 25165823)
    × (extended 8388609 16777216 ≡ 8388609)
    × (extended 0 25165825 ≡ 33554432)
    × (extended 0 25165823 ≡ 16777216)
    -- The reference itself, and the turn after the last
    × (extended 8388608 25165824 ≡ 25165824)
    × (extended 1 281474976710640 ≡ 1)
    -- The next turn in the upper half of the circle
    × (extended 0 140737505132543 ≡ 140737505132544)
    -- How many steps up from a number lead where, as many down, and one step up
    × (steps 281474976710655 1 ≡ (0, 281474976710654, 0))
    × (steps 281474976710655 2 ≡ (1, 281474976710653, 0))
    × (steps 281474976710655 281474976710656 ≡ (281474976710655, 281474976710655, 0))
    × (steps 0 140737488355328 ≡ (140737488355328, 140737488355328, 1))
    × (steps 0 1 ≡ (1, 281474976710655, 1))
    × (steps 0 281474976710657 ≡ (1, 281474976710655, 1))
    -- The distance from a number to another, whether it is before that, and the later of both
    × (order 281474976710655 0 ≡ (1, true, 0))
    × (order 0 281474976710655 ≡ (281474976710655, false, 0))
    -- No number is before itself
    × (order 0 0 ≡ (0, false, 0))
    -- A step less than half a circle ahead, and half a circle, which is not before
    × (order 0 140737488355327 ≡ (140737488355327, true, 140737488355327))
    × (order 0 140737488355328 ≡ (140737488355328, false, 0))
    -- Whether a number lies within two ends
    × (is_within 281474976710655 281474976710652 0 ≡ true)
    × (is_within 1 281474976710652 0 ≡ false)
    -- Both ends belong to it
    × (is_within 5 5 9 ≡ true)
    × (is_within 9 5 9 ≡ true)
    × (is_within 4 5 9 ≡ false)
    × (is_within 10 5 9 ≡ false)
    -- Whether a number is from another on if there is no upper end, and what is in that end's place
    × (from 0 0 ≡ (true, 140737488355327))
    -- Over the circle's end
    × (from 0 281474976710655 ≡ (true, 140737488355326))
    × (from 281474976710655 0 ≡ (false, 140737488355327))
    -- Half a circle ahead, half a circle back, and a step less
    × (from 140737488355328 0 ≡ (false, 140737488355327))
    × (from 0 140737488355328 ≡ (false, 281474976710655))
    × (from 140737488355328 1 ≡ (true, 140737488355328))
    × (from 140737488355327 0 ≡ (true, 140737488355327))
    -- Whether a number lies far from a reference, and whether it is found from its low 24 bits
    × (far 1002 1001 ≡ (false, true))
    -- A step less than half the short circle away, on either side, and over the circle's end
    × (far 9388607 1000000 ≡ (false, true))
    × (far 1000000 9388607 ≡ (false, true))
    × (far 8388606 281474976710655 ≡ (false, true))
    -- Just half of it: far, and found only if the turn is the same
    × (far 8388608 0 ≡ (true, true))
    × (far 0 8388608 ≡ (true, true))
    × (far 25165824 16777215 ≡ (true, false))
    × (far 16777216 0 ≡ (true, false))
    × (far 140737488355328 0 ≡ (true, false))
    -- The same of an acknowledgement number, which may be wanting
    × (is_ack_far None 0 ≡ false)
    × (is_ack_far (Some 8388607) 0 ≡ false)
    × (is_ack_far (Some 8388608) 0 ≡ true)
numbers_on_their_circles = (refl, refl, refl, refl, refl, refl, refl, refl, refl, refl, refl, refl, refl, refl, refl, refl, refl, refl, refl, refl, refl, refl, refl, refl, refl, refl, refl, refl, refl, refl, refl, refl, refl, refl, refl, refl, refl, refl, refl, refl, refl, refl, refl, refl, refl, refl, refl, refl, refl)
