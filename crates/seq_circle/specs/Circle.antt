-- Circular numbers: 48-bit sequence numbers and their 24-bit short forms (RFC 4340, sections 3.1, 7.1 and 7.6).
use Rattle.std.specs.Prelude.{ℕ, ◌+◌, ◌-◌, ◌*◌, ◌/◌, ◌%◌, ◌^◌, ◌<◌, ◌≤◌, Bool, false, ◌&&◌, nat_lt, nat_le, if◌then◌else◌, Option, Some, None}

-- the sequence number of a whole number
abbrev pub residue : ℕ → ℕ
residue n = n % 2 ^ 48

-- how many steps lead from one number up to another
abbrev pub distance : ℕ → ℕ → ℕ
distance from to = residue (to + 2 ^ 48 - from)

-- the number that lies this many steps down from another
abbrev pub down : ℕ → ℕ → ℕ
down number steps = residue (number + (2 ^ 48 - residue steps))

-- the other lies ahead, by less than half the circle
abbrev pub IsBefore : ℕ → ℕ → Type 0
IsBefore a b = (1 ≤ distance a b) × (distance a b < 2 ^ 47)

-- the same, as a test
abbrev pub is_before : ℕ → ℕ → Bool
is_before a b = nat_lt 0 (distance a b) && nat_lt (distance a b) (2 ^ 47)

-- the later of two numbers
abbrev pub later_of : ℕ → ℕ → ℕ
later_of a b = if is_before a b then b else a

-- low <= n: the number is the low end, or lies ahead of it by less than half the circle (RFC 4340, section 3.1)
abbrev pub IsFrom : ℕ → ℕ → Type 0
IsFrom low n = distance low n < 2 ^ 47

-- the same, as a test
abbrev pub is_from : ℕ → ℕ → Bool
is_from low n = nat_lt (distance low n) (2 ^ 47)

-- the last number of an interval without an upper end: the last one that the low end is before
abbrev pub open_end : ℕ → ℕ
open_end low = residue (low + (2 ^ 47 - 1))

-- on the way up from the low end, the number comes no later than the high end
abbrev pub IsWithin : ℕ → ℕ → ℕ → Type 0
IsWithin n low high = distance low n ≤ distance low high

-- the same, as a test
abbrev pub is_within : ℕ → ℕ → ℕ → Bool
is_within n low high = nat_le (distance low n) (distance low high)

-- the same for the short form of a number: its low 24 bits
abbrev pub short_distance : ℕ → ℕ → ℕ
short_distance from to = (to + 2 ^ 24 - from) % 2 ^ 24

-- the order of short forms: the other lies ahead by 1 to 2^23 - 1
abbrev pub is_short_before : ℕ → ℕ → Bool
is_short_before a b = nat_lt 0 (short_distance a b) && nat_lt (short_distance a b) (2 ^ 23)

-- The number near the reference with this short form (RFC 4340, section 7.6): in the next turn of the upper half, in
-- the turn before, or in the same.
abbrev pub extended : ℕ → ℕ → ℕ
extended short reference =
    let low = reference % 2 ^ 24 in
    let high = reference / 2 ^ 24 in
    if is_short_before low short && nat_lt short low then (high + 1) % 2 ^ 24 * 2 ^ 24 + short
    else if is_short_before short low && nat_lt low short then (high + (2 ^ 24 - 1)) % 2 ^ 24 * 2 ^ 24 + short
    else high * 2 ^ 24 + short

-- A number that its short form may not give back: it lies 2^23 or more from the reference, up and down the circle (own;
-- the bound is that of RFC 4340, section 7.6).
abbrev pub is_far : ℕ → ℕ → Bool
is_far number reference = nat_le (2 ^ 23) (distance number reference) && nat_le (2 ^ 23) (distance reference number)

-- the same for the acknowledgement number of a packet that may have none
abbrev pub is_ack_far : Option ℕ → ℕ → Bool
is_ack_far None reference = false
is_ack_far (Some ack) reference = is_far ack reference
