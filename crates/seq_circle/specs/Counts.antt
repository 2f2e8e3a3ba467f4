-- Numbers by counts: an end's first packet has the number ISS and count 1, and each further one the next number and the
-- next count (RFC 4340, section 7.1; the counting is own).
use Rattle.std.specs.Prelude.{ℕ, ◌+◌, ◌-◌, ◌^◌, ◌<◌, ◌≤◌}
use Rattle.seq_circle.specs.Circle.{residue, distance}

-- the number of the packet with this count
abbrev pub number_of : ℕ → ℕ → ℕ
number_of iss count = residue (iss + (count - 1))

-- the count of the packet with this number
abbrev pub count_of : ℕ → ℕ → ℕ
count_of iss number = distance iss number + 1

-- a number from ISS on, of one of the first 2^47 packets
pub record IsNumber (iss number : ℕ) : Type 0 where
  pub iss_fits : iss < 2 ^ 48
  pub fits : number < 2 ^ 48
  pub early : count_of iss number ≤ 2 ^ 47
