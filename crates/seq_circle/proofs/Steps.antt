-- Steps down the circle, for crates above.
use Rattle.std.proofs.Common.{◌≡◌, ℕ, ◌+◌, ◌-◌, ◌^◌, ◌<◌, ◌≤◌, arith}
use Rattle.seq_circle.specs.Circle.{distance, down}

-- steps down, no farther than to the low end, are this many nearer to it
pub distance-down : (low n steps : ℕ) → low < 2 ^ 48 → n < 2 ^ 48 → steps ≤ distance low n → distance low (down n steps) + steps ≡ distance low n
distance-down low n steps low_fits fits few = omega (arith, low_fits, fits, few)
