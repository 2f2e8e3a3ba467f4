-- One step down the circle, as it looks from the floor.
use Rattle.std.proofs.Common.{◌≡◌, ℕ, ◌+◌, ◌-◌, ◌^◌, ◌<◌, ◌≤◌, arith}
use Rattle.seq_circle.specs.Circle as circle
use Rattle.seq_circle.specs.Circle.{residue, distance}

-- the number right below
abbrev pub down : ℕ → ℕ
down n = circle.down n 1

pub down_fits : (n : ℕ) → down n < 2 ^ 48
down_fits n = omega arith

pub distance-down : (f n : ℕ) → f < 2 ^ 48 → n < 2 ^ 48 → 1 ≤ distance f n → distance f (down n) + 1 ≡ distance f n
distance-down f n p q h = omega arith

pub up-down : (n : ℕ) → n < 2 ^ 48 → residue (down n + 1) ≡ n
up-down n p = omega arith

pub same_place : (f m n : ℕ) → f < 2 ^ 48 → m < 2 ^ 48 → n < 2 ^ 48 → distance f m ≡ distance f n → m ≡ n
same_place f m n p q r h = omega arith

-- the number right above
pub distance-up : (f m n : ℕ) → f < 2 ^ 48 → m < 2 ^ 48 → n < 2 ^ 48 → distance f n ≡ distance f m + 1 → residue (m + 1) ≡ n
distance-up f m n p q r h = omega arith

pub up_distance : (f m n : ℕ) → f < 2 ^ 48 → m < 2 ^ 48 → residue (m + 1) ≡ n → distance f m < 2 ^ 47 → distance f n ≡ distance f m + 1
up_distance f m n p q e h = omega arith

-- a floor ahead sees each number at or above it that much nearer
pub distance_raised : (f to n : ℕ) → f < 2 ^ 48 → to < 2 ^ 48 → n < 2 ^ 48 → distance f to ≤ distance f n → distance to n + distance f to ≡ distance f n
distance_raised f to n p q r h = omega arith

-- and a number below it far away
pub far_below : (f to n : ℕ) → f < 2 ^ 48 → to < 2 ^ 48 → n < 2 ^ 48 → distance f n < distance f to → distance f to < 2 ^ 47 → 2 ^ 47 ≤ distance to n
far_below f to n p q r h k = omega arith

pub further : (f m n c : ℕ) → f < 2 ^ 48 → m < 2 ^ 48 → n < 2 ^ 48 → distance f m + c ≡ distance f n → residue (m + c) ≡ n
further f m n c p q r h = omega arith

pub right_below : (f m n : ℕ) → f < 2 ^ 48 → m < 2 ^ 48 → n < 2 ^ 48 → distance f m + 1 ≡ distance f n → down n ≡ m
right_below f m n p q r h = omega arith

-- this many steps down, no farther than the floor
pub back : (f n c : ℕ) → f < 2 ^ 48 → n < 2 ^ 48 → c ≤ distance f n → distance f (residue (n + (2 ^ 48 - c))) + c ≡ distance f n
back f n c p q h = omega arith

pub back_up : (f n c : ℕ) → f < 2 ^ 48 → n < 2 ^ 48 → c ≤ distance f n → residue (residue (n + (2 ^ 48 - c)) + c) ≡ n
back_up f n c p q h = omega arith
