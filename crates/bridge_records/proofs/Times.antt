-- A part of a second is less than a second, and which powers of ten have at most 64 bits.
use Rattle.std.proofs.Common.{arith, ℕ, ◌*◌, ◌/◌, ◌%◌, ◌^◌, ◌<◌, ◌≤◌}
use Rattle.std.proofs.Math.Nat.{div-lt_iff_lt-mul, mod-lt, one-le-pow, pow-le-pow_right}

pub nanos_fit : (units ticks : ℕ) → 0 < units → ticks % units * 1000000000 / units < 2 ^ 32
nanos_fit units ticks some =
    let part : ticks % units < units = mod-lt ticks some in
    let small : ticks % units * 1000000000 / units < 1000000000 = (div-lt_iff_lt-mul some).1 (omega (arith, part)) in
    omega (arith, small)

pub ten_fits : (power : ℕ) → power < 20 → 10 ^ power < 2 ^ 64
ten_fits power few =
    let ten : 0 < 10 = omega arith in
    let below : power ≤ 19 = omega (arith, few) in
    let most : 10 ^ power ≤ 10 ^ 19 = pow-le-pow_right ten below in
    omega (arith, most)

pub ten_some : (power : ℕ) → 0 < 10 ^ power
ten_some power =
    let ten : 0 < 10 = omega arith in
    let one : 1 ≤ 10 ^ power = one-le-pow power 10 ten in
    omega (arith, one)
