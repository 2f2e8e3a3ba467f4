-- No time at all (own).
use Rattle.std.specs.Prelude.{ℕ, ◌^◌, ◌-◌}

-- the number that means never: 2^64 - 1
abbrev pub never : ℕ
never = 2 ^ 64 - 1
