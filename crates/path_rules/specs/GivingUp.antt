-- When an end that hears nothing is given up (RFC 4340, sections 8.1.1 and 8.3; own).
use Rattle.std.specs.Prelude.{ℕ, ◌-◌, nat_le, Bool, ◌&&◌}

-- a minute without a packet, and ten seconds since it has last asked (own)
abbrev pub asks_after_silence : ℕ → ℕ → ℕ → Bool
asks_after_silence heard asked now = nat_le 60000 (now - heard) && nat_le 10000 (now - asked)
