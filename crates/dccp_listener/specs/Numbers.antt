-- The address and port of a peer as the digits of one number (own).
use Rattle.std.specs.Prelude.{◌≡◌, ◌<◌, ℕ, List, length, get_or}

-- four bytes, and a number of two
pub record AreDigits (address : List ℕ) (port : ℕ) : Type 0 where
  pub long : length address ≡ 4
  pub bytes : (i : ℕ) → get_or address i 0 < 256
  pub fits : port < 65536
