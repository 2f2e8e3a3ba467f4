-- What the worked rows share: the bytes that hexadecimal digits spell.
use Rattle.std.specs.Prelude.{ℕ, ◌+◌, ◌-◌, ◌*◌, nat_le, if◌then◌else◌, List, [], ◌∷◌, codes}
use Prim.Native.String.{String}

-- a digit by its code: 0 to 9, or a to f
abbrev pub digit : ℕ → ℕ
digit code = if nat_le 97 code then code - 87 else code - 48

-- two digits a byte
abbrev pub bytes_of : List ℕ → List ℕ
bytes_of [] = []
bytes_of (digit_alone ∷ []) = []
bytes_of (high ∷ low ∷ rest) = (16 * digit high + digit low) ∷ bytes_of rest

-- the bytes of a text of digits
abbrev pub bytes : String → List ℕ
bytes digits = bytes_of (codes digits)
