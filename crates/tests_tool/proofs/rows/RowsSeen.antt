-- What the worked rows of the second tool use: bytes spelled by hexadecimal digits, and what is refused after a prefix of a text.
use Rattle.std.specs.Prelude.{ℕ, ◌+◌, ◌-◌, ◌*◌, nat_le, if◌then◌else◌, Bool, true, List, [], ◌∷◌, ◌++◌, take, codes}
use Prim.Native.String.{String}

abbrev pub digit : ℕ → ℕ
digit code = if nat_le 97 code then code - 87 else code - 48

abbrev pub bytes : List ℕ → List ℕ
bytes [] = []
bytes (digit_alone ∷ []) = []
bytes (high ∷ low ∷ rest) = (16 * digit high + digit low) ∷ bytes rest

-- what a refused input gives: this many bytes of what the whole one does, then this line
abbrev pub refused_after : List ℕ → ℕ → String → List ℕ × Bool
refused_after text written line = (take written text ++ codes line, true)
