-- Pieces of the tool's texts (own).
use Rattle.std.specs.Prelude.{◌≡◌, ℕ, List, [], ◌∷◌, ◌++◌, length, take, slice_index, codes, decimal, Vec}
use Rattle.hex.specs.Hex.{encode_lower}

-- an earlier text is a prefix of a later one
pub record Keeps (old new : List ℕ) : Type 0 where
  pub front : take (length old) new ≡ old

-- a number after its word
abbrev pub labelled_number : List ℕ → ℕ → List ℕ
labelled_number word number = word ++ decimal number

-- bytes as digits in lower case, or a dash for none
abbrev pub hex_or_dash : List ℕ → List ℕ
hex_or_dash [] = codes "-"
hex_or_dash (byte ∷ bytes) = encode_lower (byte ∷ bytes)

-- four numbers, separated by dots
abbrev pub v4_text : List ℕ → List ℕ
v4_text a =
    decimal (slice_index a 0) ++ codes "." ++ decimal (slice_index a 1) ++ codes "."
    ++ decimal (slice_index a 2) ++ codes "." ++ decimal (slice_index a 3)

-- two texts have the same bytes, whatever room they have
abbrev pub SameText : {X Z : Type 0} → Vec X Z → Vec X Z → Type 0
SameText old new = new.items ≡ old.items
