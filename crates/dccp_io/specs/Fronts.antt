-- What was taken or given of known bytes, if a call ended early (own).
use Rattle.std.specs.Prelude.{◌≡◌, ℕ, ◌<◌, ◌≤◌, List, length, take, drop, Option, option_map}
use Rattle.std.specs.Io.KnownBytes.{prepend_known, append_known}

-- a sink took a prefix of the piece, and not all of it
abbrev pub TakesFront : Option (List ℕ) → Option (List ℕ) → List ℕ → Type 0
TakesFront old new piece = (n : ℕ) × (n < length piece) × (new ≡ append_known old (take n piece))

-- a source gave some number of its next bytes
abbrev pub GivesFront : Option (List ℕ) → Option (List ℕ) → Type 0
GivesFront old new = (bytes : List ℕ) × (old ≡ prepend_known bytes new)

-- at most this many of the bytes that are known were given
abbrev pub GivesAtMost : ℕ → Option (List ℕ) → Option (List ℕ) → Type 0
GivesAtMost most old new = (n : ℕ) × (n ≤ most) × (new ≡ option_map (drop n) old)
