-- Preference lists and what two of them settle on (RFC 4340, section 6.3.1).
use Rattle.std.specs.Prelude.{◌≡◌, ℕ, ◌<◌, ◌==◌, ◌&&◌, not, Bool, true, List, [], ◌∷◌, Option, Some, Contains, find, slice_get}
use Rattle.std.specs.List.{list_any}

-- the value is in the list
abbrev pub has_entry : List ℕ → ℕ → Bool
has_entry list value = list_any (λ entry. entry == value) list

-- no entry is there twice
abbrev pub is_distinct : List ℕ → Bool
is_distinct [] = true
is_distinct (entry ∷ rest) = not (has_entry rest entry) && is_distinct rest

-- the first entry of the server's list that is in the client's (RFC 4340, section 6.3.1)
abbrev pub reconciled : List ℕ → List ℕ → Option ℕ
reconciled server client = find (has_entry client) server

-- the value is in both lists, and none before it in the server's list is in the client's
pub record IsFirstShared (server client : List ℕ) (value : ℕ) : Type 0 where
  pub place : ℕ
  pub stands : slice_get server place ≡ Some value
  pub shared : Contains client value
  pub first : (earlier other : ℕ) → earlier < place → slice_get server earlier ≡ Some other → ¬ Contains client other

-- no value is in both lists
abbrev pub SharesNothing : List ℕ → List ℕ → Type 0
SharesNothing server client = (value : ℕ) → Contains server value → ¬ Contains client value
