-- What a preference list is, and how it is stored: eight bytes, of which the first are its entries (own).
use Rattle.std.specs.Prelude.{◌≡◌, ℕ, ◌-◌, ◌≤◌, true, List, ◌++◌, length, take, replicate}
use Rattle.feature_lists.specs.Lists.{is_distinct}

-- one to eight entries, none twice
pub record IsPreferences (list : List ℕ) : Type 0 where
  pub some : 1 ≤ length list
  pub few : length list ≤ 8
  pub distinct : is_distinct list ≡ true

-- a list's entries, and zeros after them up to eight places
abbrev pub filled_to_eight : List ℕ → List ℕ
filled_to_eight list = list ++ replicate (8 - length list) 0

-- the eight bytes and the count of a preference list
pub record PrefsInvariant (entries : List ℕ) (len : ℕ) : Type 0 where
  pub size : length entries ≡ 8
  pub some : 1 ≤ len
  pub few : len ≤ 8
  pub zeros : filled_to_eight (take len entries) ≡ entries
  pub distinct : is_distinct (take len entries) ≡ true
