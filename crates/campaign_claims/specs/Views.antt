-- What a claimer knows, and how each step changes it (own).
use Rattle.std.specs.Prelude.{◌≡◌, ℕ, ◌+◌, ◌-◌, ◌/◌, ◌^◌, List, [], ◌∷◌, ◌++◌, nat_lt, if◌then◌else◌}
use Rattle.atomic_table.specs.Seated.{TableId}
use Rattle.campaign_claims.specs.declared.rule.View.{View}

-- a claimer: to which claims it belongs, and what it knows
pub record Claimant : Type 0 where
  pub claims : TableId
  pub view : View

-- a claimer of these claims that knows this
abbrev pub held : TableId → View → Claimant
held claims view = record { claims = claims; view = view }

-- the number is the last of these
pub record IsLastNumber (numbers : List ℕ) (index : ℕ) : Type 0 where
  pub before : List ℕ
  pub last : numbers ≡ before ++ index ∷ []

-- a view of these numbers, claims made, share and limit
abbrev pub knows : List ℕ → ℕ → ℕ → ℕ → View
knows numbers drawn share limit = record { numbers = numbers; drawn = drawn; share = share; limit = limit }

-- the first claimer has all shares
abbrev pub first : ℕ → View
first limit = knows [] 0 (2 ^ 62) limit

-- one claim more, which gave this number
abbrev pub with_claimed : View → ℕ → View
with_claimed view k = knows (view.numbers ++ k ∷ []) (view.drawn + 1) view.share view.limit

-- one claim more, which gave none
abbrev pub with_none : View → View
with_none view = knows view.numbers (view.drawn + 1) view.share view.limit

-- what a claim makes of a view, by the word that it read
abbrev pub claimed : View → ℕ → View
claimed view found = if nat_lt found view.limit then with_claimed view found else with_none view

-- half of the claims that may still be made, rounded down
abbrev pub half_left : View → ℕ
half_left view = (view.share - view.drawn) / 2

-- what a claimer keeps at a split
abbrev pub kept : View → View
kept view = knows view.numbers view.drawn (view.share - half_left view) view.limit

-- what is given at a split: half of the claims that are left, and no number
abbrev pub given : View → View
given view = knows [] 0 (half_left view) view.limit

-- two views joined into one
abbrev pub both : View → View → View
both view w = knows (view.numbers ++ w.numbers) (view.drawn + w.drawn) (view.share + w.share) view.limit

-- what is left of a claimer that was joined to another: nothing
abbrev pub spent : View
spent = knows [] 0 0 0
