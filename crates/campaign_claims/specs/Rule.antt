-- The rule over the word and the views of all claimers, and what a claim says about the word that it read (own).
use Rattle.std.specs.Prelude.{◌≡◌, ℕ, ◌^◌, ◌<◌, ◌≤◌, min, nat_lt, if◌then◌else◌, List, [], ◌∷◌, length, All, sum_by, Option, Some, None, ◌-◌}
use mathlib.Core.Option.{some}
use lib.ListN.{get_elem?}
use Rattle.atomic_table.specs.Table.{State, Me}
use Rattle.campaign_claims.specs.declared.rule.View.{View}
use Rattle.campaign_claims.specs.Numbers.{times, once_below}
use Rattle.campaign_claims.specs.Views.{claimed}

-- how many claims all have made together
abbrev pub all_drawn : List View → ℕ
all_drawn views = sum_by (λ view. view.drawn) views

-- One view: no more claims than its share, no more numbers than claims; one that is not spent knows the limit n
pub record ViewFits (n : ℕ) (view : View) : Type 0 where
  pub within : view.drawn ≤ view.share
  pub few : length view.numbers ≤ view.drawn
  pub same : 0 < view.share → view.limit ≡ n

-- The word counts all claims, the shares are 2^62 together, and the numbers below n that were drawn are in the views, each once, and no others
pub record AreCounted (n : ℕ) (s : State ℕ View) : Type 0 where
  pub word : s.words ≡ all_drawn s.views ∷ []
  pub shares : sum_by (λ view. view.share) s.views ≡ 2 ^ 62
  pub each : (k : ℕ) (view : View) → get_elem? s.views k ≡ some view → ViewFits n view
  pub once : (x : ℕ) → sum_by (λ view. times x view.numbers) s.views ≡ once_below x (min n (all_drawn s.views))

-- a claim that read this word: all numbers of its claimer lie below it
abbrev pub Draws : Me ℕ View → ℕ → Me ℕ View → Type 0
Draws view found w = (w ≡ (claimed view.0 found, view.1)) × All (λ x. x < found) view.0.numbers

-- what a caller knows of a claim: some word was read, all numbers of the claimer lie below it, and it is the answer exactly if it is below the
-- limit
pub record IsClaim (view : View) (answer : Option ℕ) (w : View) : Type 0 where
  pub word : ℕ
  pub above : All (λ x. x < word) view.numbers
  pub is_answer : answer ≡ (if nat_lt word view.limit then Some word else None)
  pub is_view : w ≡ claimed view word

-- a claimer has two shares left, one for each claimer that it is split into
abbrev pub HasTwoShares : View → Type 0
HasTwoShares view = 2 ≤ view.share - view.drawn

-- a number that is claimed lies below the limit
abbrev pub IsBelowLimit : View → ℕ → Type 0
IsBelowLimit view number = number < view.limit
