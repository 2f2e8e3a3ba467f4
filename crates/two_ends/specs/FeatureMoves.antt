-- What one step of one side may do to its row and its frames, and which pairs of sides such steps reach (own). The moves allow more than a row
-- does if that costs nothing: a row opens from any stand, and answers a Change in any.
--
-- An empty Confirm is no move: it could settle a row that nobody answered. Nor is a Confirm without a list if the feature is negotiated by
-- lists. Between two ends of this project they do not occur (`what_rows_say_is_whole`).
use Rattle.std.specs.Prelude.{◌≡◌, ℕ, ◌+◌, ◌<◌, ◌≤◌, Bool, true, false, Option, None, Some, List, [], ◌∷◌, length, unwrap_or}
use Rattle.two_ends.specs.FeatureView.{FeatureNews, FeatureSide, carried_at, with_frame}
use Rattle.feature_machine.specs.declared.stands.Stand.TheVariants.{Stable, Changing, Unstable}
use Rattle.two_ends.specs.FeatureView.FeatureNews.{Nothing, Change, Confirm}

-- the value that two wishes lead to, if they lead to one; the acting side's wish comes first
abbrev pub Rule : Type 0
Rule = List ℕ → List ℕ → Option ℕ

-- the same rule for the other side
abbrev pub swapped : Rule → Rule
swapped rule own peers = rule peers own

-- a frame of the peer is taken, but nothing in it for the feature: there is nothing, or it is ignored or refused
abbrev pub passing_side : FeatureSide → ℕ → FeatureSide
passing_side side count = record side { greatest = count }

-- a Confirm of the peer is taken, and the row settles
abbrev pub settled_side : FeatureSide → ℕ → ℕ → FeatureSide
settled_side side count value = record side { greatest = count; stand = Stable; value = value }

-- a Change of the peer is taken, and a frame of the same step confirms it
abbrev pub answering_side : FeatureSide → ℕ → ℕ → FeatureSide
answering_side side count value =
    record side { frames = with_frame side.frames (Confirm count value side.active); greatest = count; value = value }

-- a new wish waits for the next sending of the row's Change
abbrev pub waiting : FeatureSide → FeatureSide
waiting side = record side { stand = Unstable }

-- the row opens with a wish: a frame carries its first Change
abbrev pub opening : FeatureSide → List ℕ → FeatureSide
opening side wish =
    record side {
      frames = with_frame side.frames (Change wish);
      opened = length side.frames + 1;
      stand = Changing;
      active = wish;
    }

-- a frame is sent
abbrev pub sending_side : FeatureSide → FeatureNews → FeatureSide
sending_side side frame = record side { frames = with_frame side.frames frame }

-- What a step does to a side. Of its peer the side sees only the frames. `opens` says with which wishes its row may open.
pub data Move (rule : Rule) (opens : List ℕ → Bool) (there : List FeatureNews) (side : FeatureSide) : FeatureSide → Type 0 where
  Passes : (count : ℕ) → side.greatest < count → count ≤ length there → Move rule opens there side (passing_side side count)
  Settles : (count acknowledged value : ℕ) (wish : List ℕ) → side.greatest < count
      → carried_at there count ≡ Confirm acknowledged value wish → side.stand ≡ Changing → side.opened ≤ acknowledged
      → value ≡ unwrap_or (rule side.active wish) side.value → Move rule opens there side (settled_side side count value)
  Answers : (count : ℕ) (wish : List ℕ) → side.greatest < count → carried_at there count ≡ Change wish
      → Move rule opens there side (answering_side side count (unwrap_or (rule side.active wish) side.value))
  Waits : (side.stand ≡ Stable → ⊥) → Move rule opens there side (waiting side)
  Opens : (wish : List ℕ) → opens wish ≡ true → Move rule opens there side (opening side wish)
  Sends : Move rule opens there side (sending_side side Nothing)
  Sends_again : (side.stand ≡ Stable → ⊥) → Move rule opens there side (sending_side side (Change side.active))

-- what one step of a side does to one feature: some moves one after another, since a step of an end may take a packet and open an offer
pub data Moves (rule : Rule) (opens : List ℕ → Bool) (there : List FeatureNews) : FeatureSide → FeatureSide → Type 0 where
  Done : (side : FeatureSide) → Moves rule opens there side side
  Next : (before middle after : FeatureSide) → Move rule opens there before middle → Moves rule opens there middle after
      → Moves rule opens there before after

-- what is fixed for a feature at one end: the value before any negotiation, the rule with the server's wish first, and
-- the wishes that either end's row may open with
pub record Pair : Type 0 where
  pub initial : ℕ
  pub rule : Rule
  pub server_opens : List ℕ → Bool
  pub client_opens : List ℕ → Bool

-- a side before its first step, with its configured wish
abbrev pub new_side : ℕ → List ℕ → FeatureSide
new_side initial configured =
    record { frames = []; greatest = 0; opened = 0; stand = Stable; active = configured; value = initial }

-- the server's side and the client's, from any two configurations by moves of either in any order
pub data HaveReached (pair : Pair) : FeatureSide → FeatureSide → Type 0 where
  Starts : (servers clients : List ℕ) → HaveReached pair (new_side pair.initial servers) (new_side pair.initial clients)
  Server_moves : (server client after : FeatureSide) → HaveReached pair server client
      → Move pair.rule pair.server_opens client.frames server after → HaveReached pair after client
  Client_moves : (server client after : FeatureSide) → HaveReached pair server client
      → Move (swapped pair.rule) pair.client_opens server.frames client after → HaveReached pair server after

-- some moves lead there
abbrev pub IsReachable : Pair → FeatureSide → FeatureSide → Type 0
IsReachable pair server client = ∥ HaveReached pair server client ∥₁

-- a row that may open with any wish
abbrev pub any_wish : List ℕ → Bool
any_wish wish = true

-- one that never opens
abbrev pub no_wish : List ℕ → Bool
no_wish wish = false

-- one that opens with a single value
abbrev pub one_value : List ℕ → Bool
one_value [] = false
one_value (value ∷ []) = true
one_value (value ∷ (more ∷ rest)) = false

-- only the wish of the end where the feature is located decides
abbrev pub own_value : Rule
own_value [] peers = None
own_value (value ∷ rest) peers = Some value

-- a negotiable feature: the row at either end may open, with any list
abbrev pub negotiable : ℕ → Rule → Pair
negotiable initial rule =
    record { initial = initial; rule = rule; server_opens = any_wish; client_opens = any_wish }

-- a feature that is not negotiable, located at the server: its row opens with one value, and the client's row never
-- opens
abbrev pub at_server : ℕ → Pair
at_server initial =
    record { initial = initial; rule = own_value; server_opens = one_value; client_opens = no_wish }

-- the same, located at the client
abbrev pub at_client : ℕ → Pair
at_client initial =
    record { initial = initial; rule = swapped own_value; server_opens = no_wish; client_opens = one_value }
