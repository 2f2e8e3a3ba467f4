-- Each value was given to its row: the wishes that led to it are in frames, and frames never change.
use Rattle.std.proofs.Common.{◌≡◌, ℕ, suc, Bool, List, length, refl, sym, subst, arith}
use Rattle.std.specs.Prelude.{Option, Some, None, unwrap_or}
use Rattle.two_ends.specs.FeatureView.{FeatureNews, FeatureSide, carried_at, with_frame, wish_carried}
use Rattle.feature_machine.specs.declared.stands.Stand.TheVariants.{Changing}
use Rattle.two_ends.specs.FeatureView.FeatureNews.{Nothing, Change, Confirm}
use Rattle.two_ends.specs.FeatureMoves.{Rule, swapped, settled_side, answering_side, sending_side, Move, Pair, HaveReached}
use Rattle.two_ends.specs.FeatureMoves.Move.{Passes, Settles, Answers, Waits, Opens, Sends, Sends_again}
use Rattle.two_ends.specs.FeatureMoves.HaveReached.{Starts, Server_moves, Client_moves}
use Rattle.two_ends.specs.FeatureAgreement.{IsGiven, SidesAreGiven}
use Rattle.two_ends.specs.FeatureAgreement.IsGiven.{Initial, Ruled}
use Rattle.two_ends.proofs.OfFeatures.FeatureFacts.{Kept}
use Rattle.two_ends.proofs.OfFeatures.FeatureFrames.{frame_in, frame_cases, frame_new}
use Rattle.two_ends.proofs.OfFeatures.FeatureSteps.{turned, reached_keeps}

wish_kept : (frames : List FeatureNews) (frame : FeatureNews) (count : ℕ) (wish : List ℕ) → wish_carried (carried_at frames count) ≡ Some wish
    → wish_carried (carried_at (with_frame frames frame) count) ≡ Some wish
wish_kept frames frame count wish carried = grind (arith, frame_in, frame_cases)

module _ (initial : ℕ) (rule : Rule) (owns peers : List FeatureNews) (value : ℕ) where
  given_turned : IsGiven initial rule owns peers value → IsGiven initial (swapped rule) peers owns value
  given_turned (Initial is) = Initial is
  given_turned (Ruled count counterpart wish other here there is) = Ruled counterpart count other wish there here is

  given-own_frame : (frame : FeatureNews) → IsGiven initial rule owns peers value → IsGiven initial rule (with_frame owns frame) peers value
  given-own_frame frame (Initial is) = Initial is
  given-own_frame frame (Ruled count counterpart wish other here there is) =
      Ruled count counterpart wish other (wish_kept owns frame count wish here) there is

-- the value that two wishes lead to, or the held one
ruled_or_held : (P : ℕ → Type 0) (found : Option ℕ) (held value : ℕ) → value ≡ unwrap_or found held → P held
    → ((new : ℕ) → found ≡ Some new → P new) → P value
ruled_or_held P None held value is kept made = subst P (sym is) kept
ruled_or_held P (Some new) held value is kept made = subst P (sym is) (made new refl)

pub both_turned : (initial : ℕ) (rule : Rule) (side peer : FeatureSide) → SidesAreGiven initial rule side peer → SidesAreGiven initial (swapped rule) peer side
both_turned initial rule side peer given = record {
  servers = given_turned initial rule side.frames peer.frames peer.value given.clients;
  clients = given_turned initial rule side.frames peer.frames side.value given.servers;
}

send_given : (initial : ℕ) (rule : Rule) (side peer : FeatureSide) (frame : FeatureNews) → SidesAreGiven initial rule side peer
    → SidesAreGiven initial rule (sending_side side frame) peer
send_given initial rule side peer frame given = record {
  servers = given-own_frame initial rule side.frames peer.frames side.value frame given.servers;
  clients = given-own_frame initial rule side.frames peer.frames peer.value frame given.clients;
}

-- a row in CHANGING has sent its active wish
opening_wish : (rule : Rule) (side peer : FeatureSide) → side.stand ≡ Changing → Kept rule side peer
    → wish_carried (carried_at side.frames side.opened) ≡ Some side.active
opening_wish rule side peer changing facts = grind arith

settle_given : (initial : ℕ) (rule : Rule) (side peer : FeatureSide) (count acknowledged value : ℕ) (wish : List ℕ)
    → carried_at peer.frames count ≡ Confirm acknowledged value wish → side.stand ≡ Changing
    → value ≡ unwrap_or (rule side.active wish) side.value → Kept rule side peer → SidesAreGiven initial rule side peer
    → SidesAreGiven initial rule (settled_side side count value) peer
settle_given initial rule side peer count acknowledged value wish carried changing is facts given = record {
  servers = ruled_or_held (IsGiven initial rule side.frames peer.frames) (rule side.active wish) side.value value is given.servers
      (λ new ruled. Ruled side.opened count side.active wish (opening_wish rule side peer changing facts) (rw carried) ruled);
  clients = given.clients;
}

-- the Confirm that answers a Change
abbrev answer : Rule → FeatureSide → ℕ → List ℕ → FeatureNews
answer rule side count wish = Confirm count (unwrap_or (rule side.active wish) side.value) side.active

answer_given : (initial : ℕ) (rule : Rule) (side peer : FeatureSide) (count : ℕ) (wish : List ℕ) → carried_at peer.frames count ≡ Change wish
    → SidesAreGiven initial rule side peer → SidesAreGiven initial rule (answering_side side count (unwrap_or (rule side.active wish) side.value)) peer
answer_given initial rule side peer count wish carried given =
    let frames : List FeatureNews = with_frame side.frames (answer rule side count wish) in
    let stands = frame_new side.frames (answer rule side count wish) (suc (length side.frames)) refl in
    record {
      servers = ruled_or_held (IsGiven initial rule frames peer.frames) (rule side.active wish) side.value
          (unwrap_or (rule side.active wish) side.value) refl
          (given-own_frame initial rule side.frames peer.frames side.value (answer rule side count wish) given.servers)
          (λ new ruled. Ruled (suc (length side.frames)) count side.active wish (rw stands) (rw carried) ruled);
      clients = given-own_frame initial rule side.frames peer.frames peer.value (answer rule side count wish) given.clients;
    }

move_given : (initial : ℕ) (rule : Rule) (opens : List ℕ → Bool) (peer side after : FeatureSide) → Move rule opens peer.frames side after
    → Kept rule side peer → SidesAreGiven initial rule side peer → SidesAreGiven initial rule after peer
move_given initial rule opens peer side _ (Passes count newer sent_there) facts given =
    record { servers = given.servers; clients = given.clients }
move_given initial rule opens peer side _ (Settles count acknowledged value wish newer carried changing answers ruled) facts given =
    settle_given initial rule side peer count acknowledged value wish carried changing ruled facts given
move_given initial rule opens peer side _ (Answers count wish newer carried) facts given =
    answer_given initial rule side peer count wish carried given
move_given initial rule opens peer side _ (Waits busy) facts given = record { servers = given.servers; clients = given.clients }
move_given initial rule opens peer side _ (Opens wish may) facts given =
    let more = send_given initial rule side peer (Change wish) given in record { servers = more.servers; clients = more.clients }
move_given initial rule opens peer side _ Sends facts given = send_given initial rule side peer Nothing given
move_given initial rule opens peer side _ (Sends_again busy) facts given = send_given initial rule side peer (Change side.active) given

pub reached_given : (pair : Pair) (server client : FeatureSide) → HaveReached pair server client → SidesAreGiven pair.initial pair.rule server client
reached_given pair _ _ (Starts servers clients) = record { servers = Initial refl; clients = Initial refl }
reached_given pair _ _ (Server_moves server client after reached move) =
    move_given pair.initial pair.rule pair.server_opens client server after move (reached_keeps pair server client reached)
    (reached_given pair server client reached)
reached_given pair _ _ (Client_moves server client after reached move) =
    both_turned pair.initial (swapped pair.rule) after server
    (move_given pair.initial (swapped pair.rule) pair.client_opens server client after move
    (turned pair.rule server client (reached_keeps pair server client reached))
    (both_turned pair.initial pair.rule server client (reached_given pair server client reached)))
