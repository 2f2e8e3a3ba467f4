-- What the facts that each move keeps say of a side's frames, and that Confirms rise.
use Rattle.std.proofs.Common.{◌≡◌, ℕ, ◌<◌, ◌≤◌, Bool, true, List, [], refl, arith}
use Rattle.std.specs.Prelude.{Some, unwrap_or, IsTrue}
use Rattle.std.proofs.Math.Logic.{∥∥₁_elim}
use Rattle.std.proofs.Props.{props}
use Rattle.two_ends.specs.FeatureView.{FeatureNews, FeatureSide, carried_at, with_frame, carries_change}
use Rattle.feature_machine.specs.declared.stands.Stand.TheVariants.{Stable}
use Rattle.two_ends.specs.FeatureView.FeatureNews.{Nothing, Change, Confirm}
use Rattle.two_ends.specs.FeatureMoves.{Rule, swapped, Move, Pair, HaveReached, IsReachable}
use Rattle.two_ends.specs.FeatureMoves.Move.{Passes, Settles, Answers, Waits, Opens, Sends, Sends_again}
use Rattle.two_ends.specs.FeatureMoves.HaveReached.{Starts, Server_moves, Client_moves}
use Rattle.two_ends.specs.FeatureFacts.{SpeaksForItsRow}
use Rattle.two_ends.proofs.OfFeatures.FeatureFacts.{Kept, changed}
use Rattle.two_ends.proofs.OfFeatures.FeatureFrames.{frame_in, frame_cases, change_seen}
use Rattle.two_ends.proofs.OfFeatures.FeatureSteps.{turned, reached_keeps}

-- of two Confirms the later acknowledges the later frame
record Rises (frames : List FeatureNews) : Type 0 where
  rises : (earlier later acknowledged other value held : ℕ) (wish list : List ℕ) → carried_at frames earlier ≡ Confirm acknowledged value wish
      → carried_at frames later ≡ Confirm other held list → earlier < later → acknowledged < other

nothing_rises : Rises []
nothing_rises = grind (arith, frame_in)

plain_rises : (frames : List FeatureNews) → Rises frames → Rises (with_frame frames Nothing)
plain_rises frames facts = grind (arith, frame_in, frame_cases)

change_rises : (frames : List FeatureNews) (wish : List ℕ) → Rises frames → Rises (with_frame frames (Change wish))
change_rises frames wish facts = grind (arith, frame_in, frame_cases)

answer_rises : (rule : Rule) (side peer : FeatureSide) (count value : ℕ) → side.greatest < count → Kept rule side peer → Rises side.frames
    → Rises (with_frame side.frames (Confirm count value side.active))
answer_rises rule side peer count value newer kept facts = grind (arith, frame_in, frame_cases)

move_rises : (rule : Rule) (opens : List ℕ → Bool) (peer side after : FeatureSide) → Move rule opens peer.frames side after
    → Kept rule side peer → Rises side.frames → Rises after.frames
move_rises rule opens peer side _ (Answers count wish newer carried) kept facts =
    answer_rises rule side peer count (unwrap_or (rule side.active wish) side.value) newer kept facts
move_rises rule opens peer side _ (Opens wish may) kept facts = change_rises side.frames wish facts
move_rises rule opens peer side _ Sends kept facts = plain_rises side.frames facts
move_rises rule opens peer side _ (Sends_again busy) kept facts = change_rises side.frames side.active facts
move_rises rule opens peer side _ _ kept facts = facts

server_rises : (pair : Pair) (server client : FeatureSide) → HaveReached pair server client → Rises server.frames
server_rises pair _ _ (Starts servers clients) = nothing_rises
server_rises pair _ _ (Server_moves server client after reached move) =
    move_rises pair.rule pair.server_opens client server after move (reached_keeps pair server client reached)
    (server_rises pair server client reached)
server_rises pair _ _ (Client_moves server client after reached move) = server_rises pair server client reached

client_rises : (pair : Pair) (server client : FeatureSide) → HaveReached pair server client → Rises client.frames
client_rises pair _ _ (Starts servers clients) = nothing_rises
client_rises pair _ _ (Server_moves server client after reached move) = client_rises pair server client reached
client_rises pair _ _ (Client_moves server client after reached move) =
    move_rises (swapped pair.rule) pair.client_opens server client after move
    (turned pair.rule server client (reached_keeps pair server client reached)) (client_rises pair server client reached)

module _ (rule : Rule) (side peer : FeatureSide) (kept : Kept rule side peer) where
  taken : (count acknowledged value : ℕ) (wish : List ℕ) → carried_at side.frames count ≡ Confirm acknowledged value wish
      → (acknowledged ≤ side.greatest) × IsTrue (carries_change (carried_at peer.frames acknowledged))
  taken count acknowledged value wish carried = (
    kept.out.confirms_taken count acknowledged value wish carried,
    is_one (carried_at peer.frames acknowledged) (kept.out.confirms_change count acknowledged value wish carried),
  )
    where
      is_one : (frame : FeatureNews) → frame ≡ Change (changed frame) → carries_change frame ≡ true
      is_one Nothing is = absurd (cc is)
      is_one (Change other) is = refl
      is_one (Confirm other held list) is = absurd (cc is)

  ruled : (count acknowledged value agreed : ℕ) (wish other : List ℕ) → carried_at side.frames count ≡ Confirm acknowledged value wish
      → carried_at peer.frames acknowledged ≡ Change other → rule wish other ≡ Some agreed → value ≡ agreed
  ruled count acknowledged value agreed wish other carried change agrees =
      let said = kept.out.confirms_ruled count acknowledged value wish carried in grind arith

  -- who confirms has a peer that has opened
  peer_opened : (count acknowledged value : ℕ) (wish : List ℕ) → carried_at side.frames count ≡ Confirm acknowledged value wish
      → 0 < peer.opened
  peer_opened count acknowledged value wish carried =
      let change = kept.out.confirms_change count acknowledged value wish carried in grind (arith, change_seen peer.frames acknowledged)

  takable : (count acknowledged value : ℕ) (wish : List ℕ) → carried_at side.frames count ≡ Confirm acknowledged value wish
      → peer.greatest < count → peer.opened ≤ acknowledged → (count < side.opened → side.stand ≡ Stable)
      → (wish ≡ side.active) × (value ≡ side.value)
  takable count acknowledged value wish carried newer answers unless =
      let opened = peer_opened count acknowledged value wish carried in grind (arith, frame_in)

  truthful : Rises side.frames → SpeaksForItsRow rule side peer
  truthful facts = record {
    changes_active = kept.own.changes_active;
    confirms_active = kept.own.confirms_active;
    confirms_taken = taken;
    confirms_ruled = ruled;
    confirms_rise = facts.rises;
    settled_heard = kept.out.settled_heard;
    takable = takable;
  }

pub server_truthful : (pair : Pair) (server client : FeatureSide) → IsReachable pair server client → SpeaksForItsRow pair.rule server client
server_truthful pair server client reachable =
    ∥∥₁_elim reachable (hlevel props) (λ reached. truthful pair.rule server client (reached_keeps pair server client reached)
    (server_rises pair server client reached))

pub client_truthful : (pair : Pair) (server client : FeatureSide) → IsReachable pair server client → SpeaksForItsRow (swapped pair.rule) client server
client_truthful pair server client reachable =
    ∥∥₁_elim reachable (hlevel props) (λ reached. truthful (swapped pair.rule) client server
    (turned pair.rule server client (reached_keeps pair server client reached)) (client_rises pair server client reached))
