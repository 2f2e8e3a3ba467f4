-- Each move keeps the facts. `side` moves, `peer` does not; `turned` exchanges them.
use Rattle.std.proofs.Common.{◌≡◌, ℕ, suc, ◌<◌, ◌≤◌, Bool, List, length, refl, arith, length-append}
use Rattle.std.specs.Prelude.{Option, Some, None, unwrap_or}
use Rattle.two_ends.specs.FeatureView.{FeatureSide, carried_at, with_frame}
use Rattle.feature_machine.specs.declared.stands.Stand.TheVariants.{Stable, Changing}
use Rattle.two_ends.specs.FeatureView.FeatureNews.{Nothing, Change, Confirm}
use Rattle.two_ends.specs.FeatureMoves.{Rule, swapped, passing_side, settled_side, answering_side, waiting, opening, sending_side, new_side, Move, Pair, HaveReached}
use Rattle.two_ends.specs.FeatureMoves.Move.{Passes, Settles, Answers, Waits, Opens, Sends, Sends_again}
use Rattle.two_ends.specs.FeatureMoves.HaveReached.{Starts, Server_moves, Client_moves}
use Rattle.two_ends.proofs.OfFeatures.FeatureFacts.{Own, Towards, Settled, Kept}
use Rattle.two_ends.proofs.OfFeatures.FeatureFrames.{frame_in, frame_cases, frame_new, wish_seen, change_seen, last_wish-with_frame, has_change-with_frame}

pub unwrap_or_twice : (found : Option ℕ) (held : ℕ) → unwrap_or found (unwrap_or found held) ≡ unwrap_or found held
unwrap_or_twice None held = refl
unwrap_or_twice (Some value) held = refl

pub turned : (rule : Rule) (side peer : FeatureSide) → Kept rule side peer → Kept (swapped rule) peer side
turned rule side peer facts = grind arith

start_keeps : (rule : Rule) (initial : ℕ) (owns peers : List ℕ) → Kept rule (new_side initial owns) (new_side initial peers)
start_keeps rule initial owns peers = grind (arith, frame_in)

pass_keeps : (rule : Rule) (side peer : FeatureSide) (count : ℕ) → side.greatest < count → count ≤ length peer.frames
    → Kept rule side peer → Kept rule (passing_side side count) peer
pass_keeps rule side peer count newer sent_there facts = grind arith

settle_keeps : (rule : Rule) (side peer : FeatureSide) (count acknowledged value : ℕ) (wish : List ℕ) → side.greatest < count
    → carried_at peer.frames count ≡ Confirm acknowledged value wish → side.stand ≡ Changing → side.opened ≤ acknowledged
    → value ≡ unwrap_or (rule side.active wish) side.value → Kept rule side peer → Kept rule (settled_side side count value) peer
settle_keeps rule side peer count acknowledged value wish newer carried changing answers ruled facts =
    grind (arith, frame_in, unwrap_or_twice, wish_seen peer.frames count)

wait_keeps : (rule : Rule) (side peer : FeatureSide) → (side.stand ≡ Stable → ⊥) → Kept rule side peer → Kept rule (waiting side) peer
wait_keeps rule side peer busy facts = grind arith

open_keeps : (rule : Rule) (side peer : FeatureSide) (wish : List ℕ) → Kept rule side peer → Kept rule (opening side wish) peer
open_keeps rule side peer wish facts =
    let new : carried_at (with_frame side.frames (Change wish)) (suc (length side.frames)) ≡ Change wish =
    frame_new side.frames (Change wish) (suc (length side.frames)) refl in
    grind (arith, frame_in, frame_cases, length-append, last_wish-with_frame, has_change-with_frame)

-- a Change is answered
module _ (rule : Rule) (side peer : FeatureSide) (count : ℕ) (wish : List ℕ) (newer : side.greatest < count)
    (carried : carried_at peer.frames count ≡ Change wish) (facts : Kept rule side peer) where
  answer_own : Own (answering_side side count (unwrap_or (rule side.active wish) side.value))
  answer_own = grind (arith, frame_in, frame_cases, length-append, last_wish-with_frame, has_change-with_frame)

  answer_out : Towards rule (answering_side side count (unwrap_or (rule side.active wish) side.value)) peer
  answer_out =
      grind (arith, frame_in, frame_cases, length-append, last_wish-with_frame, unwrap_or_twice, change_seen peer.frames count)

  answer_back : Towards (swapped rule) peer (answering_side side count (unwrap_or (rule side.active wish) side.value))
  answer_back = grind (arith, frame_in, frame_cases, length-append)

  answer_settled : Settled rule (answering_side side count (unwrap_or (rule side.active wish) side.value)) peer
  answer_settled = grind (arith, frame_in, change_seen peer.frames count, unwrap_or_twice)

  answer_keeps : Kept rule (answering_side side count (unwrap_or (rule side.active wish) side.value)) peer
  answer_keeps =
      record { own = answer_own; peers = facts.peers; out = answer_out; back = answer_back; settled = answer_settled }

-- a frame is sent that carries nothing
module _ (rule : Rule) (side peer : FeatureSide) (facts : Kept rule side peer) where
  send_own : Own (sending_side side Nothing)
  send_own = grind (arith, frame_in, frame_cases, length-append, last_wish-with_frame, has_change-with_frame)

  send_out : Towards rule (sending_side side Nothing) peer
  send_out = grind (arith, frame_in, frame_cases, length-append, last_wish-with_frame)

  send_back : Towards (swapped rule) peer (sending_side side Nothing)
  send_back = grind (arith, frame_in, frame_cases, length-append)

  send_settled : Settled rule (sending_side side Nothing) peer
  send_settled = grind arith

  send_keeps : Kept rule (sending_side side Nothing) peer
  send_keeps = record { own = send_own; peers = facts.peers; out = send_out; back = send_back; settled = send_settled }

-- the row's Change is sent again
module _ (rule : Rule) (side peer : FeatureSide) (busy : side.stand ≡ Stable → ⊥) (facts : Kept rule side peer) where
  again_own : Own (sending_side side (Change side.active))
  again_own = grind (arith, frame_in, frame_cases, length-append, last_wish-with_frame, has_change-with_frame)

  again_out : Towards rule (sending_side side (Change side.active)) peer
  again_out = grind (arith, frame_in, frame_cases, length-append, last_wish-with_frame)

  again_back : Towards (swapped rule) peer (sending_side side (Change side.active))
  again_back = grind (arith, frame_in, frame_cases, length-append)

  again_settled : Settled rule (sending_side side (Change side.active)) peer
  again_settled = grind arith

  again_keeps : Kept rule (sending_side side (Change side.active)) peer
  again_keeps = record { own = again_own; peers = facts.peers; out = again_out; back = again_back; settled = again_settled }

pub move_keeps : (rule : Rule) (opens : List ℕ → Bool) (peer side after : FeatureSide) → Move rule opens peer.frames side after
    → Kept rule side peer → Kept rule after peer
move_keeps rule opens peer side _ (Passes count newer sent_there) facts = pass_keeps rule side peer count newer sent_there facts
move_keeps rule opens peer side _ (Settles count acknowledged value wish newer carried changing answers ruled) facts =
    settle_keeps rule side peer count acknowledged value wish newer carried changing answers ruled facts
move_keeps rule opens peer side _ (Answers count wish newer carried) facts = answer_keeps rule side peer count wish newer carried facts
move_keeps rule opens peer side _ (Waits busy) facts = wait_keeps rule side peer busy facts
move_keeps rule opens peer side _ (Opens wish may) facts = open_keeps rule side peer wish facts
move_keeps rule opens peer side _ Sends facts = send_keeps rule side peer facts
move_keeps rule opens peer side _ (Sends_again busy) facts = again_keeps rule side peer busy facts

pub reached_keeps : (pair : Pair) (server client : FeatureSide) → HaveReached pair server client → Kept pair.rule server client
reached_keeps pair _ _ (Starts servers clients) = start_keeps pair.rule pair.initial servers clients
reached_keeps pair _ _ (Server_moves server client after reached move) =
    move_keeps pair.rule pair.server_opens client server after move (reached_keeps pair server client reached)
reached_keeps pair _ _ (Client_moves server client after reached move) =
    turned (swapped pair.rule) after server
    (move_keeps (swapped pair.rule) pair.client_opens server client after move
    (turned pair.rule server client (reached_keeps pair server client reached)))
