-- What the facts say of two sides that moves reach: they agree.
use Rattle.std.proofs.Common.{◌≡◌, ℕ, ◌<◌, Bool, true, ◌⊎◌, List, arith}
use Rattle.std.specs.Prelude.{Some, is_some, IsTrue}
use Rattle.two_ends.specs.FeatureView.{FeatureNews, FeatureSide, last_wish}
use Rattle.feature_machine.specs.declared.stands.Stand.TheVariants.{Stable}
use Rattle.two_ends.specs.FeatureMoves.{Rule, swapped, Moves, Pair, HaveReached}
use Rattle.two_ends.specs.FeatureMoves.Moves.{Done, Next}
use Rattle.two_ends.specs.FeatureMoves.HaveReached.{Server_moves, Client_moves}
use Rattle.two_ends.specs.FeatureAgreement.{was_negotiated, SidesAgree}
use Rattle.two_ends.proofs.OfFeatures.FeatureFacts.{Kept}
use Rattle.two_ends.proofs.OfFeatures.FeatureFrames.{wish_seen}
use Rattle.two_ends.proofs.OfFeatures.FeatureSteps.{reached_keeps}

module _ (rule : Rule) (side peer : FeatureSide) (facts : Kept rule side peer) where
  negotiated_opened : IsTrue (was_negotiated side peer) → (0 < side.opened) ⊎ (0 < peer.opened)
  negotiated_opened negotiated = grind arith

  side_sent : peer.stand ≡ Stable → (0 < side.opened) ⊎ (0 < peer.opened) → is_some (last_wish side.frames) ≡ true
  side_sent stable opened = grind (arith, wish_seen side.frames side.opened)

  peer_sent : side.stand ≡ Stable → (0 < side.opened) ⊎ (0 < peer.opened) → is_some (last_wish peer.frames) ≡ true
  peer_sent stable opened = grind (arith, wish_seen peer.frames peer.opened)

  last_ruled : side.stand ≡ Stable → peer.stand ≡ Stable → (owns peers : List ℕ) → last_wish side.frames ≡ Some owns
      → last_wish peer.frames ≡ Some peers → (value : ℕ) → rule owns peers ≡ Some value → side.value ≡ value
  last_ruled stable peers_stable owns peers last peers_last value ruled = grind arith

  pub kept_agree : SidesAgree rule side peer
  kept_agree = record {
    equal = λ stable. facts.settled.equal stable.0 stable.1;
    both_sent = λ stable negotiated.
        (side_sent stable.1 (negotiated_opened negotiated), peer_sent stable.0 (negotiated_opened negotiated));
    reconciled = λ stable. last_ruled stable.0 stable.1;
  }

pub reached_agree : (pair : Pair) (server client : FeatureSide) → HaveReached pair server client → SidesAgree pair.rule server client
reached_agree pair server client reached = kept_agree pair.rule server client (reached_keeps pair server client reached)

-- moves after moves
pub joined : (rule : Rule) (opens : List ℕ → Bool) (there : List FeatureNews) (before middle after : FeatureSide) → Moves rule opens there before middle
    → Moves rule opens there middle after → Moves rule opens there before after
joined rule opens there _ _ after (Done _) rest = rest
joined rule opens there before middle after (Next _ next _ move moves) rest =
    Next before next after move (joined rule opens there next middle after moves rest)

pub server_reaches : (pair : Pair) (client server after : FeatureSide) → Moves pair.rule pair.server_opens client.frames server after
    → HaveReached pair server client → HaveReached pair after client
server_reaches pair client server _ (Done _) reached = reached
server_reaches pair client server _ (Next _ middle after move moves) reached =
    server_reaches pair client middle after moves (Server_moves server client middle reached move)

pub client_reaches : (pair : Pair) (server client after : FeatureSide) → Moves (swapped pair.rule) pair.client_opens server.frames client after
    → HaveReached pair server client → HaveReached pair server after
client_reaches pair server client _ (Done _) reached = reached
client_reaches pair server client _ (Next _ middle after move moves) reached =
    client_reaches pair server middle after moves (Client_moves server client middle reached move)
