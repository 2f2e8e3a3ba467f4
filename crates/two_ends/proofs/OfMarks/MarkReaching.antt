-- What the facts say of two sides that moves reach.
use Rattle.std.proofs.Common.{◌≡◌, ℕ, suc, ◌<◌, ◌≤◌, List, length, slice_index, ap, sym, ◌∙◌, arith}
use Rattle.two_ends.specs.MarkView.{MarkFrame, MarkSide}
use Rattle.two_ends.specs.MarkMoves.{MarkMoves, ReachedByMarks}
use Rattle.two_ends.specs.MarkMoves.MarkMoves.{Done, Next}
use Rattle.two_ends.specs.MarkMoves.ReachedByMarks.{Server_moves, Client_moves}
use Rattle.two_ends.specs.MarkLaws.{ArePlaces, IsTruthful, ProcessesOnce}
use Rattle.two_ends.proofs.OfMarks.MarkSteps.{Towards}

module _ (side peer : MarkSide) (facts : Towards side peer.frames peer.place) where
  pub places_are : ArePlaces side
  places_are =
      record {
        places = λ count done. (facts.listed.place_found count done, facts.listed.at_place count done);
        processed = facts.listed.place_of;
      }

  place_of_index : (i : ℕ) → i < length side.processed → side.place (slice_index side.processed i) ≡ suc i
  place_of_index i early = facts.listed.place_of (suc i) (omega arith) (omega arith)

  distinct : (i j : ℕ) → i < length side.processed → j < length side.processed
      → slice_index side.processed i ≡ slice_index side.processed j → i ≡ j
  distinct i j early others same =
      let places : suc i ≡ suc j = sym (place_of_index i early) ∙ ap side.place same ∙ place_of_index j others in
      omega arith

  sent_there : (i : ℕ) → i < length side.processed
      → (0 < slice_index side.processed i) × (slice_index side.processed i ≤ length peer.frames)
  sent_there i early =
      let place = place_of_index i early in
      let done : 0 < side.place (slice_index side.processed i) = omega arith in
      let taken = facts.sound.processed_taken (slice_index side.processed i) done in
      let greatest = facts.sound.greatest_sent in
      (facts.sound.processed_some (slice_index side.processed i) done, omega arith)

  pub is_once : ProcessesOnce side peer.frames
  is_once = record { distinct = distinct; sent = sent_there }

  pub is_truthful : IsTruthful side
  is_truthful =
      record {
        says = λ k n vector low high. (
          (λ says. (facts.telling.says_processed k n vector low high says, facts.telling.says_early k n vector low high says)),
          (λ among. facts.telling.processed_said k n vector low high among.0 among.1),
        );
        none_after = λ k n vector among. facts.telling.none_after k n vector among.0 among.1;
      }

-- moves after moves
pub joined : (there : List MarkFrame) (before middle after : MarkSide) → MarkMoves there before middle → MarkMoves there middle after
    → MarkMoves there before after
joined there _ _ after (Done _) rest = rest
joined there before middle after (Next _ next _ move moves) rest = Next before next after move (joined there next middle after moves rest)

pub server_reaches : (client server after : MarkSide) → MarkMoves client.frames server after → ReachedByMarks server client → ReachedByMarks after client
server_reaches client server _ (Done _) reached = reached
server_reaches client server _ (Next _ middle after move moves) reached =
    server_reaches client middle after moves (Server_moves server client middle reached move)

pub client_reaches : (server client after : MarkSide) → MarkMoves server.frames client after → ReachedByMarks server client → ReachedByMarks server after
client_reaches server client _ (Done _) reached = reached
client_reaches server client _ (Next _ middle after move moves) reached =
    client_reaches server middle after moves (Client_moves server client middle reached move)
