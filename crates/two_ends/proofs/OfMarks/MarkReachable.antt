-- The laws for two sides of which only that moves reach them is known, and not which.
use Rattle.std.proofs.Math.Logic.{∥∥₁_elim, ∥∥₁_map}
use Rattle.std.proofs.Props.{props}
use Rattle.two_ends.specs.MarkView.{MarkSide}
use Rattle.two_ends.specs.MarkMoves.{MarkMoves, unmoved_side, AreReachable}
use Rattle.two_ends.specs.MarkMoves.ReachedByMarks.{Starts}
use Rattle.two_ends.specs.MarkFacts.{AreSoundNumbers, IsHeeded}
use Rattle.two_ends.specs.MarkLaws.{ArePlaces, ProcessesOnce, IsTruthful, IsTold, IsToldAlone, IsHeard}
use Rattle.two_ends.specs.MarkExchange.{server_exchanged, client_exchanged}
use Rattle.two_ends.proofs.OfMarks.Told.{far_alone}
use Rattle.two_ends.proofs.OfMarks.MarkExchange.{exchanged}
use Rattle.two_ends.proofs.OfMarks.MarkSteps.{reached_keeps}
use Rattle.two_ends.proofs.OfMarks.MarkReaching.{places_are, is_once, is_truthful, server_reaches, client_reaches}

pub start_is_reachable : AreReachable unmoved_side unmoved_side
start_is_reachable = ∣ Starts ∣₁

pub reachable_after_server : (server client after : MarkSide) → MarkMoves client.frames server after → AreReachable server client
    → AreReachable after client
reachable_after_server server client after moves reachable = ∥∥₁_map reachable (server_reaches client server after moves)

pub reachable_after_client : (server client after : MarkSide) → MarkMoves server.frames client after → AreReachable server client
    → AreReachable server after
reachable_after_client server client after moves reachable = ∥∥₁_map reachable (client_reaches server client after moves)

pub exchange_is_reachable : AreReachable server_exchanged client_exchanged
exchange_is_reachable = ∣ exchanged ∣₁

module _ (server client : MarkSide) (reachable : AreReachable server client) where
  pub servers_once : ProcessesOnce server client.frames
  servers_once = ∥∥₁_elim reachable (hlevel props) (λ reached. is_once server client (reached_keeps server client reached).here)

  pub clients_once : ProcessesOnce client server.frames
  clients_once = ∥∥₁_elim reachable (hlevel props) (λ reached. is_once client server (reached_keeps server client reached).there)

  pub servers_places : ArePlaces server
  servers_places = ∥∥₁_elim reachable (hlevel props) (λ reached. places_are server client (reached_keeps server client reached).here)

  pub clients_places : ArePlaces client
  clients_places = ∥∥₁_elim reachable (hlevel props) (λ reached. places_are client server (reached_keeps server client reached).there)

  pub servers_truthful : IsTruthful server
  servers_truthful = ∥∥₁_elim reachable (hlevel props) (λ reached. is_truthful server client (reached_keeps server client reached).here)

  pub clients_truthful : IsTruthful client
  clients_truthful = ∥∥₁_elim reachable (hlevel props) (λ reached. is_truthful client server (reached_keeps server client reached).there)

  pub servers_told : IsTold server client
  servers_told n some from below = ∥∥₁_map reachable (λ reached. (reached_keeps server client reached).here.settled n some from below)

  pub clients_told : IsTold client server
  clients_told n some from below = ∥∥₁_map reachable (λ reached. (reached_keeps server client reached).there.settled n some from below)

  pub servers_alone : IsToldAlone server
  servers_alone silent n some from below = ∥∥₁_map (servers_told n some from below) (far_alone server.frames server.place client.place n silent)

  pub clients_alone : IsToldAlone client
  clients_alone silent n some from below = ∥∥₁_map (clients_told n some from below) (far_alone client.frames client.place server.place n silent)

  pub servers_heard : IsHeard server client
  servers_heard = ∥∥₁_elim reachable (hlevel props) (λ reached. (reached_keeps server client reached).here.reported)

  pub clients_heard : IsHeard client server
  clients_heard = ∥∥₁_elim reachable (hlevel props) (λ reached. (reached_keeps server client reached).there.reported)

  pub servers_sound : AreSoundNumbers server client.frames
  servers_sound = ∥∥₁_elim reachable (hlevel props) (λ reached. (reached_keeps server client reached).here.sound)

  pub clients_sound : AreSoundNumbers client server.frames
  clients_sound = ∥∥₁_elim reachable (hlevel props) (λ reached. (reached_keeps server client reached).there.sound)

  pub servers_heeded : IsHeeded server client.frames
  servers_heeded = ∥∥₁_elim reachable (hlevel props) (λ reached. (reached_keeps server client reached).here.heeded)

  pub clients_heeded : IsHeeded client server.frames
  clients_heeded = ∥∥₁_elim reachable (hlevel props) (λ reached. (reached_keeps server client reached).there.heeded)
