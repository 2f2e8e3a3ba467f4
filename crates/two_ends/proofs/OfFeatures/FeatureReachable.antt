-- The laws for two sides of which only that moves reach them is known, and not which.
use Rattle.std.proofs.Common.{ℕ, List}
use Rattle.std.proofs.Math.Logic.{∥∥₁_elim, ∥∥₁_map}
use Rattle.std.proofs.Props.{props}
use Rattle.two_ends.specs.FeatureView.{FeatureSide}
use Rattle.two_ends.specs.FeatureMoves.{swapped, new_side, Moves, Pair, IsReachable, at_server, at_client}
use Rattle.two_ends.specs.FeatureMoves.HaveReached.{Starts}
use Rattle.two_ends.specs.FeatureAgreement.{SidesAgree, SidesAreGiven, AgreeByLocation, GivenByLocation}
use Rattle.two_ends.proofs.OfFeatures.FeatureValues.{reached_given}
use Rattle.two_ends.proofs.OfFeatures.FeatureReaching.{reached_agree, server_reaches, client_reaches}
use Rattle.two_ends.proofs.OfFeatures.Located.{server_agree, server_given, client_agree, client_given}

pub start_is_reachable : (pair : Pair) (servers clients : List ℕ)
    → IsReachable pair (new_side pair.initial servers) (new_side pair.initial clients)
start_is_reachable pair servers clients = ∣ Starts servers clients ∣₁

pub reachable_after_server : (pair : Pair) (server client after : FeatureSide)
    → Moves pair.rule pair.server_opens client.frames server after → IsReachable pair server client → IsReachable pair after client
reachable_after_server pair server client after moves reachable = ∥∥₁_map reachable (server_reaches pair client server after moves)

pub reachable_after_client : (pair : Pair) (server client after : FeatureSide)
    → Moves (swapped pair.rule) pair.client_opens server.frames client after → IsReachable pair server client
    → IsReachable pair server after
reachable_after_client pair server client after moves reachable = ∥∥₁_map reachable (client_reaches pair server client after moves)

pub reachable_agree : (pair : Pair) (server client : FeatureSide) → IsReachable pair server client → SidesAgree pair.rule server client
reachable_agree pair server client reachable = ∥∥₁_elim reachable (hlevel props) (reached_agree pair server client)

pub reachable_given : (pair : Pair) (server client : FeatureSide) → IsReachable pair server client
    → ∥ SidesAreGiven pair.initial pair.rule server client ∥₁
reachable_given pair server client reachable = ∥∥₁_map reachable (reached_given pair server client)

pub reachable_agree_at_server : (initial : ℕ) (server client : FeatureSide) → IsReachable (at_server initial) server client
    → AgreeByLocation server client
reachable_agree_at_server initial server client reachable = ∥∥₁_elim reachable (hlevel props) (server_agree initial server client)

pub reachable_agree_at_client : (initial : ℕ) (server client : FeatureSide) → IsReachable (at_client initial) server client
    → AgreeByLocation client server
reachable_agree_at_client initial server client reachable = ∥∥₁_elim reachable (hlevel props) (client_agree initial server client)

pub reachable_given_at_server : (initial : ℕ) (server client : FeatureSide) → IsReachable (at_server initial) server client
    → ∥ GivenByLocation initial server client ∥₁
reachable_given_at_server initial server client reachable = ∥∥₁_map reachable (server_given initial server client)

pub reachable_given_at_client : (initial : ℕ) (server client : FeatureSide) → IsReachable (at_client initial) server client
    → ∥ GivenByLocation initial client server ∥₁
reachable_given_at_client initial server client reachable = ∥∥₁_map reachable (client_given initial server client)
