-- The laws for each feature at each end, and for the steps of its rows.
use Rattle.std.proofs.Common.{◌≡◌, ℕ, Bool, true, false, List, refl}
use Rattle.feature_lists.specs.Features.{described, initial_of}
use Rattle.feature_lists.specs.Lists.{reconciled}
use Rattle.feature_lists.specs.declared.features.Feature.{Feature}
use Rattle.feature_lists.specs.declared.features.Place.{Place}
use Rattle.feature_lists.specs.declared.features.Place.TheVariants as place
use Rattle.feature_machine.specs.declared.row.Row.{Row}
use Rattle.feature_machine.specs.declared.stands.Role2.{Role2}
use Rattle.feature_machine.specs.declared.stands.Role2.TheVariants as end
use Rattle.feature_machine.specs.Sound.{IsSameRow}
use Rattle.two_ends.specs.FeatureView.{FeatureNews, FeatureSide}
use Rattle.two_ends.specs.FeatureMoves.{Moves, Pair, HaveReached, IsReachable, new_side, swapped, negotiable}
use Rattle.two_ends.specs.FeatureRows.{RowMoves, pair_by, pair_of, row_pair, rule_at, opens_at, location_of}
use Rattle.feature_machine.specs.Negotiating.{opposite}
use Rattle.two_ends.specs.EachFeature.{agree_by, given_by, AgreesOn, IsGivenFor}
use Rattle.two_ends.specs.FeatureMoves.HaveReached.{Starts}
use Rattle.two_ends.proofs.OfFeatures.FeatureValues.{reached_given}
use Rattle.two_ends.proofs.OfFeatures.FeatureReaching.{reached_agree, server_reaches, client_reaches}
use Rattle.two_ends.proofs.OfFeatures.Located.{server_agree, server_given, client_agree, client_given}
use Rattle.two_ends.proofs.OfFeatures.FeatureReachable.{reachable_agree, reachable_given, reachable_agree_at_server, reachable_agree_at_client, reachable_given_at_server, reachable_given_at_client, reachable_after_server, reachable_after_client}

agree_by_kind : (priority : Bool) (initial : ℕ) (location : Role2) (server client : FeatureSide)
    → IsReachable (pair_by priority initial location) server client → agree_by priority location server client
agree_by_kind true initial location server client = reachable_agree (negotiable initial reconciled) server client
agree_by_kind false initial end.Server server client = reachable_agree_at_server initial server client
agree_by_kind false initial end.Client server client = reachable_agree_at_client initial server client

given_by_kind : (priority : Bool) (initial : ℕ) (location : Role2) (server client : FeatureSide)
    → IsReachable (pair_by priority initial location) server client → ∥ given_by priority initial location server client ∥₁
given_by_kind true initial location server client = reachable_given (negotiable initial reconciled) server client
given_by_kind false initial end.Server server client = reachable_given_at_server initial server client
given_by_kind false initial end.Client server client = reachable_given_at_client initial server client

pub feature_agrees : (feature : Feature) (location : Role2) (server client : FeatureSide) → IsReachable (pair_of feature location) server client
    → AgreesOn feature location server client
feature_agrees feature = agree_by_kind (described feature).is_server_priority (initial_of feature)

pub feature_given : (feature : Feature) (location : Role2) (server client : FeatureSide) → IsReachable (pair_of feature location) server client
    → ∥ IsGivenFor feature location server client ∥₁
feature_given feature = given_by_kind (described feature).is_server_priority (initial_of feature)

-- the two rows of a feature are of one pair
pub one_pair : (feature : Feature) (at : Place)
    → pair_of feature (location_of end.Server at) ≡ pair_of feature (location_of end.Client (opposite at))
one_pair feature place.Here = refl
one_pair feature place.There = refl

-- what a step leaves of a row decides its pair
pub same_pair : (old new : Row) → IsSameRow old new → row_pair new ≡ row_pair old
same_pair old new same = rw (same.role, same.feature, same.place)

pub same_moves : (old new : Row) (there : List FeatureNews) (before after : FeatureSide) → IsSameRow old new → RowMoves new there before after
    → RowMoves old there before after
same_moves old new there before after same moves = rw (same.role, same.feature, same.place) at moves

-- the same of what was reached by moves that are at hand
agree_of_kind : (priority : Bool) (initial : ℕ) (location : Role2) (server client : FeatureSide)
    → HaveReached (pair_by priority initial location) server client → agree_by priority location server client
agree_of_kind true initial location server client = reached_agree (negotiable initial reconciled) server client
agree_of_kind false initial end.Server server client = server_agree initial server client
agree_of_kind false initial end.Client server client = client_agree initial server client

given_of_kind : (priority : Bool) (initial : ℕ) (location : Role2) (server client : FeatureSide)
    → HaveReached (pair_by priority initial location) server client → given_by priority initial location server client
given_of_kind true initial location server client = reached_given (negotiable initial reconciled) server client
given_of_kind false initial end.Server server client = server_given initial server client
given_of_kind false initial end.Client server client = client_given initial server client

pub reached_agrees : (feature : Feature) (location : Role2) (server client : FeatureSide) → HaveReached (pair_of feature location) server client
    → AgreesOn feature location server client
reached_agrees feature = agree_of_kind (described feature).is_server_priority (initial_of feature)

pub reached_is_given : (feature : Feature) (location : Role2) (server client : FeatureSide) → HaveReached (pair_of feature location) server client
    → IsGivenFor feature location server client
reached_is_given feature = given_of_kind (described feature).is_server_priority (initial_of feature)

starts_by : (priority : Bool) (initial : ℕ) (location : Role2) (servers clients : List ℕ)
    → HaveReached (pair_by priority initial location) (new_side initial servers) (new_side initial clients)
starts_by true initial location servers clients = Starts servers clients
starts_by false initial end.Server servers clients = Starts servers clients
starts_by false initial end.Client servers clients = Starts servers clients

pub starts : (feature : Feature) (location : Role2) (servers clients : List ℕ)
    → HaveReached (pair_of feature location) (new_side (initial_of feature) servers) (new_side (initial_of feature) clients)
starts feature = starts_by (described feature).is_server_priority (initial_of feature)

-- a row's moves are those of its end
at_the_server : (role : Role2) (pair : Pair) (there : List FeatureNews) (before after : FeatureSide) → role ≡ end.Server
    → Moves (rule_at role pair) (opens_at role pair) there before after → Moves pair.rule pair.server_opens there before after
at_the_server end.Server pair there before after is moves = moves
at_the_server end.Client pair there before after is moves = absurd (cc is)

at_the_client : (role : Role2) (pair : Pair) (there : List FeatureNews) (before after : FeatureSide) → role ≡ end.Client
    → Moves (rule_at role pair) (opens_at role pair) there before after → Moves (swapped pair.rule) pair.client_opens there before after
at_the_client end.Client pair there before after is moves = moves
at_the_client end.Server pair there before after is moves = absurd (cc is)

pub server_row_reaches : (row : Row) (server client after : FeatureSide) → row.role ≡ end.Server → RowMoves row client.frames server after
    → HaveReached (row_pair row) server client → HaveReached (row_pair row) after client
server_row_reaches row server client after is moves =
    server_reaches (row_pair row) client server after (at_the_server row.role (row_pair row) client.frames server after is moves)

pub client_row_reaches : (row : Row) (server client after : FeatureSide) → row.role ≡ end.Client → RowMoves row server.frames client after
    → HaveReached (row_pair row) server client → HaveReached (row_pair row) server after
client_row_reaches row server client after is moves =
    client_reaches (row_pair row) server client after (at_the_client row.role (row_pair row) server.frames client after is moves)

pub server_row_steps : (row : Row) (server client after : FeatureSide) → row.role ≡ end.Server → RowMoves row client.frames server after
    → IsReachable (row_pair row) server client → IsReachable (row_pair row) after client
server_row_steps row server client after is moves =
    reachable_after_server (row_pair row) server client after (at_the_server row.role (row_pair row) client.frames server after is moves)

pub client_row_steps : (row : Row) (server client after : FeatureSide) → row.role ≡ end.Client → RowMoves row server.frames client after
    → IsReachable (row_pair row) server client → IsReachable (row_pair row) server after
client_row_steps row server client after is moves =
    reachable_after_client (row_pair row) server client after (at_the_client row.role (row_pair row) server.frames client after is moves)
