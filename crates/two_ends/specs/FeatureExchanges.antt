-- Two runs of a pair of rows, to show that moves lead somewhere: both rows end in STABLE, with what the rule says
-- (own).
use Rattle.std.specs.Prelude.{ℕ, List, [], ◌∷◌, unwrap_or}
use Rattle.two_ends.specs.FeatureView.{FeatureSide}
use Rattle.feature_machine.specs.declared.stands.Stand.TheVariants.{Stable}
use Rattle.two_ends.specs.FeatureView.FeatureNews.{Change, Confirm}
use Rattle.two_ends.specs.FeatureMoves.{Pair}

-- the value that an exchange of the two wishes gives
abbrev pub exchanged : Pair → List ℕ → List ℕ → ℕ
exchanged pair servers clients = unwrap_or (pair.rule servers clients) pair.initial

-- the client's Change, the server's Confirm of it: the server's side
abbrev pub server_asked : Pair → List ℕ → List ℕ → FeatureSide
server_asked pair servers clients =
    record {
      frames = Confirm 1 (exchanged pair servers clients) servers ∷ [];
      greatest = 1;
      opened = 0;
      stand = Stable;
      active = servers;
      value = exchanged pair servers clients;
    }

-- and the client's
abbrev pub client_asking : Pair → List ℕ → List ℕ → FeatureSide
client_asking pair servers clients =
    record {
      frames = Change clients ∷ [];
      greatest = 1;
      opened = 1;
      stand = Stable;
      active = clients;
      value = exchanged pair servers clients;
    }

-- Changes of both that cross, each confirmed by the other's second frame: the server's side
abbrev pub server_crossing : Pair → List ℕ → List ℕ → FeatureSide
server_crossing pair servers clients =
    record {
      frames = Change servers ∷ (Confirm 1 (exchanged pair servers clients) servers ∷ []);
      greatest = 2;
      opened = 1;
      stand = Stable;
      active = servers;
      value = exchanged pair servers clients;
    }

-- and the client's
abbrev pub client_crossing : Pair → List ℕ → List ℕ → FeatureSide
client_crossing pair servers clients =
    record {
      frames = Change clients ∷ (Confirm 1 (exchanged pair servers clients) clients ∷ []);
      greatest = 2;
      opened = 1;
      stand = Stable;
      active = clients;
      value = exchanged pair servers clients;
    }
