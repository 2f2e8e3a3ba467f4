-- The two exchanges, move by move.
use Rattle.std.proofs.Common.{◌≡◌, ℕ, true, List, refl, sym, arith}
use Rattle.std.specs.Prelude.{unwrap_or}
use Rattle.two_ends.specs.FeatureMoves.{new_side, opening, answering_side, Pair, HaveReached}
use Rattle.two_ends.specs.FeatureMoves.Move.{Settles, Answers, Opens}
use Rattle.two_ends.specs.FeatureMoves.HaveReached.{Starts, Server_moves, Client_moves}
use Rattle.two_ends.proofs.OfFeatures.FeatureSteps.{unwrap_or_twice}
use Rattle.two_ends.specs.FeatureExchanges.{exchanged, server_asked, client_asking, server_crossing, client_crossing}

pub asked_reached : (pair : Pair) (servers clients : List ℕ) → pair.client_opens clients ≡ true
    → HaveReached pair (server_asked pair servers clients) (client_asking pair servers clients)
asked_reached pair servers clients may =
    Client_moves (server_asked pair servers clients) (opening (new_side pair.initial clients) clients) (client_asking pair servers clients)
    (Server_moves (new_side pair.initial servers) (opening (new_side pair.initial clients) clients) (server_asked pair servers clients)
    (Client_moves (new_side pair.initial servers) (new_side pair.initial clients) (opening (new_side pair.initial clients) clients)
    (Starts servers clients) (Opens clients may)) (Answers 1 clients (omega arith) refl))
    (Settles 1 1 (exchanged pair servers clients) servers (omega arith) refl refl (omega arith) refl)

-- what was exchanged once is exchanged again
again : (pair : Pair) (servers clients : List ℕ)
    → exchanged pair servers clients ≡ unwrap_or (pair.rule servers clients) (exchanged pair servers clients)
again pair servers clients = sym (unwrap_or_twice (pair.rule servers clients) pair.initial)

module _ (pair : Pair) (servers clients : List ℕ) (servers_may : pair.server_opens servers ≡ true) (clients_may : pair.client_opens clients ≡ true) where
  both_open : HaveReached pair (opening (new_side pair.initial servers) servers) (opening (new_side pair.initial clients) clients)
  both_open =
      Server_moves (new_side pair.initial servers) (opening (new_side pair.initial clients) clients) (opening (new_side pair.initial servers) servers)
      (Client_moves (new_side pair.initial servers) (new_side pair.initial clients) (opening (new_side pair.initial clients) clients)
      (Starts servers clients) (Opens clients clients_may)) (Opens servers servers_may)

  both_answer : HaveReached pair (answering_side (opening (new_side pair.initial servers) servers) 1 (exchanged pair servers clients))
      (answering_side (opening (new_side pair.initial clients) clients) 1 (exchanged pair servers clients))
  both_answer =
      Server_moves (opening (new_side pair.initial servers) servers)
      (answering_side (opening (new_side pair.initial clients) clients) 1 (exchanged pair servers clients))
      (answering_side (opening (new_side pair.initial servers) servers) 1 (exchanged pair servers clients))
      (Client_moves (opening (new_side pair.initial servers) servers) (opening (new_side pair.initial clients) clients)
      (answering_side (opening (new_side pair.initial clients) clients) 1 (exchanged pair servers clients)) both_open
      (Answers 1 servers (omega arith) refl)) (Answers 1 clients (omega arith) refl)

  pub crossing_reached : HaveReached pair (server_crossing pair servers clients) (client_crossing pair servers clients)
  crossing_reached =
      Server_moves (answering_side (opening (new_side pair.initial servers) servers) 1 (exchanged pair servers clients))
      (client_crossing pair servers clients) (server_crossing pair servers clients)
      (Client_moves (answering_side (opening (new_side pair.initial servers) servers) 1 (exchanged pair servers clients))
      (answering_side (opening (new_side pair.initial clients) clients) 1 (exchanged pair servers clients)) (client_crossing pair servers clients)
      both_answer (Settles 2 1 (exchanged pair servers clients) servers (omega arith) refl refl (omega arith) (again pair servers clients)))
      (Settles 2 1 (exchanged pair servers clients) clients (omega arith) refl refl (omega arith) (again pair servers clients))
