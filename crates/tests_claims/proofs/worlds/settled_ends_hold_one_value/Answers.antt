use Rattle.tests_claims.proofs.Reached.{safe}
use Rattle.tests_claims.proofs.worlds.settled_ends_hold_one_value.Goals as goal

pub returns-clause-clients : goal.returns-clause-clients
returns-clause-clients g c = λ w reached feature own theirs.
    c.settled_features_are_alike.ensures.clients w (safe g.C.Congestion.control c.every_run_is_safe.ensures w reached) feature own theirs

pub returns-clause-servers : goal.returns-clause-servers
returns-clause-servers g c = λ w reached feature own theirs.
    c.settled_features_are_alike.ensures.servers w (safe g.C.Congestion.control c.every_run_is_safe.ensures w reached) feature own theirs

pub returns-clause-listed : goal.returns-clause-listed
returns-clause-listed g c = λ w reached pair side settled listed negotiated.
    c.settled_features_are_alike.ensures.listed w (safe g.C.Congestion.control c.every_run_is_safe.ensures w reached) pair side settled listed negotiated

pub returns-clause-shared : goal.returns-clause-shared
returns-clause-shared g c = λ w reached pair side value servers clients settled listed servers_last clients_last first.
    c.settled_features_are_alike.ensures.shared w (safe g.C.Congestion.control c.every_run_is_safe.ensures w reached) pair side value servers clients settled listed servers_last clients_last first

pub returns-clause-told : goal.returns-clause-told
returns-clause-told g c = λ w reached pair side value settled single negotiated last.
    c.settled_features_are_alike.ensures.told w (safe g.C.Congestion.control c.every_run_is_safe.ensures w reached) pair side value settled single negotiated last
