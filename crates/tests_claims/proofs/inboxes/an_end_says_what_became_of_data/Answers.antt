use Rattle.std.proofs.Common.{Option, subst}
use Rattle.data_dropped.specs.EndHistory.{EndReceives, IsToldSo, past_after}
use Rattle.data_dropped.specs.declared.answers.Arrival.{Arrival}
use Rattle.dccp_endpoint.specs.End.{last_taken}
use Rattle.dccp_endpoint.specs.Receiving.{receives}
use Rattle.tests_claims.proofs.inboxes.an_end_says_what_became_of_data.Goals as goal

pub returns-clause-kept : goal.returns-clause-kept
returns-clause-kept g c = λ p bytes is.
    (subst
    (λ (said : Option Arrival). IsToldSo (last_taken (receives p.end.state bytes).after) said p.past (past_after g.C.Congestion.control p (EndReceives bytes)).past) is
    (c.what_an_end_keeps_is_taken.ensures.told p bytes)).0

pub returns-clause-dropped : goal.returns-clause-dropped
returns-clause-dropped g c = λ p bytes code is.
    (subst
    (λ (said : Option Arrival). IsToldSo (last_taken (receives p.end.state bytes).after) said p.past (past_after g.C.Congestion.control p (EndReceives bytes)).past) is
    (c.what_an_end_keeps_is_taken.ensures.told p bytes)).1
