use Rattle.two_ends.proofs.OfMarks.MarkReaching.{joined}
use Rattle.two_ends.proofs.OfMarks.MarkReachable.{start_is_reachable, reachable_after_server, reachable_after_client}
use Rattle.two_ends.proofs.marks.laws.marking_stays_reachable.Goals as goal

pub returns-clause-joined : goal.returns-clause-joined
returns-clause-joined c = joined

pub returns-clause-start : goal.returns-clause-start
returns-clause-start c = start_is_reachable

pub returns-clause-server_step : goal.returns-clause-server_step
returns-clause-server_step c = reachable_after_server

pub returns-clause-client_step : goal.returns-clause-client_step
returns-clause-client_step c = reachable_after_client
