use Rattle.two_ends.proofs.OfMarks.MarkReachable.{servers_heard, clients_heard}
use Rattle.two_ends.proofs.marks.laws.what_is_reported_was_processed.Goals as goal

pub returns-clause-servers : goal.returns-clause-servers
returns-clause-servers c = servers_heard

pub returns-clause-clients : goal.returns-clause-clients
returns-clause-clients c = clients_heard
