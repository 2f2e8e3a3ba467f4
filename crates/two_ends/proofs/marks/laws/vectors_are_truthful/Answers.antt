use Rattle.two_ends.proofs.OfMarks.MarkReachable.{servers_truthful, clients_truthful}
use Rattle.two_ends.proofs.marks.laws.vectors_are_truthful.Goals as goal

pub returns-clause-servers : goal.returns-clause-servers
returns-clause-servers c = servers_truthful

pub returns-clause-clients : goal.returns-clause-clients
returns-clause-clients c = clients_truthful
