use Rattle.two_ends.proofs.OfMarks.MarkReachable.{servers_told, clients_told, servers_alone, clients_alone}
use Rattle.two_ends.proofs.marks.laws.what_falls_below_the_floor_is_settled.Goals as goal

pub returns-clause-servers : goal.returns-clause-servers
returns-clause-servers c = servers_told

pub returns-clause-clients : goal.returns-clause-clients
returns-clause-clients c = clients_told

pub returns-clause-servers_alone : goal.returns-clause-servers_alone
returns-clause-servers_alone c = servers_alone

pub returns-clause-clients_alone : goal.returns-clause-clients_alone
returns-clause-clients_alone c = clients_alone
