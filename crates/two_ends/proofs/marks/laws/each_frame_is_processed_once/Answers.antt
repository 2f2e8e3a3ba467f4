use Rattle.two_ends.proofs.OfMarks.MarkReachable.{servers_once, clients_once, servers_places, clients_places}
use Rattle.two_ends.proofs.marks.laws.each_frame_is_processed_once.Goals as goal

pub returns-clause-servers : goal.returns-clause-servers
returns-clause-servers c = servers_once

pub returns-clause-clients : goal.returns-clause-clients
returns-clause-clients c = clients_once

pub returns-clause-servers_places : goal.returns-clause-servers_places
returns-clause-servers_places c = servers_places

pub returns-clause-clients_places : goal.returns-clause-clients_places
returns-clause-clients_places c = clients_places
