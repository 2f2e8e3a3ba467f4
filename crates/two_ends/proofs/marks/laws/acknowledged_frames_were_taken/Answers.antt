use Rattle.two_ends.proofs.OfMarks.MarkReachable.{servers_heeded, clients_heeded}
use Rattle.two_ends.proofs.marks.laws.acknowledged_frames_were_taken.Goals as goal

pub returns-clause-servers : goal.returns-clause-servers
returns-clause-servers c = servers_heeded

pub returns-clause-clients : goal.returns-clause-clients
returns-clause-clients c = clients_heeded
