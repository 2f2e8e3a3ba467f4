use Rattle.two_ends.proofs.OfMarks.MarkReachable.{servers_sound, clients_sound}
use Rattle.two_ends.proofs.marks.laws.marks_are_what_was_processed.Goals as goal

pub returns-clause-servers : goal.returns-clause-servers
returns-clause-servers c = servers_sound

pub returns-clause-clients : goal.returns-clause-clients
returns-clause-clients c = clients_sound
