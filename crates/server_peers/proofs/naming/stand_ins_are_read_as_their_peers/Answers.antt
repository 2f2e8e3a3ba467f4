use Rattle.server_peers.proofs.StandIns.{counts_alike, equal_sums}
use Rattle.server_peers.proofs.naming.stand_ins_are_read_as_their_peers.Goals as goal

pub returns-clause-alike : goal.returns-clause-alike
returns-clause-alike c = equal_sums

pub returns-clause-counted : goal.returns-clause-counted
returns-clause-counted c = counts_alike
