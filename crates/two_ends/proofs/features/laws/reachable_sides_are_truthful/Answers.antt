use Rattle.two_ends.proofs.OfFeatures.Truthful.{server_truthful, client_truthful}
use Rattle.two_ends.proofs.features.laws.reachable_sides_are_truthful.Goals as goal

pub returns-clause-servers : goal.returns-clause-servers
returns-clause-servers c = server_truthful

pub returns-clause-clients : goal.returns-clause-clients
returns-clause-clients c = client_truthful
