use Rattle.two_ends.proofs.OfWorlds.Consequences.{reported-processed, reported-sent}
use Rattle.two_ends.proofs.laws.what_is_reported_arrived.Goals as goal

pub returns-clause-processed : goal.returns-clause-processed
returns-clause-processed g c = λ w safe side n is. reported-processed g.C.Congestion.control w safe.heard side n is

pub returns-clause-sent : goal.returns-clause-sent
returns-clause-sent g c = λ w safe side n resets is. reported-sent g.C.Congestion.control w safe.heard side n safe.once resets is
