use Rattle.two_ends.proofs.OfWorlds.Consequences.{apart-so, sent-so}
use Rattle.two_ends.proofs.laws.no_number_is_processed_again.Goals as goal

pub returns-clause-apart : goal.returns-clause-apart
returns-clause-apart g c = λ w safe side early n first later. apart-so w.world safe.once side early n first later

pub returns-clause-sent : goal.returns-clause-sent
returns-clause-sent g c = λ w safe side n resets has_it. sent-so w.world safe.once side n resets has_it
