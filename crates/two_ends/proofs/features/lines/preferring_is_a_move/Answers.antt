use Rattle.two_ends.proofs.OfFeatures.OpeningLines.{prefer_moves, preference_waits}
use Rattle.two_ends.proofs.features.lines.preferring_is_a_move.Goals as goal

pub returns-clause-opens : goal.returns-clause-opens
returns-clause-opens c = λ iss greatest row there frames wish fits few. prefer_moves iss greatest row there frames fits few wish

pub returns-clause-waits : goal.returns-clause-waits
returns-clause-waits c = preference_waits
