use Rattle.std.proofs.Common.{[]}
use Rattle.two_ends.proofs.OfFeatures.OpeningLines.{offer_moves, offer_drops}
use Rattle.two_ends.proofs.features.lines.offering_is_a_move.Goals as goal

pub returns-clause-opens : goal.returns-clause-opens
returns-clause-opens c = λ iss greatest row there frames confirmed fits few sound. offer_moves iss greatest row there frames fits few sound confirmed

pub returns-clause-drops : goal.returns-clause-drops
returns-clause-drops c = λ iss greatest row frames. offer_drops iss greatest row [] frames
