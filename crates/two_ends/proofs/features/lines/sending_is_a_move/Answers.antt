use Rattle.two_ends.proofs.OfFeatures.OpeningLines.{send_moves, plain_moves}
use Rattle.two_ends.proofs.features.lines.sending_is_a_move.Goals as goal

pub returns-clause-due : goal.returns-clause-due
returns-clause-due c = send_moves

pub returns-clause-nothing : goal.returns-clause-nothing
returns-clause-nothing c = plain_moves
