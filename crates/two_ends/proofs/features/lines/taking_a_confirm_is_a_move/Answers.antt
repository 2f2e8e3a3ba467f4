use Rattle.two_ends.proofs.OfFeatures.ConfirmLine.{confirm_moves}
use Rattle.two_ends.proofs.features.lines.taking_a_confirm_is_a_move.Goals as goal

pub returns : goal.returns
returns c = λ iss greatest count row there frames body ack newer. confirm_moves iss greatest count row there frames newer body ack
