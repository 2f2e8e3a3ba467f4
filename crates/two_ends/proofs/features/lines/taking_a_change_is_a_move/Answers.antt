use Rattle.two_ends.proofs.OfFeatures.ChangeLine.{change_moves, passes}
use Rattle.two_ends.proofs.features.lines.taking_a_change_is_a_move.Goals as goal

pub returns-clause-change : goal.returns-clause-change
returns-clause-change c = λ iss greatest count row there frames body mandatory newer. change_moves iss greatest count row there frames newer body mandatory

pub returns-clause-nothing : goal.returns-clause-nothing
returns-clause-nothing c = passes
