use Rattle.feature_machine.proofs.Openings.{line_opens, line_settles, step_keeps, step_first, step_again, step_anew}
use Rattle.feature_machine.specs.Rows.{heard}
use Rattle.feature_machine.proofs.laws.openings_keep_their_number.Goals as goal

pub returns-clause-opens : goal.returns-clause-opens
returns-clause-opens c = λ row event. line_opens row row.stand (heard row event)

pub returns-clause-settles : goal.returns-clause-settles
returns-clause-settles c = λ row event. line_settles row row.stand (heard row event)

pub returns-clause-keeps : goal.returns-clause-keeps
returns-clause-keeps c = step_keeps

pub returns-clause-first : goal.returns-clause-first
returns-clause-first c = step_first

pub returns-clause-again : goal.returns-clause-again
returns-clause-again c = step_again

pub returns-clause-anew : goal.returns-clause-anew
returns-clause-anew c = step_anew
