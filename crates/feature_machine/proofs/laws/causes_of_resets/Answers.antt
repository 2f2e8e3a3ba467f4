use Rattle.feature_machine.proofs.Causes.{change_causes, confirm_causes}
use Rattle.feature_machine.specs.Rows.{proposal, confirmation}
use Rattle.feature_machine.proofs.laws.causes_of_resets.Goals as goal

pub returns-clause-change : goal.returns-clause-change
returns-clause-change c = λ row body mandatory. change_causes row row.stand (proposal row body) mandatory

pub returns-clause-confirm : goal.returns-clause-confirm
returns-clause-confirm c = λ row body ack. confirm_causes row row.stand (confirmation row body ack)
