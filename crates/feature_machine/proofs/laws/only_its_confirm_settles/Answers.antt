use Rattle.feature_machine.proofs.Openings.{settling_stand, settling_answer}
use Rattle.feature_machine.proofs.laws.only_its_confirm_settles.Goals as goal

pub returns-clause-stand : goal.returns-clause-stand
returns-clause-stand c = settling_stand

pub returns-clause-answer : goal.returns-clause-answer
returns-clause-answer c = settling_answer
