use Rattle.feature_machine.proofs.Soundness.{step_sound, lawful_fits}
use Rattle.feature_machine.proofs.laws.values_are_lawful.Goals as goal

pub returns-clause-steps : goal.returns-clause-steps
returns-clause-steps c = step_sound

pub returns-clause-fits : goal.returns-clause-fits
returns-clause-fits c = λ row sound. lawful_fits row.feature row.place row.value sound.value
