use Rattle.run_list.proofs.Sets.{sound-marked, sound-raised}
use Rattle.run_list.proofs.laws.sets_stay_sound.Goals as goal

pub returns : goal.returns
returns c = record { empty = λ floor fits. record { floor_fits = fits; falling = tt }; marked = sound-marked; raised = sound-raised }
