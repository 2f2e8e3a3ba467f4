use Rattle.bridge_command.proofs.NumberMoving.{distance-kept, short-kept}
use Rattle.bridge_command.proofs.frames.laws.acknowledgements_keep_their_distance.Goals as goal

pub returns-clause-long : goal.returns-clause-long
returns-clause-long c = distance-kept

pub returns-clause-short : goal.returns-clause-short
returns-clause-short c = short-kept
