use Rattle.two_ends.proofs.OfFeatures.Taking.{heard_same, heard_sound, heard_begun}
use Rattle.two_ends.proofs.features.packets.hearing_keeps_a_row.Goals as goal

pub returns-clause-same : goal.returns-clause-same
returns-clause-same c = heard_same

pub returns-clause-sound : goal.returns-clause-sound
returns-clause-sound c = heard_sound

pub returns-clause-begun : goal.returns-clause-begun
returns-clause-begun c = heard_begun
