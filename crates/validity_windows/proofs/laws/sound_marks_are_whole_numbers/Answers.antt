use Rattle.validity_windows.proofs.Raising.{whole_of_sound, residues_of_unrolled, sound_of_whole}
use Rattle.validity_windows.proofs.laws.sound_marks_are_whole_numbers.Goals as goal

pub returns-clause-whole : goal.returns-clause-whole
returns-clause-whole c = whole_of_sound

pub returns-clause-same : goal.returns-clause-same
returns-clause-same c = residues_of_unrolled

pub returns-clause-sound : goal.returns-clause-sound
returns-clause-sound c = sound_of_whole
