use Rattle.validity_windows.proofs.Raising.{raised_by_maximum, taken_is_whole, begun_by_first, begun_is_whole}
use Rattle.validity_windows.proofs.laws.marks_stay_sound.Goals as goal

pub returns-clause-raised : goal.returns-clause-raised
returns-clause-raised c = raised_by_maximum

pub returns-clause-taken : goal.returns-clause-taken
returns-clause-taken c = taken_is_whole

pub returns-clause-begun : goal.returns-clause-begun
returns-clause-begun c = begun_by_first

pub returns-clause-first : goal.returns-clause-first
returns-clause-first c = begun_is_whole
