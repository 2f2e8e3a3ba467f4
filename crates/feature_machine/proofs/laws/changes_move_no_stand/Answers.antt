use Rattle.feature_machine.proofs.Openings.{change_keeps}
use Rattle.feature_machine.proofs.laws.changes_move_no_stand.Goals as goal

pub returns : goal.returns
returns c = change_keeps
