use Rattle.feature_machine.proofs.Turning.{turned-row, turned-sound, turned-role, turned-joined}
use Rattle.feature_machine.proofs.rows.turns_are_of_their_rows.Goals as goal

pub returns-clause-one_row : goal.returns-clause-one_row
returns-clause-one_row c = turned-row

pub returns-clause-sound : goal.returns-clause-sound
returns-clause-sound c = turned-sound

pub returns-clause-roles : goal.returns-clause-roles
returns-clause-roles c = turned-role

pub returns-clause-joined : goal.returns-clause-joined
returns-clause-joined c = turned-joined
