use Rattle.feature_machine.proofs.Turning.{first-role, stepped-role}
use Rattle.feature_machine.proofs.rows.rows_keep_their_role.Goals as goal

pub returns-clause-first : goal.returns-clause-first
returns-clause-first c = first-role

pub returns-clause-stepped : goal.returns-clause-stepped
returns-clause-stepped c = stepped-role
