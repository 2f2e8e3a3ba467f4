use Rattle.feature_machine.proofs.Turning.{first-fresh}
use Rattle.feature_machine.proofs.rows.rows_begin_fresh.Goals as goal

pub returns : goal.returns
returns c = first-fresh
