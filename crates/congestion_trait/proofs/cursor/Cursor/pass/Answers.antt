use Rattle.congestion_trait.proofs.Runs.{at_passed, shorter}
use Rattle.congestion_trait.proofs.cursor.Cursor.pass.Goals as goal

pub returns-clause-shorter : goal.returns-clause-shorter
returns-clause-shorter c = shorter _ _ _ c.pass.ensures.past

pub returns-clause-stands : goal.returns-clause-stands
returns-clause-stands c = λ all at. at_passed all _ _ _ _ _ _ _ c.pass.ensures.past at
