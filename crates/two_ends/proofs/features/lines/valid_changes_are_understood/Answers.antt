use Rattle.two_ends.proofs.OfFeatures.Saying.{wish_valid, change_understood}
use Rattle.two_ends.proofs.features.lines.valid_changes_are_understood.Goals as goal

pub returns-clause-sent : goal.returns-clause-sent
returns-clause-sent c = wish_valid

pub returns-clause-understood : goal.returns-clause-understood
returns-clause-understood c = change_understood
