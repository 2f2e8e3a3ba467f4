use Rattle.two_ends.proofs.OfFeatures.Saying.{change_carries, change_valid, confirm_whole}
use Rattle.two_ends.proofs.features.lines.what_rows_say_is_whole.Goals as goal

pub returns-clause-carried : goal.returns-clause-carried
returns-clause-carried c = change_carries

pub returns-clause-valid : goal.returns-clause-valid
returns-clause-valid c = change_valid

pub returns-clause-whole : goal.returns-clause-whole
returns-clause-whole c = confirm_whole
