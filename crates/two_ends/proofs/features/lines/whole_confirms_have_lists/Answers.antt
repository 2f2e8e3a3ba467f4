use Rattle.two_ends.proofs.OfFeatures.Listed.{lists_are_wishes, listed_with_frame, confirm_listed}
use Rattle.two_ends.proofs.features.lines.whole_confirms_have_lists.Goals as goal

pub returns-clause-last : goal.returns-clause-last
returns-clause-last c = lists_are_wishes

pub returns-clause-more : goal.returns-clause-more
returns-clause-more c = listed_with_frame

pub returns-clause-confirm : goal.returns-clause-confirm
returns-clause-confirm c = confirm_listed
