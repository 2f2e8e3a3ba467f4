use Rattle.two_ends.proofs.OfFeatures.Staying.{value_stays}
use Rattle.two_ends.proofs.features.laws.where_nothing_is_shared_the_value_stays.Goals as goal

pub returns : goal.returns
returns c = value_stays
