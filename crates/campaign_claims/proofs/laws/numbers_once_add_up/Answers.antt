use Rattle.campaign_claims.proofs.Below.{sums_once, count_once}
use Rattle.campaign_claims.proofs.laws.numbers_once_add_up.Goals as goal

pub returns : goal.returns
returns c = record { sums = sums_once; count = count_once }
