use Rattle.std.proofs.Common.{rules}
use Rattle.campaign_claims.proofs.Steps.{joins}
use Rattle.campaign_claims.proofs.claims.Claimer.join.Goals as goal

pub join_seat-requires : goal.join_seat-requires
join_seat-requires c = (search rules, search rules, search rules, search rules, joins _ _ _ _ _ (search rules))
