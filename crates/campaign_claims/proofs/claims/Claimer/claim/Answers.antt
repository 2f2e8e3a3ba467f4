use Rattle.std.proofs.Common.{rules}
use Rattle.campaign_claims.proofs.Steps.{claims}
use Rattle.campaign_claims.proofs.claims.Claimer.claim.Goals as goal

pub fetch_add-found-requires : goal.fetch_add-found-requires
fetch_add-found-requires c = (search rules, search rules, claims _ _ _ _ (search rules))
