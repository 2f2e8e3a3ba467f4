use Rattle.campaign_claims.proofs.Below.{in_vain}
use Rattle.campaign_claims.proofs.laws.a_claim_in_vain_ends_the_numbers.Goals as goal

pub returns : goal.returns
returns c = in_vain
