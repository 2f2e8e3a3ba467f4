use Rattle.std.proofs.Common.{rules}
use Rattle.campaign_claims.proofs.Steps.{splits}
use Rattle.campaign_claims.proofs.claims.Claimer.split.Goals as goal

pub split_seat-seat-requires : goal.split_seat-seat-requires
split_seat-seat-requires c = (search rules, search rules, splits _ _ _ (search rules))
