use Rattle.std.proofs.Common.{arith}
use Rattle.tests_claims.proofs.paths.no_allowance_closes_or_leaps.Goals as goal

pub returns : goal.returns
returns c = record {
  some = λ it window drops none. omega (arith, c.allowances_are_kept.ensures.some it window drops, none);
  falls = λ it window drops opened above. omega (arith, c.allowances_are_kept.ensures.falls it window drops opened, above);
  halves = λ it window opened above. omega (arith, c.allowances_are_kept.ensures.halves it window opened, above);
  creeps = λ it window acked opened above. omega (arith, c.allowances_are_kept.ensures.creeps it window acked opened, above);
}
