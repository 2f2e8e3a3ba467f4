use Rattle.std.proofs.Common.{arith}
use Rattle.tests_claims.proofs.paths.no_timeout_comes_too_early_or_late.Goals as goal

pub returns : goal.returns
returns c = record {
  early = λ path early. omega (arith, c.timeouts_are_bounded.ensures.low path, early);
  late = λ path late. omega (arith, c.timeouts_are_bounded.ensures.high path, late);
  waits = λ path fits early. omega (arith, c.timeouts_are_bounded.ensures.waits path fits, early);
}
