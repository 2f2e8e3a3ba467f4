use Rattle.std.proofs.Common.{arith}
use Rattle.tests_claims.proofs.paths.no_ack_ratio_stops_the_acks.Goals as goal

pub returns : goal.returns
returns c = record {
  some = λ window used width none. omega (arith, c.ack_ratios_fit_the_window.ensures.some window used width, none);
  half = λ window used width more above. omega (arith, c.ack_ratios_fit_the_window.ensures.half window used width, more, above);
}
