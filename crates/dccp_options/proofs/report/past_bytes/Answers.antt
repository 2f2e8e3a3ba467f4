use Rattle.std.proofs.Common.{arith, ◌∙◌}
use Rattle.dccp_options.proofs.States.{passed_more}
use Rattle.dccp_options.proofs.report.past_bytes.Goals as goal

pub loop-byte-preserved : goal.loop-byte-preserved
loop-byte-preserved c = (
  passed_more c.args.vector.now c.loop-byte.left.now c.in-Some.rest.now c.in-Some.byte.now c.loop-byte.numbers c.from-count.result
      c.in-Some.ensures.cases.0 (c.from-count.ensures ∙ c.run_length.ensures) c.loop-byte.invariant.0,
  omega (arith, c.if-most-numbers.false, c.loop-byte.invariant.1),
)
