use Rattle.std.proofs.Common.{arith, false}
use Rattle.dccp_options.specs.Grammar.{options_of}
use Rattle.dccp_options.specs.Vectors.{vector_bytes}
use Rattle.dccp_options.proofs.States.{passed_runs}
use Rattle.dccp_options.proofs.report.ReportRuns.pass.Goals as goal

pub returns-clause-past : goal.returns-clause-past
returns-clause-past c =
    let inside = c.self.inside in
    let others = vector_bytes (options_of inside.bytes.area.now false) in
    rw c.sub-self-inside.ensures
    (passed_runs inside.hi c.past_bytes-numbers.result.1 inside.bytes.vector.now c.past_bytes-numbers.result.0.now others c.args.self.now
    (omega (arith, c.get-number.ensures.value, c.get-number.ensures.fits)) c.self.view_is c.past_bytes-numbers.ensures.past)
