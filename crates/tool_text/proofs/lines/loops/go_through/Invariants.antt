use Rattle.std.proofs.Common.{◌-◌}
use Rattle.tool_text.proofs.Turning.{InLoop}
use Rattle.tool_text.proofs.lines.loops.go_through.Given as goal

abbrev pub invariant-loop-alloc : goal.invariant-loop-alloc
invariant-loop-alloc g l =
    InLoop g.S.Source.left g.S.Source.faults g.S.Source.lender g.K.Sink.taken g.K.Sink.faults g.K.Sink.empty_takes g.J.LineJob.job g.J.LineJob.keeps
    l.fn.job l.job l.fn.lines l.lines l.fn.output l.output l.fn.text.items l.text.items l.number

abbrev pub decreases-loop-alloc : goal.decreases-loop-alloc
decreases-loop-alloc g l = 16777216 - l.lines.given
