-- The loop keeps its invariant, and each of its ends is one of the whole input.
use Rattle.std.proofs.Common.{refl, sym, ◌∙◌}
use Rattle.tool_text.specs.declared.lines.turns.Turn.TheVariants as turn
use Rattle.tool_text.proofs.Turning.{begins, moved-on, unmoved, out-of-memory, turned-on, turned-to-end, turned-down, turned-off}
use Rattle.tool_text.proofs.lines.loops.go_through.Goals as goal

pub loop-alloc-init : goal.loop-alloc-init
loop-alloc-init g c =
    begins g.S.Source.left g.S.Source.faults g.S.Source.lender g.K.Sink.taken g.K.Sink.faults g.K.Sink.empty_takes g.J.LineJob.job g.J.LineJob.keeps c.args.apart
    c.args.job.now c.args.lines.now
    c.args.output.now c.args.text.now.items c.requires.unstopped c.requires.given c.requires.kept

pub loop-alloc-preserved : goal.loop-alloc-preserved
loop-alloc-preserved g c =
    let before = moved-on g.S.Source.left g.S.Source.faults g.S.Source.lender g.K.Sink.taken g.K.Sink.faults g.K.Sink.empty_takes g.J.LineJob.job
    g.J.LineJob.keeps c.args.apart
    c.args.job.now c.args.lines.now
    c.args.output.now c.args.text.now.items c.loop-alloc.job c.loop-alloc.lines c.loop-alloc.output c.loop-alloc.text.items c.loop-alloc.number
    c.loop-alloc.invariant
    c.flush_if_due.new.output c.flush_if_due.new.text.items c.flush_if_due.result c.flush_if_due.ensures.moved (sym c.is_err.ensures.value ∙ c.if-is_err.false)
    c.flush_if_due.ensures.never_falls c.flush_if_due.ensures.takes_never_fall in
    turned-on g.S.Source.left g.S.Source.faults g.S.Source.lender g.K.Sink.taken g.K.Sink.faults g.K.Sink.empty_takes g.J.LineJob.job g.J.LineJob.keeps c.args.apart
    c.args.job.now c.args.lines.now
    c.args.output.now c.args.text.now.items c.loop-alloc.job c.loop-alloc.lines c.flush_if_due.new.output c.flush_if_due.new.text.items c.loop-alloc.number
    before
    c.judge_next.new.lines c.judge_next.new.job c.judge_next.new.text.items turn.Accepted c.in-Accepted.ensures refl

pub returns-then-is_err-clause-through : goal.returns-then-is_err-clause-through
returns-then-is_err-clause-through g c =
    unmoved g.S.Source.left g.S.Source.faults g.S.Source.lender g.K.Sink.taken g.K.Sink.faults g.K.Sink.empty_takes g.J.LineJob.job g.J.LineJob.keeps c.args.apart
    c.args.job.now c.args.lines.now
    c.args.output.now c.args.text.now.items c.loop-alloc.job c.loop-alloc.lines c.loop-alloc.output c.loop-alloc.text.items c.loop-alloc.number
    c.loop-alloc.invariant
    c.flush_if_due.new.output c.flush_if_due.result c.flush_if_due.ensures.front (sym c.is_err.ensures.value ∙ c.if-is_err.true)

pub returns-in-Ended-clause-through : goal.returns-in-Ended-clause-through
returns-in-Ended-clause-through g c =
    let before = moved-on g.S.Source.left g.S.Source.faults g.S.Source.lender g.K.Sink.taken g.K.Sink.faults g.K.Sink.empty_takes g.J.LineJob.job
    g.J.LineJob.keeps c.args.apart
    c.args.job.now c.args.lines.now
    c.args.output.now c.args.text.now.items c.loop-alloc.job c.loop-alloc.lines c.loop-alloc.output c.loop-alloc.text.items c.loop-alloc.number
    c.loop-alloc.invariant
    c.flush_if_due.new.output c.flush_if_due.new.text.items c.flush_if_due.result c.flush_if_due.ensures.moved (sym c.is_err.ensures.value ∙ c.if-is_err.false)
    c.flush_if_due.ensures.never_falls c.flush_if_due.ensures.takes_never_fall in
    turned-to-end g.S.Source.left g.S.Source.faults g.S.Source.lender g.K.Sink.taken g.K.Sink.faults g.K.Sink.empty_takes g.J.LineJob.job g.J.LineJob.keeps c.args.apart
    c.args.job.now c.args.lines.now
    c.args.output.now c.args.text.now.items c.loop-alloc.job c.loop-alloc.lines c.flush_if_due.new.output c.flush_if_due.new.text.items c.loop-alloc.number
    before
    c.judge_next.new.lines c.judge_next.new.job c.judge_next.new.text.items turn.Ended c.in-Ended.ensures
    (g.K.Sink.taken c.end.new.output) _ refl
    c.end.ensures.leaves

pub returns-in-Refused-clause-through : goal.returns-in-Refused-clause-through
returns-in-Refused-clause-through g c =
    let before = moved-on g.S.Source.left g.S.Source.faults g.S.Source.lender g.K.Sink.taken g.K.Sink.faults g.K.Sink.empty_takes g.J.LineJob.job
    g.J.LineJob.keeps c.args.apart
    c.args.job.now c.args.lines.now
    c.args.output.now c.args.text.now.items c.loop-alloc.job c.loop-alloc.lines c.loop-alloc.output c.loop-alloc.text.items c.loop-alloc.number
    c.loop-alloc.invariant
    c.flush_if_due.new.output c.flush_if_due.new.text.items c.flush_if_due.result c.flush_if_due.ensures.moved (sym c.is_err.ensures.value ∙ c.if-is_err.false)
    c.flush_if_due.ensures.never_falls c.flush_if_due.ensures.takes_never_fall in
    turned-down g.S.Source.left g.S.Source.faults g.S.Source.lender g.K.Sink.taken g.K.Sink.faults g.K.Sink.empty_takes g.J.LineJob.job g.J.LineJob.keeps c.args.apart
    c.args.job.now c.args.lines.now
    c.args.output.now c.args.text.now.items c.loop-alloc.job c.loop-alloc.lines c.flush_if_due.new.output c.flush_if_due.new.text.items c.loop-alloc.number
    before
    c.judge_next.new.lines c.judge_next.new.job c.judge_next.new.text.items (turn.Refused c.in-Refused.fault) c.in-Refused.ensures (g.K.Sink.taken c.refuse.new.output)
    c.in-Refused.fault _ refl c.refuse.ensures.leaves

pub returns-in-Failed-clause-through : goal.returns-in-Failed-clause-through
returns-in-Failed-clause-through g c =
    let before = moved-on g.S.Source.left g.S.Source.faults g.S.Source.lender g.K.Sink.taken g.K.Sink.faults g.K.Sink.empty_takes g.J.LineJob.job
    g.J.LineJob.keeps c.args.apart
    c.args.job.now c.args.lines.now
    c.args.output.now c.args.text.now.items c.loop-alloc.job c.loop-alloc.lines c.loop-alloc.output c.loop-alloc.text.items c.loop-alloc.number
    c.loop-alloc.invariant
    c.flush_if_due.new.output c.flush_if_due.new.text.items c.flush_if_due.result c.flush_if_due.ensures.moved (sym c.is_err.ensures.value ∙ c.if-is_err.false)
    c.flush_if_due.ensures.never_falls c.flush_if_due.ensures.takes_never_fall in
    turned-off g.S.Source.left g.S.Source.faults g.S.Source.lender g.K.Sink.taken g.K.Sink.faults g.K.Sink.empty_takes g.J.LineJob.job g.J.LineJob.keeps c.args.apart
    c.args.job.now c.args.lines.now
    c.args.output.now c.args.text.now.items c.loop-alloc.job c.loop-alloc.lines c.flush_if_due.new.output c.flush_if_due.new.text.items c.loop-alloc.number
    before
    c.judge_next.new.lines c.judge_next.new.job c.judge_next.new.text.items turn.Failed c.in-Failed.ensures (g.K.Sink.taken c.cut_off.new.output)
    c.deref.result.now _ refl c.deref.ensures.value c.cut_off.ensures.same c.cut_off.ensures.front

pub returns-in-NoMemory-clause-through : goal.returns-in-NoMemory-clause-through
returns-in-NoMemory-clause-through g c =
    let before = moved-on g.S.Source.left g.S.Source.faults g.S.Source.lender g.K.Sink.taken g.K.Sink.faults g.K.Sink.empty_takes g.J.LineJob.job
    g.J.LineJob.keeps c.args.apart
    c.args.job.now c.args.lines.now
    c.args.output.now c.args.text.now.items c.loop-alloc.job c.loop-alloc.lines c.loop-alloc.output c.loop-alloc.text.items c.loop-alloc.number
    c.loop-alloc.invariant
    c.flush_if_due.new.output c.flush_if_due.new.text.items c.flush_if_due.result c.flush_if_due.ensures.moved (sym c.is_err.ensures.value ∙ c.if-is_err.false)
    c.flush_if_due.ensures.never_falls c.flush_if_due.ensures.takes_never_fall in
    out-of-memory g.S.Source.left g.S.Source.faults g.S.Source.lender g.K.Sink.taken g.K.Sink.faults g.K.Sink.empty_takes g.J.LineJob.job g.J.LineJob.keeps c.args.apart
    c.args.job.now c.args.lines.now
    c.args.output.now c.args.text.now.items c.loop-alloc.job c.loop-alloc.lines c.flush_if_due.new.output c.flush_if_due.new.text.items c.loop-alloc.number
    before
    c.judge_next.new.lines.source
