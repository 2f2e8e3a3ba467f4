-- The loop keeps its invariant, and each of its ends is one of the whole input.
use Rattle.std.proofs.Common.{sym, ◌∙◌}
use Rattle.bridge_records.proofs.Looping.{moved-on, out-of-memory, over, read-on, taken-on, turned-off, unmoved}
use Rattle.bridge_records.proofs.pieces.loops.take_pieces.Goals as goal

pub returns-then-is_err-clause-through : goal.returns-then-is_err-clause-through
returns-then-is_err-clause-through g c =
    unmoved g.S.Source.left g.S.Source.faults g.K.Sink.taken g.K.Sink.faults g.K.Sink.empty_takes g.J.PieceJob.job c.args.job.now c.args.source.now
    c.args.output.now
    c.loop-given.job c.loop-given.source c.loop-given.ahead c.loop-given.output c.loop-given.text.items c.loop-given.given c.loop-given.invariant
    c.flush_if_due.new.output c.flush_if_due.result c.flush_if_due.ensures.front (sym c.is_err.ensures.value ∙ c.if-is_err.true) _

pub loop-given-preserved-in-Ok-Read : goal.loop-given-preserved-in-Ok-Read
loop-given-preserved-in-Ok-Read g c =
    let before = moved-on g.S.Source.left g.S.Source.faults g.K.Sink.taken g.K.Sink.faults g.K.Sink.empty_takes g.J.PieceJob.job c.args.job.now
    c.args.source.now c.args.output.now
    c.loop-given.job c.loop-given.source c.loop-given.ahead c.loop-given.output c.loop-given.text.items c.loop-given.given c.loop-given.invariant
    c.flush_if_due.new.output c.flush_if_due.new.text.items c.flush_if_due.result c.flush_if_due.ensures.moved (sym c.is_err.ensures.value ∙ c.if-is_err.false)
    c.flush_if_due.ensures.never_falls c.flush_if_due.ensures.takes_never_fall in
    read-on g.S.Source.left g.S.Source.faults g.K.Sink.taken g.K.Sink.faults g.K.Sink.empty_takes g.J.PieceJob.job c.args.job.now c.args.source.now
    c.args.output.now
    c.loop-given.job c.loop-given.source c.loop-given.ahead c.flush_if_due.new.output c.flush_if_due.new.text.items c.loop-given.given before
    _ c.in-Ok-Read.field-0 c.in-Ok-Read.ensures.keeps c.in-Ok-Read.ensures.turn c.in-Ok-Read.field-0-is

pub loop-given-preserved : goal.loop-given-preserved
loop-given-preserved g c =
    let before = moved-on g.S.Source.left g.S.Source.faults g.K.Sink.taken g.K.Sink.faults g.K.Sink.empty_takes g.J.PieceJob.job c.args.job.now
    c.args.source.now c.args.output.now
    c.loop-given.job c.loop-given.source c.loop-given.ahead c.loop-given.output c.loop-given.text.items c.loop-given.given c.loop-given.invariant
    c.flush_if_due.new.output c.flush_if_due.new.text.items c.flush_if_due.result c.flush_if_due.ensures.moved (sym c.is_err.ensures.value ∙ c.if-is_err.false)
    c.flush_if_due.ensures.never_falls c.flush_if_due.ensures.takes_never_fall in
    taken-on g.S.Source.left g.S.Source.faults g.K.Sink.taken g.K.Sink.faults g.K.Sink.empty_takes g.J.PieceJob.job c.args.job.now c.args.source.now
    c.args.output.now
    c.loop-given.job c.loop-given.source c.loop-given.ahead c.flush_if_due.new.output c.flush_if_due.new.text.items c.loop-given.given before
    _ c.in-Ok-Taken.field-0 c.in-Ok-Taken.ensures.keeps c.in-Ok-Taken.ensures.turn c.in-Ok-Taken.used c.in-Ok-Taken.field-0-is

pub returns-in-Ok-Over-clause-through : goal.returns-in-Ok-Over-clause-through
returns-in-Ok-Over-clause-through g c =
    let before = moved-on g.S.Source.left g.S.Source.faults g.K.Sink.taken g.K.Sink.faults g.K.Sink.empty_takes g.J.PieceJob.job c.args.job.now
    c.args.source.now c.args.output.now
    c.loop-given.job c.loop-given.source c.loop-given.ahead c.loop-given.output c.loop-given.text.items c.loop-given.given c.loop-given.invariant
    c.flush_if_due.new.output c.flush_if_due.new.text.items c.flush_if_due.result c.flush_if_due.ensures.moved (sym c.is_err.ensures.value ∙ c.if-is_err.false)
    c.flush_if_due.ensures.never_falls c.flush_if_due.ensures.takes_never_fall in
    over g.S.Source.left g.S.Source.faults g.K.Sink.taken g.K.Sink.faults g.K.Sink.empty_takes g.J.PieceJob.job c.args.job.now c.args.source.now
    c.args.output.now
    c.loop-given.job c.loop-given.source c.loop-given.ahead c.flush_if_due.new.output c.flush_if_due.new.text.items c.loop-given.given before
    _ c.in-Ok-Over.field-0 c.in-Ok-Over.ensures.keeps c.in-Ok-Over.ensures.turn c.in-Ok-Over.fault (g.K.Sink.taken c.close.new.output) _ c.in-Ok-Over.field-0-is
    c.close.ensures.leaves

pub returns-in-Ok-Failed-clause-through : goal.returns-in-Ok-Failed-clause-through
returns-in-Ok-Failed-clause-through g c =
    let before = moved-on g.S.Source.left g.S.Source.faults g.K.Sink.taken g.K.Sink.faults g.K.Sink.empty_takes g.J.PieceJob.job c.args.job.now
    c.args.source.now c.args.output.now
    c.loop-given.job c.loop-given.source c.loop-given.ahead c.loop-given.output c.loop-given.text.items c.loop-given.given c.loop-given.invariant
    c.flush_if_due.new.output c.flush_if_due.new.text.items c.flush_if_due.result c.flush_if_due.ensures.moved (sym c.is_err.ensures.value ∙ c.if-is_err.false)
    c.flush_if_due.ensures.never_falls c.flush_if_due.ensures.takes_never_fall in
    turned-off g.S.Source.left g.S.Source.faults g.K.Sink.taken g.K.Sink.faults g.K.Sink.empty_takes g.J.PieceJob.job c.args.job.now c.args.source.now
    c.args.output.now
    c.loop-given.job c.loop-given.source c.loop-given.ahead c.flush_if_due.new.output c.flush_if_due.new.text.items c.loop-given.given before
    _ c.in-Ok-Failed.field-0 c.in-Ok-Failed.ensures.keeps c.in-Ok-Failed.ensures.turn (g.K.Sink.taken c.cut_off.new.output)
    c.deref.result.now _ c.in-Ok-Failed.field-0-is c.deref.ensures.value c.cut_off.ensures.same c.cut_off.ensures.front _

pub returns-in-Err-clause-through : goal.returns-in-Err-clause-through
returns-in-Err-clause-through g c =
    let before = moved-on g.S.Source.left g.S.Source.faults g.K.Sink.taken g.K.Sink.faults g.K.Sink.empty_takes g.J.PieceJob.job c.args.job.now
    c.args.source.now c.args.output.now
    c.loop-given.job c.loop-given.source c.loop-given.ahead c.loop-given.output c.loop-given.text.items c.loop-given.given c.loop-given.invariant
    c.flush_if_due.new.output c.flush_if_due.new.text.items c.flush_if_due.result c.flush_if_due.ensures.moved (sym c.is_err.ensures.value ∙ c.if-is_err.false)
    c.flush_if_due.ensures.never_falls c.flush_if_due.ensures.takes_never_fall in
    out-of-memory g.S.Source.left g.S.Source.faults g.K.Sink.taken g.K.Sink.faults g.K.Sink.empty_takes g.J.PieceJob.job c.args.job.now c.args.source.now
    c.args.output.now
    c.loop-given.job c.loop-given.source c.loop-given.ahead c.flush_if_due.new.output c.flush_if_due.new.text.items c.loop-given.given before
    c.take_turn.new.source _
