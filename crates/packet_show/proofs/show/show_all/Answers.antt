-- The loop keeps its invariant, and each of its ends is one of the whole capture.
use Rattle.std.proofs.Common.{arith, sym, ◌∙◌, refl, subst, inl, inr, Ok}
use Rattle.std.proofs.lemmas.Option.{IfSome_then}
use Rattle.capture_reader.specs.Records.{records_from}
use Rattle.capture_reader.specs.State.{rest}
use Rattle.packet_show.specs.declared.show.Turn.{Turn}
use Rattle.tool_text.specs.declared.output.status.JobEnd.TheVariants as ended
use Rattle.packet_show.specs.Show.{Turns}
use Rattle.tool_text.specs.Ends.{HasBegun}
use Rattle.dccp_io.specs.Fronts.{TakesFront}
use Rattle.tool_text.proofs.Ending.{on-err}
use Rattle.packet_show.proofs.Showing.{turned, along-flushed, shown-early, over, tallied-one}
use Rattle.packet_show.proofs.show.show_all.Goals as goal

pub loop-captures-preserved : goal.loop-captures-preserved
loop-captures-preserved g c =
    let before = c.loop-captures.invariant in
    let turns = subst (λ (t : Turn). Turns g.S.Source.left g.S.Source.faults g.S.Source.lender c.loop-captures.captures c.show_next.new.captures
    c.loop-captures.tally c.show_next.new.tally
    c.flush_if_due.new.text.items c.show_next.new.text.items (Ok t)) c.in-Ok-Shown.field-0-is c.in-Ok-Shown.ensures in
    let entry = turns.0 in
    let advances = turns.1 in
    let gives = advances.answer in
    let given = gives.given in
    let number = gives.number in
    let counted = gives.counted in
    let one = tallied-one c.loop-captures.tally c.show_next.new.tally entry turns.2 in
    let flushed =
    along-flushed (rest g.S.Source.left c.args.captures.now)
    (records_from c.args.captures.now.format 0 0 24) c.loop-captures.captures.format c.loop-captures.captures.number
    c.loop-captures.captures.given
    (rest g.S.Source.left c.loop-captures.captures) c.loop-captures.tally c.loop-captures.text.items c.flush_if_due.new.text.items
    (g.K.Sink.taken c.args.output.now) (g.K.Sink.taken c.loop-captures.output)
    (g.K.Sink.taken c.flush_if_due.new.output) c.flush_if_due.result c.loop-captures.invariant.along
    c.flush_if_due.ensures.moved (sym c.is_err.ensures.value ∙ c.if-is_err.false) in
    record {
      unended = gives.is_open;
      within = advances.within;
      counted = omega (arith, before.counted, given, number, counted);
      tallied = omega (arith, before.tallied, one, number, counted);
      same_lender = advances.same_lender ∙ before.same_lender;
      faults = omega (arith, before.faults, advances.never_falls);
      sink_faults = omega (arith, before.sink_faults, c.flush_if_due.ensures.never_falls);
      empty_takes = omega (arith, before.empty_takes, c.flush_if_due.ensures.takes_never_fall);
      along = IfSome_then (rest g.S.Source.left c.args.captures.now) flushed (λ bytes along.
          turned g.S.Source.left g.S.Source.faults g.S.Source.lender c.loop-captures.captures c.show_next.new.captures entry c.loop-captures.tally
          c.show_next.new.tally
          c.flush_if_due.new.text.items c.show_next.new.text.items (g.K.Sink.taken c.args.output.now) (g.K.Sink.taken c.flush_if_due.new.output)
          (records_from c.args.captures.now.format 0 0 24 bytes) bytes along advances turns.2 turns.3);
    }

pub returns-then-is_err-clause-shows : goal.returns-then-is_err-clause-shows
returns-then-is_err-clause-shows g c =
    let front : TakesFront (g.K.Sink.taken c.loop-captures.output) (g.K.Sink.taken c.flush_if_due.new.output) c.loop-captures.text.items =
    on-err c.flush_if_due.result _ c.flush_if_due.ensures.front (sym c.is_err.ensures.value ∙ c.if-is_err.true) in
    IfSome_then (rest g.S.Source.left c.args.captures.now) c.loop-captures.invariant.along (λ bytes along.
    shown-early c.loop-captures.captures.format c.loop-captures.captures.number c.loop-captures.captures.given (rest g.S.Source.left c.loop-captures.captures)
    (g.S.Source.left c.loop-captures.captures.source) c.loop-captures.tally c.loop-captures.text.items (g.K.Sink.taken c.args.output.now)
    (g.K.Sink.taken c.loop-captures.output) (g.K.Sink.taken c.flush_if_due.new.output)
    (records_from c.args.captures.now.format 0 0 24 bytes) bytes ended.Write (inr (inl refl)) along (front.0, front.2))

pub returns-in-Ok-Ended-clause-shows : goal.returns-in-Ok-Ended-clause-shows
returns-in-Ok-Ended-clause-shows g c =
    let turns = subst (λ (t : Turn). Turns g.S.Source.left g.S.Source.faults g.S.Source.lender c.loop-captures.captures c.show_next.new.captures
    c.loop-captures.tally c.show_next.new.tally
    c.flush_if_due.new.text.items c.show_next.new.text.items (Ok t)) c.in-Ok-Ended.field-0-is c.in-Ok-Ended.ensures in
    let flushed =
    along-flushed (rest g.S.Source.left c.args.captures.now)
    (records_from c.args.captures.now.format 0 0 24) c.loop-captures.captures.format c.loop-captures.captures.number
    c.loop-captures.captures.given
    (rest g.S.Source.left c.loop-captures.captures) c.loop-captures.tally c.loop-captures.text.items c.flush_if_due.new.text.items
    (g.K.Sink.taken c.args.output.now) (g.K.Sink.taken c.loop-captures.output)
    (g.K.Sink.taken c.flush_if_due.new.output) c.flush_if_due.result c.loop-captures.invariant.along
    c.flush_if_due.ensures.moved (sym c.is_err.ensures.value ∙ c.if-is_err.false) in
    IfSome_then (rest g.S.Source.left c.args.captures.now) flushed (λ bytes along.
    over g.S.Source.left g.S.Source.faults g.S.Source.lender c.loop-captures.captures c.show_next.new.captures c.loop-captures.tally c.show_next.new.tally
    c.flush_if_due.new.text.items c.show_next.new.text.items (g.K.Sink.taken c.args.output.now) (g.K.Sink.taken c.flush_if_due.new.output)
    (g.K.Sink.taken c.finish.new.output)
    (records_from c.args.captures.now.format 0 0 24 bytes) bytes c.in-Ok-Ended.end c.finish.result c.loop-captures.invariant.unended along turns
    c.finish.ensures.closes)

pub returns-in-Ok-Failed-clause-shows : goal.returns-in-Ok-Failed-clause-shows
returns-in-Ok-Failed-clause-shows g c =
    let turns = subst (λ (t : Turn). Turns g.S.Source.left g.S.Source.faults g.S.Source.lender c.loop-captures.captures c.show_next.new.captures
    c.loop-captures.tally c.show_next.new.tally
    c.flush_if_due.new.text.items c.show_next.new.text.items (Ok t)) c.in-Ok-Failed.field-0-is c.in-Ok-Failed.ensures in
    let flushed =
    along-flushed (rest g.S.Source.left c.args.captures.now)
    (records_from c.args.captures.now.format 0 0 24) c.loop-captures.captures.format c.loop-captures.captures.number
    c.loop-captures.captures.given
    (rest g.S.Source.left c.loop-captures.captures) c.loop-captures.tally c.loop-captures.text.items c.flush_if_due.new.text.items
    (g.K.Sink.taken c.args.output.now) (g.K.Sink.taken c.loop-captures.output)
    (g.K.Sink.taken c.flush_if_due.new.output) c.flush_if_due.result c.loop-captures.invariant.along
    c.flush_if_due.ensures.moved (sym c.is_err.ensures.value ∙ c.if-is_err.false) in
    let text = c.deref.ensures.value ∙ turns.1 in
    IfSome_then (rest g.S.Source.left c.args.captures.now) flushed (λ bytes along.
    shown-early c.loop-captures.captures.format c.loop-captures.captures.number c.loop-captures.captures.given (rest g.S.Source.left c.loop-captures.captures)
    (g.S.Source.left c.show_next.new.captures.source)
    c.loop-captures.tally c.flush_if_due.new.text.items (g.K.Sink.taken c.args.output.now) (g.K.Sink.taken c.flush_if_due.new.output)
    (g.K.Sink.taken c.cut_off.new.output) (records_from c.args.captures.now.format 0 0 24 bytes) bytes c.cut_off.result (inl c.cut_off.ensures.same) along
    (subst (HasBegun (g.K.Sink.taken c.flush_if_due.new.output) (g.K.Sink.taken c.cut_off.new.output)) text c.cut_off.ensures.front))

pub returns-in-Err-clause-shows : goal.returns-in-Err-clause-shows
returns-in-Err-clause-shows g c =
    let flushed =
    along-flushed (rest g.S.Source.left c.args.captures.now)
    (records_from c.args.captures.now.format 0 0 24) c.loop-captures.captures.format c.loop-captures.captures.number
    c.loop-captures.captures.given
    (rest g.S.Source.left c.loop-captures.captures) c.loop-captures.tally c.loop-captures.text.items c.flush_if_due.new.text.items
    (g.K.Sink.taken c.args.output.now) (g.K.Sink.taken c.loop-captures.output)
    (g.K.Sink.taken c.flush_if_due.new.output) c.flush_if_due.result c.loop-captures.invariant.along
    c.flush_if_due.ensures.moved (sym c.is_err.ensures.value ∙ c.if-is_err.false) in
    let text = c.deref-in-Err.ensures.value ∙ c.in-Err.ensures.1 in
    IfSome_then (rest g.S.Source.left c.args.captures.now) flushed (λ bytes along.
    shown-early c.loop-captures.captures.format c.loop-captures.captures.number c.loop-captures.captures.given (rest g.S.Source.left c.loop-captures.captures)
    (g.S.Source.left c.show_next.new.captures.source)
    c.loop-captures.tally c.flush_if_due.new.text.items (g.K.Sink.taken c.args.output.now) (g.K.Sink.taken c.flush_if_due.new.output)
    (g.K.Sink.taken c.cut_off-in-Err.new.output) (records_from c.args.captures.now.format 0 0 24 bytes) bytes c.cut_off-in-Err.result
    (inr (inr c.cut_off-in-Err.ensures.same)) along
    (subst (HasBegun (g.K.Sink.taken c.flush_if_due.new.output) (g.K.Sink.taken c.cut_off-in-Err.new.output)) text c.cut_off-in-Err.ensures.front))
