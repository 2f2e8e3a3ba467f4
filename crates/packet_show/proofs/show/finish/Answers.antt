-- The last write failed: a prefix of the last line follows the text.
use Rattle.std.proofs.Common.{rules, ◌≡◌, ◌∙◌, ap, sym, refl, inl, inr, ◌++◌, [], List, ℕ, subst}
use Rattle.std.specs.Io.KnownBytes.{append_known}
use Rattle.packet_show.specs.CaptureText.{last_line}
use Rattle.tool_text.specs.Ends.{HasBegun}
use Rattle.tool_text.specs.declared.output.status.JobEnd.TheVariants as ended
use Rattle.tool_text.proofs.Ending.{begun-by, on-err}
use Rattle.packet_show.proofs.Showing.{closes-cut, closes-early, memory-for, write-for}
use Rattle.packet_show.proofs.show.finish.Goals as goal

pub returns-then-is_err-clause-closes : goal.returns-then-is_err-clause-closes
returns-then-is_err-clause-closes g c =
    closes-early c.args.text.now.items (last_line c.args.tally.now c.args.end) c.args.end ended.Write _ _ (inr (inl refl))
    (begun-by c.flush.result _ _ c.args.text.now.items c.flush.ensures.taken c.flush.ensures.front)

pub returns-then-is_err-clause-cause : goal.returns-then-is_err-clause-cause
returns-then-is_err-clause-cause g c = write-for (on-err c.flush.result _ c.flush.ensures.cause (sym c.is_err.ensures.value ∙ c.if-is_err.true))

pub returns-then-is_err-2-clause-closes : goal.returns-then-is_err-2-clause-closes
returns-then-is_err-2-clause-closes g c =
    closes-early c.args.text.now.items (last_line c.args.tally.now c.args.end) c.args.end ended.Memory _ _ (inr (inr refl))
    (begun-by c.flush.result _ _ c.args.text.now.items c.flush.ensures.taken c.flush.ensures.front)

pub returns-then-is_err-2-clause-cause : goal.returns-then-is_err-2-clause-cause
returns-then-is_err-2-clause-cause g c = memory-for

pub returns-in-Err-clause-closes : goal.returns-in-Err-clause-closes
returns-in-Err-clause-closes g c =
    let last = last_line c.args.tally.now c.args.end in
    let taken : g.K.Sink.taken c.flush.new.output ≡ append_known (g.K.Sink.taken c.args.output.now) c.args.text.now.items = search rules in
    let empty : c.flush.new.text.items ≡ [] = search rules in
    let put : c.put_last_line.new.text.items ≡ c.flush.new.text.items ++ last = search rules in
    let line : c.deref.result.now ≡ last = c.deref.ensures.value ∙ put ∙ ap (λ (front : List ℕ). front ++ last) empty in
    let front = c.in-Err.ensures.front in
    closes-cut c.args.text.now.items last c.args.end (g.K.Sink.taken c.args.output.now) (g.K.Sink.taken c.flush.new.output)
    (g.K.Sink.taken c.write_all.new.sink) taken
    (subst (HasBegun (g.K.Sink.taken c.flush.new.output) (g.K.Sink.taken c.write_all.new.sink)) line (front.0, front.2))
