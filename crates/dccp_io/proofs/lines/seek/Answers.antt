-- The scan goes on after what was scanned.
use Rattle.std.proofs.Common.{rules, ◌∙◌, ap}
use Rattle.dccp_io.specs.Ahead.{BytesAhead}
use Rattle.dccp_io.proofs.NextLine.{scanned}
use Rattle.dccp_io.proofs.lines.seek.Goals as goal

pub text_length-seen-requires-clause-inside : goal.text_length-seen-requires-clause-inside
text_length-seen-requires-clause-inside g c =
    let came = c.in_ok-count.ensures.read in
    let joined = c.pending-in-loop-seen.ensures.value ∙ ap (λ (ahead : BytesAhead). ahead.pending) came.2.following in
    (scanned c.loop-seen.ahead.pending came.0 c.pending-in-loop-seen.result.now c.loop-seen.seen c.loop-seen.invariant.seen_is (search rules) joined).0

pub text_length-seen-requires-clause-before : goal.text_length-seen-requires-clause-before
text_length-seen-requires-clause-before g c =
    let came = c.in_ok-count.ensures.read in
    let joined = c.pending-in-loop-seen.ensures.value ∙ ap (λ (ahead : BytesAhead). ahead.pending) came.2.following in
    (scanned c.loop-seen.ahead.pending came.0 c.pending-in-loop-seen.result.now c.loop-seen.seen c.loop-seen.invariant.seen_is (search rules) joined).1
