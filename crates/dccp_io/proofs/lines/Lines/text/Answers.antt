-- The text is a prefix of the line.
use Rattle.std.proofs.Common.{arith, ◌≡◌, ◌≤◌, sym, ap, ◌∙◌, length, take}
use Rattle.std.proofs.lemmas.List.{length-take-le}
use Rattle.dccp_io.specs.Lines.{LinesState}
use Rattle.dccp_io.proofs.NextLine.{text_length_fits}
use Rattle.dccp_io.proofs.lines.Lines.text.Goals as goal

pub slice_bounds-result-end : goal.slice_bounds-result-end
slice_bounds-result-end g c =
    let inside = c.self.inside in
    let line : c.line.result.now ≡ take inside.used inside.ahead.pending = c.line.ensures
    ∙ sym (ap (λ (l : LinesState g.row.S.Denot). l.line) c.self.view_is) in
    let size = ap length line in
    let fits = text_length_fits (take inside.used inside.ahead.pending) in
    let short : inside.text ≤ length c.line.result.now = omega (arith, size, fits, c.self.invariant.4) in
    sym (length-take-le inside.text c.line.result.now short)
